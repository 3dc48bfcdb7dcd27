-- Document 01, "Door corner", the listing program: 'prints "net" with the refined width and height, then per refined
-- vertex, row by row, column, row, x, y, z of the surface point', and 'A refusal prints one line, "refused", a space
-- and the number'. Texts are bytes in ASCII.
use Rattle.std.specs.Prelude.{◌≡◌, refl, List, [], ◌∷◌, ◌++◌, ℕ, zero, suc, ◌+◌, ◌-◌, ◌*◌, ◌/◌, ◌%◌, ℤ, pos, negsuc, length}
use Rattle.exact.specs.Rounding.{rounded, floor_quotient}
use Rattle.exact.specs.Filling.{runs}
use Rattle.net.specs.Net.{control_point, control_triangle, squares}
use Rattle.spline.specs.Spline.{spline}
use Rattle.surface.specs.SurfacePoint.{coordinate}
use Rattle.decimal.specs.Decimal.{digits_of, decimal, signed_decimal}

abbrev pub space : List ℕ
space = 32 ∷ []

abbrev pub line_end : List ℕ
line_end = 10 ∷ []

-- "net" and "refused"
abbrev pub net_word : List ℕ
net_word = 110 ∷ 101 ∷ 116 ∷ []

abbrev pub refused_word : List ℕ
refused_word = 114 ∷ 101 ∷ 102 ∷ 117 ∷ 115 ∷ 101 ∷ 100 ∷ []

-- '"net" with the refined width and height'
unfoldable pub head_line : ℕ → ℕ → List ℕ
head_line w h = net_word ++ space ++ decimal w ++ space ++ decimal h ++ line_end

-- 'column, row, x, y, z'
unfoldable pub point_line : ℕ → ℕ → ℤ → ℤ → ℤ → List ℕ
point_line i j x y z =
    decimal i ++ space ++ decimal j ++ space ++ signed_decimal x ++ space ++ signed_decimal y ++ space ++ signed_decimal z
    ++ line_end

-- '"refused", a space and the number'
unfoldable pub refusal_line : ℕ → List ℕ
refusal_line n = refused_word ++ space ++ decimal n ++ line_end

-- no line is longer, where a side has at most 1,025 vertices and numbers have 32 bits: "1024 1024 -2147483648
-- -2147483648 -2147483648" and the line end
abbrev pub longest_line : ℕ
longest_line = 46

-- the line of vertex (i, j) of a net of width w and height h: 'x, y, z of the surface point', which is at place (1024i,
-- 1024j)
abbrev pub vertex_line : List ℤ → ℕ → ℕ → ℕ → ℕ → List ℕ
vertex_line net w h i j =
    point_line i j
    (coordinate net w h (1024 * i) (1024 * j) 0)
    (coordinate net w h (1024 * i) (1024 * j) 1)
    (coordinate net w h (1024 * i) (1024 * j) 2)

-- the whole listing: the first line, and 'per refined vertex, row by row' its line
unfoldable pub listing : List ℤ → ℕ → ℕ → List ℕ
listing net w h = head_line w h ++ runs h (λ j. runs w (λ i. vertex_line net w h i j))

-- the listing in pieces: 0 is the first line, and n above 0 the line of vertex n - 1, row by row. One after the other
-- they are the listing (`pieces_list`).
unfoldable pub piece_text : List ℤ → ℕ → ℕ → ℕ → List ℕ
piece_text net w h zero = head_line w h
piece_text net w h (suc n) = vertex_line net w h (n % w) (n / w)

-- the pieces from `first` up to `next`, which is not among them, one after the other
unfoldable pub pieces_text : List ℤ → ℕ → ℕ → ℕ → ℕ → List ℕ
pieces_text net w h first next = runs (next - first) (λ i. piece_text net w h (first + i))

-- worked cases: the first lines of nets of 3 by 3 and of 3 by 15, a line of document 01's listing, a line with numbers
-- below zero, a longest line, and the line of refusal 12; piece 6 of a net of 3 by 3 is the line of vertex (2, 1), and
-- piece 4 of a net of 2 by 3 that of vertex (1, 1); pieces 3 and 4 of that net, and no pieces; the line of vertex (1,
-- 2) of the net of 2 by 3 whose numbers are the squares. `DoorListing.antt` has the whole listing of the door corner.
head_of_three : head_line 3 3 ≡ 110 ∷ 101 ∷ 116 ∷ 32 ∷ 51 ∷ 32 ∷ 51 ∷ 10 ∷ []
unfolding head_line decimal digits_of
head_of_three = refl

-- net 3 15
width_first : head_line 3 15 ≡ 110 ∷ 101 ∷ 116 ∷ 32 ∷ 51 ∷ 32 ∷ 49 ∷ 53 ∷ 10 ∷ []
unfolding head_line decimal digits_of
width_first = refl

-- 1 0 600 0 40
second_vertex : point_line 1 0 (pos 600) (pos 0) (pos 40) ≡ 49 ∷ 32 ∷ 48 ∷ 32 ∷ 54 ∷ 48 ∷ 48 ∷ 32 ∷ 48 ∷ 32 ∷ 52 ∷ 48
    ∷ 10 ∷ []
unfolding point_line signed_decimal decimal digits_of
second_vertex = refl

-- 12 3 -5 -40 0
numbers_below_zero : point_line 12 3 (negsuc 4) (negsuc 39) (pos 0) ≡ 49 ∷ 50 ∷ 32 ∷ 51 ∷ 32 ∷ 45 ∷ 53 ∷ 32 ∷ 45 ∷ 52
    ∷ 48 ∷ 32 ∷ 48 ∷ 10 ∷ []
unfolding point_line signed_decimal decimal digits_of
numbers_below_zero = refl

longest : length (point_line 1024 1024 (negsuc 2147483647) (negsuc 2147483647) (negsuc 2147483647)) ≡ longest_line
unfolding point_line signed_decimal decimal digits_of
longest = refl

-- refused 12
twelve_refused : refusal_line 12 ≡ 114 ∷ 101 ∷ 102 ∷ 117 ∷ 115 ∷ 101 ∷ 100 ∷ 32 ∷ 49 ∷ 50 ∷ 10 ∷ []
unfolding refusal_line decimal digits_of
twelve_refused = refl

pieces :
    (net : List ℤ) →
    (piece_text net 3 3 6 ≡ vertex_line net 3 3 2 1)
    × (piece_text net 3 3 0 ≡ head_line 3 3)
    × (piece_text net 2 3 4 ≡ vertex_line net 2 3 1 1)
unfolding piece_text
pieces net = (refl, refl, refl)

two_pieces :
    (net : List ℤ) →
    (pieces_text net 2 3 3 5 ≡ vertex_line net 2 3 0 1 ++ vertex_line net 2 3 1 1) × (pieces_text net 2 3 3 3 ≡ [])
unfolding pieces_text piece_text runs
two_pieces net = (refl, refl)

line_of_a_vertex : vertex_line (squares 54) 2 3 1 2 ≡ point_line 1 2 (pos 2310) (pos 2407) (pos 2506)
unfolding coordinate spline rounded floor_quotient control_triangle control_point
line_of_a_vertex = refl

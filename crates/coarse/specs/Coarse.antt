-- Document 01, "Split, merge, clean": the coarse net of a net.
use Rattle.std.specs.Prelude.{◌≡◌, refl, Bool, true, false, List, [], ◌∷◌, ◌++◌, map, ℕ, ◌+◌, ◌*◌, ◌/◌, ℤ, pos, negsuc, neg_ℤ, ◌+ℤ◌, ◌-ℤ◌, ◌*ℤ◌, take, drop, set, replicate}
use Rattle.exact.specs.Rounding.{rounded, floor_quotient}
use Rattle.exact.specs.Filling.{runs}
use Rattle.net.specs.Net.{Index, one, two, three, next, previous, Vertex, vertex_at, Field, field, grid, numbers, number, entry, control_point, control_triangle, stride, squares}
use Rattle.net.specs.Refusals.{net_beyond}
use Rattle.steps.specs.RefinedNet.{Fields, triangle_of, stored}

-- a side of the coarse net: each second vertex is kept
abbrev pub coarse_side : ℕ → ℕ
coarse_side n = (n + 1) / 2

-- 3 times coarse ck: 'coarse ck is (5ck - the other two)/3'
abbrev pub coarse_control : (Index → ℤ) → Index → ℤ
coarse_control c k = pos 5 *ℤ c k -ℤ (c (next k) +ℤ c (previous k))

-- 'At each vertex with even i and j', rounded: vertex (i, j) of the coarse net is vertex (2i, 2j) of the net
unfoldable pub coarsened : Field → Field
coarsened F v k = rounded (coarse_control (F (vertex_at (2 * v.column) (2 * v.row))) k) 3

-- the three fields of a stored net, its coarse control triangle at one vertex, and the coarse net as it is stored
abbrev pub coarse_fields : List ℤ → ℕ → Fields
coarse_fields net w x = coarsened (field net w x)

unfoldable pub coarse_controls : List ℤ → ℕ → Vertex → List (List ℤ)
coarse_controls net w v = triangle_of (coarse_fields net w) v

unfoldable pub coarse_net : List ℤ → ℕ → ℕ → List ℤ
coarse_net net w h = stored (coarse_fields net w) (coarse_side w) (coarse_side h)

-- 11: a coarse value outside the net range
abbrev pub coarse_beyond : List ℤ → ℕ → ℕ → Bool
coarse_beyond net w h = net_beyond (coarse_net net w h) (coarse_side w) (coarse_side h)

-- ---- the rule at one vertex, on control triangles by value

-- a coarse control point from its own control point and the other two
abbrev pub coarse_point : List ℤ → List ℤ → List ℤ → List ℤ
coarse_point c a b =
    map (λ (x : ℕ). rounded (pos 5 *ℤ number c x -ℤ (number a x +ℤ number b x)) 3) (0 ∷ 1 ∷ 2 ∷ [])

-- a coarse control triangle: control k, coordinate x
abbrev coarse_entry : List (List ℤ) → Index → ℕ → ℤ
coarse_entry c k x = rounded (coarse_control (λ l. entry c l x) k) 3

abbrev pub coarse_triangle : List (List ℤ) → List (List ℤ)
coarse_triangle c =
    map (λ (k : Index). coarse_entry c k 0 ∷ coarse_entry c k 1 ∷ coarse_entry c k 2 ∷ []) (one ∷ two ∷ three ∷ [])

-- ---- worked cases

-- document 01's 80, 20, 20 and 0, 1, 1, each times 3, and in x and z of a control triangle with nothing in y; a control
-- point; sides; of the net of 3 by 5 whose numbers are the squares, the records of vertices (0, 0) and (1, 2) of the
-- coarse 2 by 3; a coarse value just beyond the range, of the last vertex, and one at its end: 5/3 of 10,066,330 and of
-- 10,066,329
abbrev values : ℤ → ℤ → ℤ → Index → ℤ
values a b c one = a
values a b c two = b
values a b c three = c

abbrev controls : (Index → ℤ) → List ℤ
controls c = c one ∷ c two ∷ c three ∷ []

of_marked_cases :
    (controls (coarse_control (values (pos 80) (pos 20) (pos 20))) ≡ pos 360 ∷ pos 0 ∷ pos 0 ∷ [])
    × (controls (coarse_control (values (pos 0) (pos 1) (pos 1))) ≡ negsuc 1 ∷ pos 4 ∷ pos 4 ∷ [])
of_marked_cases = (refl, refl)

sides : (coarse_side 3 ≡ 2) × (coarse_side 5 ≡ 3) × (coarse_side 1025 ≡ 513)
sides = (refl, refl, refl)

abbrev kept : List (List ℤ)
kept = (pos 80 ∷ pos 0 ∷ pos 0 ∷ []) ∷ (pos 20 ∷ pos 0 ∷ pos 1 ∷ []) ∷ (pos 20 ∷ pos 0 ∷ pos 1 ∷ []) ∷ []

marked :
    coarse_triangle kept
    ≡ (pos 120 ∷ pos 0 ∷ negsuc 0 ∷ []) ∷ (pos 0 ∷ pos 0 ∷ pos 1 ∷ []) ∷ (pos 0 ∷ pos 0 ∷ pos 1 ∷ []) ∷ []
unfolding rounded floor_quotient
marked = refl

one_point :
    coarse_point (pos 3 ∷ pos 6 ∷ pos 9 ∷ []) (pos 1 ∷ pos 3 ∷ pos 6 ∷ []) (pos 2 ∷ pos 6 ∷ pos 12 ∷ [])
    ≡ pos 4 ∷ pos 7 ∷ pos 9 ∷ []
unfolding rounded floor_quotient
one_point = refl

abbrev coarse_record : ℕ → List ℤ
coarse_record n = take stride (drop (stride * n) (coarse_net (squares 135) 3 5))

coarse_of_squares :
    (coarse_record 0 ≡ map neg_ℤ (map pos (15 ∷ 20 ∷ 23 ∷ [])) ++ map pos (3 ∷ 10 ∷ 19 ∷ 57 ∷ 76 ∷ 97 ∷ []))
    × (coarse_record 5
    ≡ map pos (15105 ∷ 15352 ∷ 15601 ∷ 16635 ∷ 16894 ∷ 17155 ∷ 18201 ∷ 18472 ∷ 18745 ∷ []))
unfolding coarse_net coarsened stored grid runs rounded floor_quotient control_triangle control_point
coarse_of_squares = (refl, refl)

abbrev flat : List ℤ
flat = replicate (numbers 3 3) (pos 0)

ranges :
    (coarse_beyond (set flat 80 (negsuc 10066329)) 3 3 ≡ true) × (coarse_beyond (set flat 80 (negsuc 10066328)) 3 3 ≡ false)
unfolding net_beyond coarse_net coarsened stored grid runs rounded floor_quotient control_triangle control_point
ranges = (refl, refl)

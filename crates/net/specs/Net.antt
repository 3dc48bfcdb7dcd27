-- Document 01, "The net": indices, steps, triangles, and how a lent net stores the control triangles of its vertices.
use Rattle.std.specs.Prelude.{◌≡◌, refl, Bool, true, false, List, [], ◌∷◌, ◌++◌, ℕ, zero, suc, ◌+◌, ◌*◌, ◌/◌, ◌%◌, ◌≤◌, get_or, take, drop, ℤ, pos, negsuc, ◌+ℤ◌}
use Rattle.std.proofs.Common.{arith, lit≤}
use Rattle.exact.specs.Filling.{runs}

-- 'Indices 1, 2, 3 run in a circle': of the steps, of the controls of a vertex, and of the corners of a triangle
pub data Index : Type 0 where
  one two three : Index

-- the index after k in the circle, and the one before it
abbrev pub next : Index → Index
next one = two
next two = three
next three = one

abbrev pub previous : Index → Index
previous one = three
previous two = one
previous three = two

-- whether two indices are the same
abbrev pub same : Index → Index → Bool
same one one = true
same two two = true
same three three = true
same one two = false
same one three = false
same two one = false
same two three = false
same three one = false
same three two = false

-- whether Q is the index after P
abbrev pub is_next : Index → Index → Bool
is_next one two = true
is_next two three = true
is_next three one = true
is_next one one = false
is_next one three = false
is_next two one = false
is_next two two = false
is_next three two = false
is_next three three = false

-- how many indices stand before k in the order 1, 2, 3
abbrev pub rank : Index → ℕ
rank one = 0
rank two = 1
rank three = 2

-- vertex (i, j) has column i and row j
pub record Vertex : Type 0 where
  pub column : ℕ
  pub row : ℕ

abbrev pub vertex_at : ℕ → ℕ → Vertex
vertex_at i j = record { column = i; row = j }

-- the steps e1 = (1, 0), e2 = (-1, 1), e3 = (0, -1), by column and by row
abbrev pub step_column : Index → ℤ
step_column one = pos 1
step_column two = negsuc 0
step_column three = pos 0

abbrev pub step_row : Index → ℤ
step_row one = pos 0
step_row two = pos 1
step_row three = negsuc 0

-- one of the two triangles of cell (i, j): the down triangle, or else the up triangle
pub record Triangle : Type 0 where
  pub down : Bool
  pub column : ℕ
  pub row : ℕ

abbrev pub triangle_at : ℕ → ℕ → Bool → Triangle
triangle_at i j down = record { down = down; column = i; row = j }

-- 'Cell (i, j), with i at most w-2 and j at most h-2': a triangle of a net of width w and height h, both at least 2
abbrev pub OfNet : ℕ → ℕ → Triangle → Type 0
OfNet w h t = (t.column + 2 ≤ w) × (t.row + 2 ≤ h)

-- the corners of the up triangle of cell (i, j), in document 01's order, and of the down triangle
abbrev pub up_corner : ℕ → ℕ → Index → Vertex
up_corner i j one = vertex_at i j
up_corner i j two = vertex_at (i + 1) j
up_corner i j three = vertex_at i (j + 1)

abbrev pub down_corner : ℕ → ℕ → Index → Vertex
down_corner i j one = vertex_at (i + 1) j
down_corner i j two = vertex_at i (j + 1)
down_corner i j three = vertex_at (i + 1) (j + 1)

abbrev pub corner_of : Bool → ℕ → ℕ → Index → Vertex
corner_of false = up_corner
corner_of true = down_corner

abbrev pub corner : Triangle → Index → Vertex
corner t = corner_of t.down t.column t.row

-- one coordinate of the controls of all vertices, however they are stored: the number of control k of vertex V
abbrev pub Field : Type 0
Field = Vertex → Index → ℤ

-- 'per vertex c1, c2, c3, each x, y, z': so many numbers a control point has, and so many a vertex
abbrev pub point_stride : ℕ
point_stride = 3

abbrev pub stride : ℕ
stride = 3 * point_stride

-- 'stores vertices row by row': where the record of a vertex begins where each vertex has n numbers, and the records
-- one after the other
abbrev pub record_start : ℕ → ℕ → Vertex → ℕ
record_start n w v = n * (v.row * w + v.column)

-- vertex n of a grid of width w, counted from 0
abbrev pub vertex_of : ℕ → ℕ → Vertex
vertex_of w n = vertex_at (n % w) (n / w)

abbrev pub grid_row : (Vertex → List ℤ) → ℕ → ℕ → List ℤ
grid_row f w j = runs w (λ i. f (vertex_at i j))

unfoldable pub grid : (Vertex → List ℤ) → ℕ → ℕ → List ℤ
grid f w h = runs h (grid_row f w)

-- so many numbers a net of width w and height h has, document 01's 9wh
abbrev pub numbers : ℕ → ℕ → ℕ
numbers w h = stride * (w * h)

-- where the numbers of a vertex begin
abbrev pub start : ℕ → Vertex → ℕ
start = record_start stride

-- the numbers of a vertex, that part of the slice
abbrev pub vertex_numbers : List ℤ → ℕ → Vertex → List ℤ
vertex_numbers net w v = take stride (drop (start w v) net)

-- the number of a lent slice at a place
abbrev pub number : List ℤ → ℕ → ℤ
number net at = get_or net at (pos 0)

-- a control point, x, y, z, that begins at a place of the slice
unfoldable pub control_point : List ℤ → ℕ → List ℤ
control_point net at = number net at ∷ number net (at + 1) ∷ number net (at + 2) ∷ []

-- the control triangle of a vertex, an array of three arrays of three numbers
unfoldable pub control_triangle : List ℤ → ℕ → Vertex → List (List ℤ)
control_triangle net w v =
    control_point net (start w v) ∷ control_point net (start w v + point_stride)
    ∷ control_point net (start w v + 2 * point_stride) ∷ []

-- number x (0, 1, 2 for x, y, z) of control k of a control triangle
abbrev pub entry : List (List ℤ) → Index → ℕ → ℤ
entry c k x = get_or (get_or c (rank k) []) x (pos 0)

-- the field of coordinate x that a stored net of width w holds
abbrev pub field : List ℤ → ℕ → ℕ → Field
field net w x v k = entry (control_triangle net w v) k x

-- ---- worked cases

-- numbers that all differ, for worked cases here and in the crates above: the squares of 0 to n - 1
abbrev pub squares : ℕ → List ℤ
squares zero = []
squares (suc n) = squares n ++ pos (n * n) ∷ []

-- the steps add up to zero; the triangles of cell (3, 5); the last triangle of a net of 3 by 2, one above it and one
-- beside it; a net of 4 by 3 has 108 numbers, and vertex (1, 2) of it begins at number 81; in a grid of 3 by 2 with two
-- numbers a vertex, its column and its row, vertex (2, 1) begins at number 10 and is vertex 5; of a net of width 2,
-- vertex (0, 1) has the numbers 18 to 26, and y of its control 2 is number 22
steps_close :
    (step_column one +ℤ step_column two +ℤ step_column three ≡ pos 0)
    × (step_row one +ℤ step_row two +ℤ step_row three ≡ pos 0)
steps_close = (refl, refl)

up_corners :
    (corner (triangle_at 3 5 false) one ≡ vertex_at 3 5)
    × (corner (triangle_at 3 5 false) two ≡ vertex_at 4 5)
    × (corner (triangle_at 3 5 false) three ≡ vertex_at 3 6)
up_corners = (refl, refl, refl)

down_corners :
    (corner (triangle_at 3 5 true) one ≡ vertex_at 4 5)
    × (corner (triangle_at 3 5 true) two ≡ vertex_at 3 6)
    × (corner (triangle_at 3 5 true) three ≡ vertex_at 4 6)
down_corners = (refl, refl, refl)

last_triangle : OfNet 3 2 (triangle_at 1 0 true) × (OfNet 3 2 (triangle_at 0 1 true) → ⊥) × (OfNet 3 2 (triangle_at 2 0 true) → ⊥)
last_triangle = ((lit≤ tt, lit≤ tt), (λ o. omega (arith, o.1)), (λ o. omega (arith, o.0)))

four_by_three : (numbers 4 3 ≡ 108) × (start 4 (vertex_at 1 2) ≡ 81)
four_by_three = (refl, refl)

abbrev places : List ℤ
places = grid (λ v. pos v.column ∷ pos v.row ∷ []) 3 2

two_a_vertex :
    (places ≡ pos 0 ∷ pos 0 ∷ pos 1 ∷ pos 0 ∷ pos 2 ∷ pos 0 ∷ pos 0 ∷ pos 1 ∷ pos 1 ∷ pos 1 ∷ pos 2 ∷ pos 1 ∷ [])
    × (record_start 2 3 (vertex_at 2 1) ≡ 10)
    × (vertex_of 3 5 ≡ vertex_at 2 1)
unfolding grid runs
two_a_vertex = (refl, refl, refl)

controls_of_a_vertex :
    control_triangle (squares 36) 2 (vertex_at 0 1)
    ≡ (pos 324 ∷ pos 361 ∷ pos 400 ∷ []) ∷ (pos 441 ∷ pos 484 ∷ pos 529 ∷ []) ∷ (pos 576 ∷ pos 625 ∷ pos 676 ∷ []) ∷ []
unfolding control_triangle control_point
controls_of_a_vertex = refl

second_control : field (squares 36) 2 1 (vertex_at 0 1) two ≡ pos 484
unfolding control_triangle control_point
second_control = refl

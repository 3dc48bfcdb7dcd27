-- Document 01, "One refinement", of stored nets: what refining writes.
use Rattle.std.specs.Prelude.{◌≡◌, refl, cond, List, [], ◌∷◌, ◌++◌, map, ℕ, ◌-◌, ◌*◌, ltb, ℤ, pos, take, drop, replicate}
use Rattle.exact.specs.Rounding.{rounded, floor_quotient}
use Rattle.exact.specs.Filling.{runs}
use Rattle.net.specs.Net.{grid_row, grid, Index, one, two, three, Vertex, vertex_at, Field, control_point, control_triangle, numbers, field, stride, squares}
use Rattle.subdivision.specs.Refinement.{side_after, exact_refinement, refinement, refinements}

-- a field for each coordinate, 0, 1, 2 for x, y, z
abbrev pub Fields : Type 0
Fields = ℕ → Field

-- 'per vertex c1, c2, c3, each x, y, z': the control triangle of a vertex, and its numbers one after the other
abbrev pub point_at : Fields → Vertex → Index → List ℤ
point_at F v l = F 0 v l ∷ F 1 v l ∷ F 2 v l ∷ []

abbrev pub triangle_of : Fields → Vertex → List (List ℤ)
triangle_of F v = point_at F v one ∷ point_at F v two ∷ point_at F v three ∷ []

abbrev pub vertex_run : Fields → Vertex → List ℤ
vertex_run F v = point_at F v one ++ point_at F v two ++ point_at F v three

-- 'A lent net stores vertices row by row': the numbers of a net of width w and height h
abbrev pub row_run : Fields → ℕ → ℕ → List ℤ
row_run F = grid_row (vertex_run F)

unfoldable pub stored : Fields → ℕ → ℕ → List ℤ
stored F = grid (vertex_run F)

-- one refinement of the three fields of a stored net
abbrev pub refined_fields : List ℤ → ℕ → Fields
refined_fields net w x = refinement (field net w x)

-- the refined control triangle at one vertex of the refined grid, of the starting net alone
unfoldable pub refined_controls : List ℤ → ℕ → Vertex → List (List ℤ)
refined_controls net w v = triangle_of (refined_fields net w) v

-- the k times refined net, number for number
unfoldable pub refined_net : List ℤ → ℕ → ℕ → ℕ → List ℤ
refined_net net w h k = stored (λ x. refinements k (field net w x)) (side_after k w) (side_after k h)

-- so many numbers it has
abbrev pub numbers_after : ℕ → ℕ → ℕ → ℕ
numbers_after k w h = numbers (side_after k w) (side_after k h)

-- 'A scratch net of the size after k-1 steps is lent when k is 2 or more'
abbrev pub scratch_need : ℕ → ℕ → ℕ → ℕ
scratch_need k w h = cond (ltb k 2) 0 (numbers_after (k - 1) w h)

-- worked cases: of a net of 2 by 2 whose one number that is not 0 is z of c1 of its vertex (0, 0), document 01's 120:
-- as it is stored, no step copies it, and after one step z of the controls of vertices (0, 0), (1, 0) and (0, 1) are
-- 80, 20, 20, then 0, 60, 60, then 30, 0, 60; of the net of 2 by 3 whose numbers are the squares, no step and, after
-- one step, the records of vertices (1, 3) and (2, 4) of the 3 by 5; 17 by 17 after six steps has 9,455,625 numbers, 2
-- by 3 after one has 135, and one step needs no scratch
abbrev raised : List ℤ
raised = pos 0 ∷ pos 0 ∷ pos 120 ∷ replicate (numbers 2 2 - 3) (pos 0)

copied : (refined_net raised 2 2 0 ≡ raised) × (stored (field raised 2) 2 2 ≡ raised)
unfolding refined_net stored grid runs control_triangle control_point
copied = (refl, refl)

abbrev heights : ℕ → List ℤ
heights n = take stride (drop (stride * n) (refined_net raised 2 2 1))

refined_once :
    (heights 0 ≡ pos 0 ∷ pos 0 ∷ pos 80 ∷ pos 0 ∷ pos 0 ∷ pos 20 ∷ pos 0 ∷ pos 0 ∷ pos 20 ∷ [])
    × (heights 1 ≡ pos 0 ∷ pos 0 ∷ pos 0 ∷ pos 0 ∷ pos 0 ∷ pos 60 ∷ pos 0 ∷ pos 0 ∷ pos 60 ∷ [])
    × (heights 3 ≡ pos 0 ∷ pos 0 ∷ pos 30 ∷ pos 0 ∷ pos 0 ∷ pos 0 ∷ pos 0 ∷ pos 0 ∷ pos 60 ∷ [])
    × (refined_controls raised 2 (vertex_at 1 0) ≡ (pos 0 ∷ pos 0 ∷ pos 0 ∷ []) ∷ (pos 0 ∷ pos 0 ∷ pos 60 ∷ [])
    ∷ (pos 0 ∷ pos 0 ∷ pos 60 ∷ []) ∷ [])
unfolding refined_net refined_controls stored grid runs refinement exact_refinement rounded floor_quotient control_triangle control_point
refined_once = (refl, refl, refl, refl)

abbrev record_after : ℕ → List ℤ
record_after n = take stride (drop (stride * n) (refined_net (squares 54) 2 3 1))

of_squares_lem :
    (refined_net (squares 54) 2 3 0 ≡ squares 54)
    × (record_after 10 ≡ map pos (956 ∷ 1019 ∷ 1083 ∷ 1530 ∷ 1609 ∷ 1690 ∷ 1163 ∷ 1232 ∷ 1302 ∷ []))
    × (record_after 14 ≡ map pos (2168 ∷ 2262 ∷ 2358 ∷ 2307 ∷ 2404 ∷ 2503 ∷ 2456 ∷ 2556 ∷ 2658 ∷ []))
unfolding refined_net stored grid runs refinement exact_refinement rounded floor_quotient control_triangle control_point
of_squares_lem = (refl, refl, refl)

sizes : (numbers_after 6 17 17 ≡ 9455625) × (numbers_after 1 2 3 ≡ 135) × (scratch_need 6 17 17 ≡ 2368521)
    × (scratch_need 1 17 17 ≡ 0) × (scratch_need 2 2 2 ≡ 81)
sizes = (refl, refl, refl, refl, refl)

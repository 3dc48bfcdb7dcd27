-- Document 01, "Split, merge, clean": how lent details are stored.
use Rattle.std.specs.Prelude.{◌≡◌, refl, List, [], ◌∷◌, ◌++◌, map, ℕ, ◌+◌, ◌*◌, ℤ, pos, get_or, replicate}
use Rattle.std.proofs.lemmas.List.Edits.{sets}
use Rattle.exact.specs.Filling.{runs}
use Rattle.net.specs.Net.{Index, one, two, three, rank, Vertex, vertex_at, Field, record_start, grid, control_point, entry, squares}

-- a detail belongs to each number of a control triangle; so many numbers a control point has in details, and so many a
-- vertex, whatever it has in a net
abbrev pub detail_point_stride : ℕ
detail_point_stride = 3

abbrev pub detail_stride : ℕ
detail_stride = 3 * detail_point_stride

-- so many numbers the details of a net of width w and height h have, document 01's 9wh
abbrev pub detail_numbers : ℕ → ℕ → ℕ
detail_numbers w h = detail_stride * (w * h)

-- where the details of a vertex begin, row by row as in a net
abbrev pub detail_start : ℕ → Vertex → ℕ
detail_start = record_start detail_stride

-- the details of a vertex, an array of three arrays of three numbers
unfoldable pub detail_triangle : List ℤ → ℕ → Vertex → List (List ℤ)
detail_triangle details w v =
    control_point details (detail_start w v) ∷ control_point details (detail_start w v + detail_point_stride)
    ∷ control_point details (detail_start w v + 2 * detail_point_stride) ∷ []

-- the field of coordinate x that stored details of width w hold
abbrev pub detail_field : List ℤ → ℕ → ℕ → Field
detail_field details w x v k = entry (detail_triangle details w v) k x

-- 'number by number': the details of one control, of a vertex, and of all vertices row by row; D has the details of
-- each coordinate, 0, 1, 2 for x, y, z
abbrev pub detail_point : (ℕ → Field) → Vertex → Index → List ℤ
detail_point D v l = D 0 v l ∷ D 1 v l ∷ D 2 v l ∷ []

abbrev pub detail_controls : (ℕ → Field) → Vertex → List (List ℤ)
detail_controls D v = detail_point D v one ∷ detail_point D v two ∷ detail_point D v three ∷ []

abbrev pub detail_run : (ℕ → Field) → Vertex → List ℤ
detail_run D v = detail_point D v one ++ detail_point D v two ++ detail_point D v three

unfoldable pub stored_details : (ℕ → Field) → ℕ → ℕ → List ℤ
stored_details D = grid (detail_run D)

-- the details of a vertex, stored one control after the other from a place on
abbrev pub detail_points : List ℤ → ℕ → List (List ℤ) → List ℤ
detail_points l at d =
    sets (sets (sets l at (get_or d 0 [])) (at + detail_point_stride) (get_or d 1 [])) (at + 2 * detail_point_stride) (get_or d 2 [])

-- worked cases: details of 3 by 5 are 135 numbers, and those of vertex (2, 1) begin at number 45; of a grid of width 2,
-- y of control 2 of vertex (0, 1) is number 22; details that are 100·column + 10·row + 3·control + coordinate, of 2
-- by 1 vertices
places : (detail_numbers 3 5 ≡ 135) × (detail_start 3 (vertex_at 2 1) ≡ 45)
places = (refl, refl)

second_control : detail_field (squares 36) 2 1 (vertex_at 0 1) two ≡ pos 484
unfolding detail_triangle control_point
second_control = refl

abbrev counted : ℕ → Field
counted x v l = pos (100 * v.column + 10 * v.row + 3 * rank l + x)

in_order_lem :
    stored_details counted 2 1
    ≡ map pos (0 ∷ 1 ∷ 2 ∷ 3 ∷ 4 ∷ 5 ∷ 6 ∷ 7 ∷ 8 ∷ 100 ∷ 101 ∷ 102 ∷ 103 ∷ 104 ∷ 105 ∷ 106 ∷ 107 ∷ 108 ∷ [])
unfolding stored_details grid runs
in_order_lem = refl

nine_of_ten :
    detail_points (replicate 10 (pos 0)) 0
    ((pos 1 ∷ pos 2 ∷ pos 3 ∷ []) ∷ (pos 4 ∷ pos 5 ∷ pos 6 ∷ []) ∷ (pos 7 ∷ pos 8 ∷ pos 9 ∷ []) ∷ [])
    ≡ map pos (1 ∷ 2 ∷ 3 ∷ 4 ∷ 5 ∷ 6 ∷ 7 ∷ 8 ∷ 9 ∷ 0 ∷ [])
nine_of_ten = refl

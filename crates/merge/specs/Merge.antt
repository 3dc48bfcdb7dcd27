-- Document 01, "Split, merge, clean": the net that a coarse net and details merge to.
use Rattle.std.specs.Prelude.{◌≡◌, refl, List, [], ◌∷◌, ◌++◌, map, ℕ, ◌*◌, ℤ, pos, negsuc, ◌+ℤ◌, take, drop, replicate}
use Rattle.exact.specs.Rounding.{rounded, floor_quotient}
use Rattle.exact.specs.Filling.{runs}
use Rattle.net.specs.Net.{Index, one, two, three, vertex_at, Field, field, number, entry, grid, control_point, control_triangle, stride, squares}
use Rattle.subdivision.specs.Refinement.{refined_side, refinement, exact_refinement}
use Rattle.steps.specs.RefinedNet.{Fields, vertex_run, stored}
use Rattle.details.specs.Details.{detail_triangle, detail_field}

-- 'adds details of the fine size to one refinement of coarse': each refined value is rounded first, and the detail is
-- added to the whole number
unfoldable pub merged : Field → Field → Field
merged C D v k = refinement C v k +ℤ D v k

-- the three fields of a stored coarse net of width w and of stored details of the fine width, and the merged net as it
-- is stored
abbrev pub merged_fields : List ℤ → List ℤ → ℕ → Fields
merged_fields coarse details w x = merged (field coarse w x) (detail_field details (refined_side w) x)

unfoldable pub merged_net : List ℤ → List ℤ → ℕ → ℕ → List ℤ
merged_net coarse details w h = stored (merged_fields coarse details w) (refined_side w) (refined_side h)

-- details of width w added to a refined row that stands in a slice of its own
abbrev pub row_sums : List ℤ → List ℤ → ℕ → Fields
row_sums row details w x v k = field row w x (vertex_at v.column 0) k +ℤ detail_field details w x v k

-- the sums at one vertex, on control triangles by value
abbrev pub sum_point : List ℤ → List ℤ → List ℤ
sum_point a b = map (λ (x : ℕ). number a x +ℤ number b x) (0 ∷ 1 ∷ 2 ∷ [])

abbrev pub sums : List (List ℤ) → List (List ℤ) → List (List ℤ)
sums a b =
    map (λ (k : Index). (entry a k 0 +ℤ entry b k 0) ∷ (entry a k 1 +ℤ entry b k 1) ∷ (entry a k 2 +ℤ entry b k 2) ∷ [])
    (one ∷ two ∷ three ∷ [])

-- ---- worked cases

-- of the net of 2 by 3 whose numbers are the squares and of details 0, 1000, 2000, .., the records of vertices (0, 0),
-- (1, 3) and (2, 4) of the 3 by 5; the same details, of width 2, added to a row of sevens and eights; sums of numbers
-- that all differ
abbrev thousands : ℕ → List ℤ
thousands n = runs n (λ i. pos (1000 * i) ∷ [])

abbrev record3 : List ℤ → ℕ → List ℤ
record3 l n = take stride (drop (stride * n) l)

of_squares_lem :
    (record3 (merged_net (squares 54) (thousands 135) 2 3) 0
    ≡ map pos (8 ∷ 1012 ∷ 2018 ∷ 3012 ∷ 4019 ∷ 5028 ∷ 6026 ∷ 7036 ∷ 8048 ∷ []))
    × (record3 (merged_net (squares 54) (thousands 135) 2 3) 10
    ≡ map pos (90956 ∷ 92019 ∷ 93083 ∷ 94530 ∷ 95609 ∷ 96690 ∷ 97163 ∷ 98232 ∷ 99302 ∷ []))
    × (record3 (merged_net (squares 54) (thousands 135) 2 3) 14
    ≡ map pos (128168 ∷ 129262 ∷ 130358 ∷ 131307 ∷ 132404 ∷ 133503 ∷ 134456 ∷ 135556 ∷ 136658 ∷ []))
unfolding merged_net merged stored grid runs refinement exact_refinement rounded floor_quotient detail_triangle control_triangle control_point
of_squares_lem = (refl, refl, refl)

in_a_row :
    vertex_run (row_sums (replicate 9 (pos 7) ++ replicate 9 (pos 8)) (thousands 36) 2) (vertex_at 1 1)
    ≡ map pos (27008 ∷ 28008 ∷ 29008 ∷ 30008 ∷ 31008 ∷ 32008 ∷ 33008 ∷ 34008 ∷ 35008 ∷ [])
unfolding runs detail_triangle control_triangle control_point
in_a_row = refl

of_a_point : sum_point (pos 3 ∷ pos 6 ∷ pos 9 ∷ []) (pos 1 ∷ negsuc 6 ∷ pos 6 ∷ []) ≡ pos 4 ∷ negsuc 0 ∷ pos 15 ∷ []
of_a_point = refl

nine_sums :
    sums ((pos 11 ∷ pos 22 ∷ pos 33 ∷ []) ∷ (pos 44 ∷ pos 55 ∷ pos 66 ∷ []) ∷ (pos 77 ∷ pos 88 ∷ pos 99 ∷ []) ∷ [])
    ((pos 1 ∷ pos 2 ∷ pos 3 ∷ []) ∷ (pos 4 ∷ pos 5 ∷ pos 6 ∷ []) ∷ (pos 7 ∷ pos 8 ∷ pos 9 ∷ []) ∷ [])
    ≡ (pos 12 ∷ pos 24 ∷ pos 36 ∷ []) ∷ (pos 48 ∷ pos 60 ∷ pos 72 ∷ []) ∷ (pos 84 ∷ pos 96 ∷ pos 108 ∷ []) ∷ []
nine_sums = refl

-- Document 01, "Split, merge, clean": the details of a net.
use Rattle.std.specs.Prelude.{◌≡◌, refl, List, [], ◌∷◌, ◌++◌, map, ℕ, ◌+◌, ◌*◌, ◌≤◌, ◌<◌, ℤ, pos, negsuc, neg_ℤ, ◌-ℤ◌, length, take, drop, replicate}
use Rattle.exact.specs.Rounding.{rounded, floor_quotient}
use Rattle.exact.specs.Filling.{runs}
use Rattle.net.specs.Net.{Index, one, two, three, vertex_at, Field, field, stride, grid, number, entry, control_point, control_triangle, squares}
use Rattle.net.specs.Refusals.{net_limit, ControlsWithin, AcceptedNet}
use Rattle.subdivision.specs.Refinement.{refinement, exact_refinement}
use Rattle.coarse.specs.Coarse.{coarse_side, coarsened, coarse_fields}
use Rattle.details.specs.Details.{detail_run, stored_details, detail_stride}

-- 'Detail is the net minus one refinement of coarse, number by number': of one coordinate of a net and of a coarse net
unfoldable pub detail_of : Field → Field → Field
detail_of F C v k = F v k -ℤ refinement C v k

-- the details of a net against a coarse net that stands in a slice, and against its own
abbrev pub details_against : List ℤ → List ℤ → ℕ → ℕ → List ℤ
details_against net coarse w h = stored_details (λ x. detail_of (field net w x) (field coarse (coarse_side w) x)) w h

unfoldable pub net_details : List ℤ → ℕ → ℕ → List ℤ
net_details net w h = stored_details (λ x. detail_of (field net w x) (coarse_fields net w x)) w h

-- ---- the rule at one vertex, on control triangles by value

-- the details of a vertex, from its control triangle and the refined one
abbrev pub difference_point : List ℤ → List ℤ → List ℤ
difference_point a b = map (λ (x : ℕ). number a x -ℤ number b x) (0 ∷ 1 ∷ 2 ∷ [])

abbrev pub differences : List (List ℤ) → List (List ℤ) → List (List ℤ)
differences a b =
    map (λ (k : Index). (entry a k 0 -ℤ entry b k 0) ∷ (entry a k 1 -ℤ entry b k 1) ∷ (entry a k 2 -ℤ entry b k 2) ∷ [])
    (one ∷ two ∷ three ∷ [])

-- a net of width w less a refined row that stands in a slice of its own
abbrev pub row_differences : List ℤ → List ℤ → ℕ → ℕ → Field
row_differences net row w x v k = field net w x v k -ℤ field row w x (vertex_at v.column 0) k

-- what is known of a net and of a refined row at row j
pub record RowSplittable (net row : List ℤ) (w h j : ℕ) : Type 0 where
  pub given : AcceptedNet net w h
  pub lies : j < h
  pub room : stride * w ≤ length row
  pub small : (i : ℕ) → i < w → ControlsWithin net_limit (control_triangle row w (vertex_at i 0))

-- ---- worked cases

-- of the net of 3 by 5 whose numbers are the squares, the details of vertices (0, 1), (1, 3) and (2, 4); vertex (1, 1)
-- of the squares less a row of ones and twos; differences of numbers that all differ
abbrev detail_record : ℕ → List ℤ
detail_record n = take detail_stride (drop (detail_stride * n) (net_details (squares 135) 3 5))

details_of_squares :
    (detail_record 3
    ≡ map neg_ℤ (map pos (1884 ∷ 1917 ∷ 1950 ∷ 1884 ∷ 1917 ∷ 1950 ∷ [])) ++ map pos (1095 ∷ 1161 ∷ 1227 ∷ []))
    × (detail_record 10
    ≡ map pos (1356 ∷ 1374 ∷ 1392 ∷ []) ++ map neg_ℤ (map pos (3684 ∷ 3720 ∷ 3756 ∷ []))
    ++ map pos (1356 ∷ 1374 ∷ 1392 ∷ []))
    × (detail_record 14 ≡ map pos (0 ∷ 0 ∷ 0 ∷ 0 ∷ 0 ∷ 0 ∷ 0 ∷ 0 ∷ 0 ∷ []))
unfolding net_details detail_of coarsened stored_details grid runs refinement exact_refinement rounded floor_quotient control_triangle control_point
details_of_squares = (refl, refl, refl)

of_a_point : difference_point (pos 3 ∷ pos 6 ∷ pos 9 ∷ []) (pos 1 ∷ pos 7 ∷ pos 6 ∷ []) ≡ pos 2 ∷ negsuc 0 ∷ pos 3 ∷ []
of_a_point = refl

in_a_row :
    detail_run (row_differences (squares 36) (replicate 9 (pos 1) ++ replicate 9 (pos 2)) 2) (vertex_at 1 1)
    ≡ map pos (727 ∷ 782 ∷ 839 ∷ 898 ∷ 959 ∷ 1022 ∷ 1087 ∷ 1154 ∷ 1223 ∷ [])
unfolding runs control_triangle control_point
in_a_row = refl

nine_differences :
    differences ((pos 11 ∷ pos 22 ∷ pos 33 ∷ []) ∷ (pos 44 ∷ pos 55 ∷ pos 66 ∷ []) ∷ (pos 77 ∷ pos 88 ∷ pos 99 ∷ []) ∷ [])
    ((pos 1 ∷ pos 2 ∷ pos 3 ∷ []) ∷ (pos 4 ∷ pos 5 ∷ pos 6 ∷ []) ∷ (pos 7 ∷ pos 8 ∷ pos 9 ∷ []) ∷ [])
    ≡ (pos 10 ∷ pos 20 ∷ pos 30 ∷ []) ∷ (pos 40 ∷ pos 50 ∷ pos 60 ∷ []) ∷ (pos 70 ∷ pos 80 ∷ pos 90 ∷ []) ∷ []
nine_differences = refl

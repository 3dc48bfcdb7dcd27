-- Demand 3, of the definitions: how far the points computed from a refined net are from the exact spline of the
-- starting net, and between which control values they lie. `demand_three_lem` in proofs/DemandThree.antt proves it.
use Rattle.std.specs.Prelude.{◌≡◌, refl, true, false, cond, List, [], ◌∷◌, ℕ, ◌+◌, ◌*◌, ◌^◌, ◌≤◌, ◌<◌, ℤ, pos, negsuc, nat_abs, ◌-ℤ◌, ◌*ℤ◌, ◌≤ℤ◌}
use Rattle.std.proofs.Common.{arith, lit≤}
use Rattle.std.specs.Int.Signed.{le_z, le_z_yes}
use Rattle.exact.specs.Rounding.{rounded}
use Rattle.net.specs.Net.{Triangle, triangle_at, OfNet, Field, control_point, control_triangle, field, squares}
use Rattle.net.specs.Refusals.{AcceptedNet}
use Rattle.places.specs.Places.{OnGrid, LiesIn}
use Rattle.triangles.specs.BezierPoints.{controls_of, control_list}
use Rattle.spline.specs.Spline.{spline}
use Rattle.subdivision.specs.Refinement.{refinements, side_after}

-- 'the least and the greatest of the nine control values'
abbrev pub least : List ℤ → ℤ
least [] = pos 0
least (z ∷ []) = z
least (z ∷ y ∷ ys) = cond (le_z z (least (y ∷ ys))) z (least (y ∷ ys))

abbrev pub greatest : List ℤ → ℤ
greatest [] = pos 0
greatest (z ∷ []) = z
greatest (z ∷ y ∷ ys) = cond (le_z z (greatest (y ∷ ys))) (greatest (y ∷ ys)) z

abbrev pub WithinControls : Field → Triangle → ℤ → Type 0
WithinControls F t z = (least (control_list (controls_of F t)) ≤ℤ z) × (z ≤ℤ greatest (control_list (controls_of F t)))

-- the rounded point of the k times refined field, in one coordinate; 37,748,736 is 36·1024²
abbrev pub refined_coordinate : Field → ℕ → ℕ → ℕ → ℕ → ℕ → ℤ
refined_coordinate F w h k p q = rounded (spline (refinements k F) (side_after k w) (side_after k h) 1024 p q) 37748736

-- 'edge count 1024 times 2 to the power k', at which place (p, q) of the refined net is place (p, q) of the starting
-- net
abbrev pub fine_edge : ℕ → ℕ
fine_edge k = 1024 * 2 ^ k

-- 'within (k+1)/2 units of the exact spline': the spline is whole times 36·D², and the half is cleared by 2
abbrev pub NearSpline : Field → ℕ → ℕ → ℕ → ℕ → ℕ → ℤ → Type 0
NearSpline F w h k p q z = (let D = fine_edge k in 2 * nat_abs (pos (36 * (D * D)) *ℤ z -ℤ spline F w h D p q) ≤ (k + 1) * (36 * (D * D)))

-- demand 3: coordinate x (0, 1, 2 for x, y, z) of a place of the grid after k steps
abbrev pub DemandThree : Type 0
DemandThree =
    (net : List ℤ) (w h : ℕ) → AcceptedNet net w h → (k p q x : ℕ) → x < 3 →
    OnGrid 1024 (side_after k w) (side_after k h) p q →
    NearSpline (field net w x) w h k p q (refined_coordinate (field net w x) w h k p q)
    × ((t : Triangle) → OfNet w h t → LiesIn (fine_edge k) p q t → WithinControls (field net w x) t (refined_coordinate (field net w x) w h k p q))

-- worked cases: of 3, -2 and 5; six steps; a net of 7s: after one step 8 is near the spline, and 9 is not, without a
-- step 8 is not; of the net of 2 by 2 whose numbers are the squares, x of the up triangle goes from 0 to 576 and of the
-- down triangle from 81 to 1,089
limits : (least (pos 3 ∷ negsuc 1 ∷ pos 5 ∷ []) ≡ negsuc 1) × (greatest (pos 3 ∷ negsuc 1 ∷ pos 5 ∷ []) ≡ pos 5)
    × (fine_edge 6 ≡ 65536)
limits = (refl, refl, refl)

abbrev sevens : Field
sevens v k = pos 7

near_sevens : NearSpline sevens 2 2 1 0 0 (pos 8)
unfolding spline
near_sevens = lit≤ tt

far_from_sevens : (NearSpline sevens 2 2 1 0 0 (pos 9) → ⊥) × (NearSpline sevens 2 2 0 0 0 (pos 8) → ⊥)
unfolding spline
far_from_sevens = ((λ e. omega (arith, e)), (λ e. omega (arith, e)))

abbrev by_x : Field
by_x = field (squares 36) 2 0

within_squares :
    WithinControls by_x (triangle_at 0 0 false) (pos 0)
    × WithinControls by_x (triangle_at 0 0 false) (pos 576)
    × WithinControls by_x (triangle_at 0 0 true) (pos 81)
    × WithinControls by_x (triangle_at 0 0 true) (pos 1089)
unfolding control_triangle control_point
within_squares =
    ((le_z_yes tt, le_z_yes tt), (le_z_yes tt, le_z_yes tt), (le_z_yes tt, le_z_yes tt), (le_z_yes tt, le_z_yes tt))

outside_squares :
    (WithinControls by_x (triangle_at 0 0 false) (pos 577) → ⊥)
    × (WithinControls by_x (triangle_at 0 0 false) (negsuc 0) → ⊥)
    × (WithinControls by_x (triangle_at 0 0 true) (pos 80) → ⊥)
    × (WithinControls by_x (triangle_at 0 0 true) (pos 1090) → ⊥)
unfolding control_triangle control_point
outside_squares = ((λ e. e.1.le), (λ e. e.0.le), (λ e. e.0.le), (λ e. e.1.le))

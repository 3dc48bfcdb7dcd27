-- Worked cases of `Claimed`: answers of which demand 3 is not claimed. Of the net of 2 by 2 whose numbers are the
-- squares, the spline at (0, 0) is 15, 22, 31: not claimed are an answer that refuses, one that lacks a number and,
-- without a step, one that is a unit off in a coordinate. Of a net of 7s after one step, 8 is near the spline, and not
-- within the control values.
use Rattle.std.specs.Prelude.{false, List, [], ◌∷◌, ℤ, pos, replicate}
use Rattle.std.proofs.Common.{arith, lit<, lit≤}
use Rattle.net.specs.Net.{Triangle, triangle_at, numbers, control_point, control_triangle, squares}
use Rattle.spline.specs.Spline.{spline}
use Rattle.refined_points.specs.DemandThree.{Claimed}

not_answered : (Claimed (squares 36) 2 2 0 0 0 (3, pos 15 ∷ pos 22 ∷ pos 31 ∷ []) → ⊥)
    × (Claimed (squares 36) 2 2 0 0 0 (0, pos 15 ∷ pos 22 ∷ []) → ⊥)
not_answered = ((λ c. omega (arith, c.answered)), (λ c. omega (arith, c.point)))

not_near :
    (Claimed (squares 36) 2 2 0 0 0 (0, pos 16 ∷ pos 22 ∷ pos 31 ∷ []) → ⊥)
    × (Claimed (squares 36) 2 2 0 0 0 (0, pos 15 ∷ pos 23 ∷ pos 31 ∷ []) → ⊥)
    × (Claimed (squares 36) 2 2 0 0 0 (0, pos 15 ∷ pos 22 ∷ pos 32 ∷ []) → ⊥)
unfolding spline control_triangle control_point
not_near = (
  (λ c. omega (arith, c.near 0 (lit< tt))),
  (λ c. omega (arith, c.near 1 (lit< tt))),
  (λ c. omega (arith, c.near 2 (lit< tt))),
)

abbrev up : Triangle
up = triangle_at 0 0 false

abbrev sevens : List ℤ
sevens = replicate (numbers 2 2) (pos 7)

not_within :
    (Claimed sevens 2 2 1 0 0 (0, pos 8 ∷ pos 7 ∷ pos 7 ∷ []) → ⊥)
    × (Claimed sevens 2 2 1 0 0 (0, pos 7 ∷ pos 8 ∷ pos 7 ∷ []) → ⊥)
    × (Claimed sevens 2 2 1 0 0 (0, pos 7 ∷ pos 7 ∷ pos 8 ∷ []) → ⊥)
unfolding control_triangle control_point
not_within = (
  (λ c. (c.within 0 (lit< tt) up (lit≤ tt, lit≤ tt) (lit≤ tt, lit≤ tt, lit≤ tt)).1.le),
  (λ c. (c.within 1 (lit< tt) up (lit≤ tt, lit≤ tt) (lit≤ tt, lit≤ tt, lit≤ tt)).1.le),
  (λ c. (c.within 2 (lit< tt) up (lit≤ tt, lit≤ tt) (lit≤ tt, lit≤ tt, lit≤ tt)).1.le),
)

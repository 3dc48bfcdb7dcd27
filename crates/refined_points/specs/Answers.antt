-- What refining and then a surface point answers.
use Rattle.std.specs.Prelude.{◌≡◌, refl, Bool, true, false, cond, ◌||◌, List, [], ◌∷◌, ℕ, ℤ, pos, length, replicate}
use Rattle.exact.specs.Rounding.{rounded, floor_quotient}
use Rattle.exact.specs.Filling.{runs}
use Rattle.net.specs.Net.{control_point, control_triangle, grid, squares}
use Rattle.net.specs.Refusals.{accepted, net_beyond}
use Rattle.spline.specs.Spline.{spline}
use Rattle.surface.specs.SurfacePoint.{coordinate, surface_point}
use Rattle.subdivision.specs.Refinement.{side_after, exact_refinement, refinement}
use Rattle.steps.specs.RefinedNet.{stored, refined_net}
use Rattle.refine.specs.Refusals.{too_short}
use Rattle.refined_points.specs.Refusals.{refined_point_refusal}

-- the first fault of refining and then a point, where `other` is whether another lent output is too short
abbrev pub refusal_at : List ℤ → ℕ → ℕ → ℕ → ℕ → ℕ → Bool → List ℤ → List ℤ → ℕ
refusal_at net w h k p q other out scratch =
    refined_point_refusal net w h k p q (other || too_short w h k (length out) (length scratch))

-- what that answers: the surface point of the refined net
abbrev pub refined_surface_point : List ℤ → ℕ → ℕ → ℕ → ℕ → ℕ → List ℤ
refined_surface_point net w h k p q = surface_point (refined_net net w h k) (side_after k w) (side_after k h) p q

abbrev pub refined_point_answer : List ℤ → ℕ → ℕ → ℕ → ℕ → ℕ → Bool → List ℤ → List ℤ → ℕ × List ℤ
refined_point_answer net w h k p q other out scratch = (
  refusal_at net w h k p q other out scratch,
  cond (accepted (refusal_at net w h k p q other out scratch)) (refined_surface_point net w h k p q) [],
)

-- worked cases: of the net of 2 by 3 whose numbers are the squares, after one step: a point, another output that is too
-- short, and an output that is
abbrev answer_of : Bool → ℕ → ℕ × List ℤ
answer_of other room = refined_point_answer (squares 54) 2 3 1 1500 2500 other (replicate room (pos 0)) []

answers :
    (answer_of false 135 ≡ (0, pos 989 ∷ pos 1053 ∷ pos 1118 ∷ []))
    × (answer_of true 135 ≡ (5, []))
    × (answer_of false 134 ≡ (5, []))
unfolding net_beyond coordinate spline refined_net stored grid runs refinement exact_refinement rounded floor_quotient control_triangle control_point
answers = (refl, refl, refl)

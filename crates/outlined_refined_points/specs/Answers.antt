-- What refining with an outline and then a surface point answers.
use Rattle.std.specs.Prelude.{◌≡◌, refl, Bool, true, false, cond, ◌||◌, List, [], ◌∷◌, ℕ, ℤ, pos, replicate}
use Rattle.exact.specs.Rounding.{rounded, floor_quotient}
use Rattle.exact.specs.Filling.{runs}
use Rattle.net.specs.Net.{control_point, control_triangle, grid, squares}
use Rattle.net.specs.Refusals.{Fault, first_fault, accepted, net_beyond}
use Rattle.graphs.specs.Reaching.{reached, all_reached}
use Rattle.outline.specs.Connected.{connected}
use Rattle.outline.specs.Refusals.{bad_byte}
use Rattle.door.specs.Door.{on_door}
use Rattle.spline.specs.Spline.{spline}
use Rattle.surface.specs.SurfacePoint.{coordinate}
use Rattle.subdivision.specs.Refinement.{exact_refinement, refinement}
use Rattle.steps.specs.RefinedNet.{stored, refined_net}
use Rattle.refined_points.specs.Answers.{refined_surface_point}
use Rattle.outlined_refine.specs.Answers.{short_of}
use Rattle.outlined_refined_points.specs.Refusals.{point_faults_before, outlined_refined_refusal}

-- the faults before 14 and the first of all, where `other` is whether another lent output is too short
abbrev pub point_faults_of : List ℤ → ℕ → ℕ → ℕ → List ℕ → ℕ → ℕ → Bool → List ℤ → List ℤ → List ℕ → List ℕ → List Fault
point_faults_of net w h k outline p q other out scratch fine search =
    point_faults_before net w h k outline p q (other || short_of w h k out scratch fine search)

abbrev pub outlined_refusal_at : List ℤ → ℕ → ℕ → ℕ → List ℕ → ℕ → ℕ → Bool → List ℤ → List ℤ → List ℕ → List ℕ → ℕ
outlined_refusal_at net w h k outline p q other out scratch fine search =
    outlined_refined_refusal net w h k outline p q (other || short_of w h k out scratch fine search)

-- 'Points on the door are computed as before': the surface point of the refined net
abbrev pub outlined_refined_answer : List ℤ → ℕ → ℕ → ℕ → List ℕ → ℕ → ℕ → Bool → List ℤ → List ℤ → List ℕ → List ℕ → ℕ × List ℤ
outlined_refined_answer net w h k outline p q other out scratch fine search = (
  outlined_refusal_at net w h k outline p q other out scratch fine search,
  cond (accepted (outlined_refusal_at net w h k outline p q other out scratch fine search))
      (refined_surface_point net w h k p q) [],
)

-- worked cases: of the net of 2 by 3 whose numbers are the squares, after one step, with the down triangle of cell
-- (0, 0) and the up triangle above it: a point of the second; another output that is too short, and a search; and a
-- place off the door; and the first fault before 14 where the search is too short
abbrev two_of : List ℕ
two_of = 0 ∷ 1 ∷ 1 ∷ 0 ∷ []

abbrev answer_of : Bool → ℕ → ℕ → ℕ → ℕ × List ℤ
answer_of other room p q =
    outlined_refined_answer (squares 54) 2 3 1 two_of p q other (replicate 135 (pos 0)) [] (replicate 16 7) (replicate room 9)

answers :
    (answer_of false 4 500 2500 ≡ (0, pos 660 ∷ pos 710 ∷ pos 761 ∷ []))
    × (answer_of true 4 500 2500 ≡ (5, []))
    × (answer_of false 3 500 2500 ≡ (5, []))
    × (answer_of false 4 500 500 ≡ (15, []))
unfolding net_beyond bad_byte on_door connected reached all_reached coordinate spline refined_net stored grid runs refinement exact_refinement rounded floor_quotient control_triangle control_point
answers = (refl, refl, refl, refl)

short_search_lem :
    first_fault
    (point_faults_of (squares 54) 2 3 1 two_of 500 2500 false (replicate 135 (pos 0)) [] (replicate 16 7) (replicate 3 9))
    ≡ 5
unfolding bad_byte on_door
short_search_lem = refl

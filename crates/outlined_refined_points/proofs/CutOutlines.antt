-- Numbers beyond 9wh and bytes past the last triangle do not matter: refusals, answers and what is written are those of
-- the net cut after its 9wh numbers and of the outline cut after its last triangle.
use mathlib.Core.Path.{sym}
use mathlib.Core.Bool.{not, cond, ◌||◌}
use mathlib.Core.List.{[], ◌∷◌, ◌++◌}
use lib.Dec.{lit<}
use Rattle.net.specs.Refusals.{first_fault, accepted, bad_size}
use Rattle.net.proofs.Faults.{fault_none}
use Rattle.door.proofs.CutDoors.{cut_on_door}
use Rattle.surface.specs.SurfacePoint.{surface_point}
use Rattle.subdivision.specs.Refinement.{side_after}
use Rattle.bounds.specs.DemandThree.{fine_edge}
use Rattle.refine.specs.Refusals.{size_faults}
use Rattle.refine.proofs.CutNets.{cut_refined}
use Rattle.refined_points.specs.Refusals.{off_grid}
use Rattle.outlined_refine.specs.Answers.{short_of}
use Rattle.outlined_refine.proofs.CutOutlines.{cut_outlined_faults, cut_late_faults, cut_fine_after}
use Rattle.outlined_refined_points.specs.Refusals.{outlined_refined_refusal}
use Rattle.outlined_refined_points.specs.Promises.{CutOutlinedRefinedRefusal, CutPointFaultsBefore, CutOutlinedRefinedAnswer, CutFineOutputAt}

pub cut_point_faults_before : CutPointFaultsBefore
cut_point_faults_before net w h k outline p q short =
    λ t.
    size_faults w h k
    ++ ((off_grid w h k p q, 6)
    ∷ (cut_outlined_faults net w h outline t
    ++ (not (sym (cut_on_door (fine_edge k) outline w h p q) t), 15) ∷ (short, 5) ∷ []))

pub cut_outlined_refined_refusal : CutOutlinedRefinedRefusal
cut_outlined_refined_refusal net w h k outline p q short =
    λ t. first_fault (cut_point_faults_before net w h k outline p q short t ++ cut_late_faults net w h outline t)

pub cut_outlined_refined_answer : CutOutlinedRefinedAnswer
cut_outlined_refined_answer net w h k outline p q other out scratch fine search =
    let same = cut_outlined_refined_refusal net w h k outline p q (other || short_of w h k out scratch fine search) in
    λ t. (
      same t,
      cond (accepted (same t)) (surface_point (cut_refined net w h k t) (side_after k w) (side_after k h) p q) [],
    )

pub cut_fine_output_at : CutFineOutputAt
cut_fine_output_at net w h k outline p q short fine =
    cut_fine_after outline w h k fine (outlined_refined_refusal net w h k outline p q short)
    (cut_outlined_refined_refusal net w h k outline p q short) (λ e. (fault_none (bad_size w h) 1 _ (lit< tt) e).0)

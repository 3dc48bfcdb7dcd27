-- Refining with an outline and then a surface point, of the definitions: the statements, each with the name of its
-- proof.
use Rattle.std.specs.Prelude.{◌≡◌, Bool, List, ℕ, ◌≤◌, ℤ, length, take}
use Rattle.net.specs.Net.{numbers}
use Rattle.net.specs.Refusals.{output_after}
use Rattle.outline.specs.Outline.{triangles}
use Rattle.outline.specs.Promises.{Full}
use Rattle.subdivision.specs.Refinement.{side_after}
use Rattle.refined_points.specs.Answers.{refusal_at, refined_point_answer}
use Rattle.fine_outline.specs.FineOutline.{fine_outline}
use Rattle.outlined_refined_points.specs.Refusals.{point_faults_before, outlined_refined_refusal}
use Rattle.outlined_refined_points.specs.Answers.{outlined_refusal_at, outlined_refined_answer}

-- with an outline whose triangles are all present, and where the fine outline and the search have room, refusal and
-- answer are those of plain refining and then a point (`full_refined_point`)
abbrev pub FullOutlineRefinedPoints : Type 0
FullOutlineRefinedPoints =
    (net : List ℤ) (w h k : ℕ) (outline : List ℕ) (p q : ℕ) (other : Bool) (out scratch : List ℤ)
    (fine search : List ℕ) →
    Full outline w h → triangles (side_after k w) (side_after k h) ≤ length fine → triangles w h ≤ length search →
    (outlined_refusal_at net w h k outline p q other out scratch fine search ≡ refusal_at net w h k p q other out scratch)
    × (outlined_refined_answer net w h k outline p q other out scratch fine search
    ≡ refined_point_answer net w h k p q other out scratch)

-- numbers beyond 9wh and bytes past the last triangle do not matter: of the net and the outline that are cut there, the
-- refusal is the same (`cut_outlined_refined_refusal`), and so are the faults before 14, on which the free search
-- depends (`cut_point_faults_before`)
abbrev pub CutOutlinedRefinedRefusal : Type 0
CutOutlinedRefinedRefusal =
    (net : List ℤ) (w h k : ℕ) (outline : List ℕ) (p q : ℕ) (short : Bool) →
    outlined_refined_refusal net w h k outline p q short
    ≡ outlined_refined_refusal (take (numbers w h) net) w h k (take (triangles w h) outline) p q short

abbrev pub CutPointFaultsBefore : Type 0
CutPointFaultsBefore =
    (net : List ℤ) (w h k : ℕ) (outline : List ℕ) (p q : ℕ) (short : Bool) →
    point_faults_before net w h k outline p q short
    ≡ point_faults_before (take (numbers w h) net) w h k (take (triangles w h) outline) p q short

-- and so are the answer (`cut_outlined_refined_answer`) and the fine outline that an accepted call writes
-- (`cut_fine_output_at`)
abbrev pub CutOutlinedRefinedAnswer : Type 0
CutOutlinedRefinedAnswer =
    (net : List ℤ) (w h k : ℕ) (outline : List ℕ) (p q : ℕ) (other : Bool) (out scratch : List ℤ)
    (fine search : List ℕ) →
    outlined_refined_answer net w h k outline p q other out scratch fine search
    ≡ outlined_refined_answer (take (numbers w h) net) w h k (take (triangles w h) outline) p q other out scratch fine
    search

abbrev pub CutFineOutputAt : Type 0
CutFineOutputAt =
    (net : List ℤ) (w h k : ℕ) (outline : List ℕ) (p q : ℕ) (short : Bool) (fine : List ℕ) →
    output_after (outlined_refined_refusal net w h k outline p q short) (fine_outline outline w h k) fine
    ≡ output_after (outlined_refined_refusal (take (numbers w h) net) w h k (take (triangles w h) outline) p q short)
    (fine_outline (take (triangles w h) outline) w h k) fine

-- Refining with an outline, of the definitions: the statements, each with the name of its proof.
use Rattle.std.specs.Prelude.{◌≡◌, Bool, List, ℕ, ◌≤◌, ℤ, length, take}
use Rattle.net.specs.Net.{numbers}
use Rattle.net.specs.Refusals.{output_after}
use Rattle.outline.specs.Outline.{triangles}
use Rattle.outline.specs.Refusals.{check_refusal}
use Rattle.outline.specs.Promises.{Full}
use Rattle.subdivision.specs.Refinement.{side_after}
use Rattle.steps.specs.RefinedNet.{refined_net}
use Rattle.refine.specs.Answers.{refusal_of, refine_answer, refine_output}
use Rattle.fine_outline.specs.FineOutline.{fine_outline}
use Rattle.outlined_refine.specs.Refusals.{faults_before, outlined_refusal}
use Rattle.outlined_refine.specs.Answers.{outlined_refusal_of, outlined_answer}

-- with an outline whose triangles are all present, and where the fine outline and the search have room, the refusal is
-- that of plain refining, and so are the answer and the output (`full_refining`)
abbrev pub FullOutlineRefining : Type 0
FullOutlineRefining =
    (net : List ℤ) (w h k : ℕ) (outline : List ℕ) (out scratch : List ℤ) (fine search : List ℕ) → Full outline w h →
    triangles (side_after k w) (side_after k h) ≤ length fine → triangles w h ≤ length search →
    (outlined_refusal_of net w h k outline out scratch fine search ≡ refusal_of net w h k out scratch)
    × (outlined_answer net w h k outline out scratch fine search ≡ refine_answer net w h k out scratch)
    × (output_after (outlined_refusal_of net w h k outline out scratch fine search) (refined_net net w h k) out
    ≡ refine_output net w h k out scratch)

-- after an accepted call, what stands in the fine outline is accepted by checking it at the refined size, with a search
-- that is long enough (`fine_checked`)
abbrev pub FineChecked : Type 0
FineChecked =
    (net : List ℤ) (w h k : ℕ) (outline : List ℕ) (out scratch : List ℤ) (fine search : List ℕ) →
    outlined_refusal_of net w h k outline out scratch fine search ≡ 0 →
    (room : ℕ) → triangles (side_after k w) (side_after k h) ≤ room →
    check_refusal
    (output_after (outlined_refusal_of net w h k outline out scratch fine search) (fine_outline outline w h k) fine)
    (side_after k w) (side_after k h) room
    ≡ 0

-- numbers beyond 9wh and bytes past the last triangle do not matter: of the net and the outline that are cut there, the
-- refusal is the same (`cut_outlined_refusal`), and so are the faults before 14, on which the free search depends
-- (`cut_faults_before`)
abbrev pub CutOutlinedRefusal : Type 0
CutOutlinedRefusal =
    (net : List ℤ) (w h k : ℕ) (outline : List ℕ) (short : Bool) →
    outlined_refusal net w h k outline short
    ≡ outlined_refusal (take (numbers w h) net) w h k (take (triangles w h) outline) short

abbrev pub CutFaultsBefore : Type 0
CutFaultsBefore =
    (net : List ℤ) (w h k : ℕ) (outline : List ℕ) (short : Bool) →
    faults_before net w h k outline short
    ≡ faults_before (take (numbers w h) net) w h k (take (triangles w h) outline) short

-- and so is the fine outline that an accepted call writes (`cut_fine_output`), as the refined net is (`cut_refined` in
-- crates/refine/proofs/CutNets.antt)
abbrev pub CutFineOutput : Type 0
CutFineOutput =
    (net : List ℤ) (w h k : ℕ) (outline : List ℕ) (short : Bool) (fine : List ℕ) →
    output_after (outlined_refusal net w h k outline short) (fine_outline outline w h k) fine
    ≡ output_after (outlined_refusal (take (numbers w h) net) w h k (take (triangles w h) outline) short)
    (fine_outline (take (triangles w h) outline) w h k) fine

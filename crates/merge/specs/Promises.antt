-- What is shown of every net that merging gives, of the definitions: the statement, with the name of its proof.
use Rattle.std.specs.Prelude.{◌≡◌, List, ℕ, ℤ}
use Rattle.net.specs.Refusals.{AcceptedNet}
use Rattle.subdivision.specs.Refinement.{refined_side}
use Rattle.merge.specs.Answers.{merge_refusal_of, merge_output}

-- a merged net is a net that is taken again (`merged_accepted`)
abbrev pub MergedAccepted : Type 0
MergedAccepted =
    (coarse details : List ℤ) (w h : ℕ) (out : List ℤ) → merge_refusal_of coarse details w h out ≡ 0 →
    AcceptedNet (merge_output coarse details w h out) (refined_side w) (refined_side h)

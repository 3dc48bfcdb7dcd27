-- What merging answers and leaves in lent memory.
use Rattle.std.specs.Prelude.{◌≡◌, refl, true, false, List, [], ◌∷◌, ℕ, ℤ, pos, length, drop, replicate, Ok, Err, Result}
use Rattle.exact.specs.Rounding.{rounded, floor_quotient}
use Rattle.exact.specs.Filling.{over, runs}
use Rattle.net.specs.Net.{grid, control_point, control_triangle, squares}
use Rattle.net.specs.Refusals.{net_beyond, output_after, answer_by}
use Rattle.net.specs.Results.{call_outcome}
use Rattle.net.specs.declared.refusals.Refusal.{Refusal}
use Rattle.net.specs.declared.refusals.Refusal.TheVariants as refusal
use Rattle.subdivision.specs.Refinement.{refinement, exact_refinement}
use Rattle.steps.specs.RefinedNet.{stored}
use Rattle.details.specs.Details.{detail_triangle}
use Rattle.details.specs.Refusals.{details_beyond}
use Rattle.merge.specs.Merge.{merged, merged_net}
use Rattle.merge.specs.Refusals.{merge_refusal}

-- the first fault of merging into a lent output, and what is left there
abbrev pub merge_refusal_of : List ℤ → List ℤ → ℕ → ℕ → List ℤ → ℕ
merge_refusal_of coarse details w h out = merge_refusal coarse details w h (length out)

abbrev pub merge_output : List ℤ → List ℤ → ℕ → ℕ → List ℤ → List ℤ
merge_output coarse details w h out =
    output_after (merge_refusal_of coarse details w h out) (merged_net coarse details w h) out

-- what merging promises, of the coarse net, the details, the coarse size, the output before and after, and the answer
pub record MergeContract (coarse details : List ℤ) (w h : ℕ) (out : List ℤ) (r : Result (Unit {0}) Refusal) (out' : List ℤ) : Type 0 where
  pub answer : call_outcome r ≡ answer_by (merge_refusal_of coarse details w h out)
  pub out_after : out' ≡ merge_output coarse details w h out

-- ---- worked cases: outcomes of results; and, of the net of 2 by 3 whose numbers are the squares and details of ones,
-- what stands after the merged net, and refused
outcomes :
    (call_outcome {A = Unit {0}} (Ok tt) ≡ (0, true))
    × (call_outcome {A = Unit {0}} (Err refusal.ResultRange) ≡ (11, false))
outcomes = (refl, refl)

abbrev ones : List ℤ
ones = replicate 135 (pos 1)

outputs :
    (drop 133 (merge_output (squares 54) ones 2 3 (replicate 136 (pos 7))) ≡ pos 2557 ∷ pos 2659 ∷ pos 7 ∷ [])
    × (merge_output (squares 54) ones 2 3 (replicate 134 (pos 7)) ≡ replicate 134 (pos 7))
unfolding over net_beyond details_beyond merged_net merged stored grid runs refinement exact_refinement rounded floor_quotient detail_triangle control_triangle control_point
outputs = (refl, refl)

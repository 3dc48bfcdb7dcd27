-- What splitting answers and leaves in lent memory.
use Rattle.std.specs.Prelude.{◌≡◌, refl, Bool, true, false, ◌||◌, List, [], ◌∷◌, ℕ, ℤ, pos, length, drop, replicate, Ok, Err, Result}
use Rattle.exact.specs.Rounding.{rounded, floor_quotient}
use Rattle.exact.specs.Filling.{over, runs}
use Rattle.net.specs.Net.{grid, control_point, control_triangle, squares}
use Rattle.net.specs.Refusals.{net_beyond, output_after, answer_by}
use Rattle.net.specs.Results.{call_outcome}
use Rattle.net.specs.declared.refusals.Refusal.{Refusal}
use Rattle.net.specs.declared.refusals.Refusal.TheVariants as refusal
use Rattle.subdivision.specs.Refinement.{refinement, exact_refinement}
use Rattle.steps.specs.RefinedNet.{stored}
use Rattle.details.specs.Details.{stored_details}
use Rattle.coarse.specs.Coarse.{coarsened, coarse_net}
use Rattle.split.specs.Split.{detail_of, net_details}
use Rattle.split.specs.Refusals.{outputs_short, split_refusal}

-- the first fault of splitting into two lent outputs; `short` is whether another lent output is too short, which counts
-- for 5
abbrev pub split_refusal_with : List ℤ → ℕ → ℕ → Bool → List ℤ → List ℤ → ℕ
split_refusal_with net w h short coarse details =
    split_refusal net w h (short || outputs_short w h (length coarse) (length details))

abbrev pub split_refusal_of : List ℤ → ℕ → ℕ → List ℤ → List ℤ → ℕ
split_refusal_of net w h = split_refusal_with net w h false

-- what splitting leaves in the two outputs, by its refusal
abbrev pub split_coarse : ℕ → List ℤ → ℕ → ℕ → List ℤ → List ℤ
split_coarse refusal net w h coarse = output_after refusal (coarse_net net w h) coarse

abbrev pub split_details : ℕ → List ℤ → ℕ → ℕ → List ℤ → List ℤ
split_details refusal net w h details = output_after refusal (net_details net w h) details

-- what splitting promises, of the net, its size, whether another output is too short, the outputs before and after, and
-- the answer
pub record SplitContract (net : List ℤ) (w h : ℕ) (short : Bool) (coarse details : List ℤ) (r : Result (Unit {0}) Refusal) (coarse' details' : List ℤ) : Type 0 where
  pub answer : call_outcome r ≡ answer_by (split_refusal_with net w h short coarse details)
  pub coarse_after : coarse' ≡ split_coarse (split_refusal_with net w h short coarse details) net w h coarse
  pub details_after : details' ≡ split_details (split_refusal_with net w h short coarse details) net w h details

-- ---- worked cases: outcomes of results; and, of the net of 3 by 5 whose numbers are the squares, what stands after
-- the coarse net and the details, and refused
outcomes :
    (call_outcome {A = Unit {0}} (Ok tt) ≡ (0, true))
    × (call_outcome {A = Unit {0}} (Err refusal.ResultRange) ≡ (11, false))
outcomes = (refl, refl)

abbrev sevens : ℕ → List ℤ
sevens n = replicate n (pos 7)

answers :
    (split_refusal_of (squares 135) 3 5 (sevens 54) (sevens 135) ≡ 0)
    × (split_refusal_of (squares 135) 3 5 (sevens 135) (sevens 54) ≡ 5)
    × (split_refusal_with (squares 135) 3 5 true (sevens 54) (sevens 135) ≡ 5)
unfolding net_beyond coarse_net coarsened stored grid runs rounded floor_quotient control_triangle control_point
answers = (refl, refl, refl)

outputs :
    (drop 52 (split_coarse 0 (squares 135) 3 5 (sevens 55)) ≡ pos 18472 ∷ pos 18745 ∷ pos 7 ∷ [])
    × (drop 133 (split_details 0 (squares 135) 3 5 (sevens 136)) ≡ pos 0 ∷ pos 0 ∷ pos 7 ∷ [])
    × (split_coarse 5 (squares 135) 3 5 (sevens 3) ≡ sevens 3)
    × (split_details 5 (squares 135) 3 5 (sevens 3) ≡ sevens 3)
unfolding over coarse_net net_details detail_of coarsened stored stored_details grid runs refinement exact_refinement rounded floor_quotient control_triangle control_point
outputs = (refl, refl, refl, refl)

-- What the call answers and leaves in lent memory.
use Rattle.std.specs.Prelude.{◌≡◌, refl, true, false, List, [], ◌∷◌, ℕ, ℤ, pos, negsuc, length, drop, replicate, Ok, Err, Result}
use Rattle.std.proofs.Common.{ap}
use Rattle.exact.specs.Filling.{over, runs}
use Rattle.net.specs.Net.{grid, control_point, squares}
use Rattle.net.specs.Refusals.{net_beyond, output_after, answer_by}
use Rattle.net.specs.Results.{call_outcome}
use Rattle.net.specs.declared.refusals.Refusal.{Refusal}
use Rattle.net.specs.declared.refusals.Refusal.TheVariants as refusal
use Rattle.steps.specs.RefinedNet.{stored}
use Rattle.hermite.specs.Given.{vectors_at}
use Rattle.hermite.specs.HermiteNet.{hermite_net}
use Rattle.hermite.specs.Refusals.{given_refusal}

-- the first fault of a call with a lent output, and what is left there
abbrev pub given_refusal_of : List ℤ → ℕ → ℕ → List ℤ → ℕ
given_refusal_of given w h out = given_refusal given w h (length out)

abbrev pub given_output : List ℤ → ℕ → ℕ → List ℤ → List ℤ
given_output given w h out = output_after (given_refusal_of given w h out) (hermite_net given w h) out

-- what the call promises, of the given points, the size, the output before and after, and the answer
pub record GivenContract (given : List ℤ) (w h : ℕ) (out : List ℤ) (r : Result (Unit {0}) Refusal) (out' : List ℤ) : Type 0 where
  pub answer : call_outcome r ≡ answer_by (given_refusal_of given w h out)
  pub out_after : out' ≡ given_output given w h out

-- worked cases: outcomes of results; and, of given points of 2 by 3 that are the squares, what stands at the end of the
-- net and after it, and refused, in the definitions and in what the contract says
outcomes :
    (call_outcome {A = Unit {0}} (Ok tt) ≡ (0, true))
    × (call_outcome {A = Unit {0}} (Err refusal.ControlRange) ≡ (16, false))
outcomes = (refl, refl)

abbrev ending : List ℤ
ending = pos 5018 ∷ negsuc 2879 ∷ negsuc 2988 ∷ negsuc 3099 ∷ pos 7 ∷ []

outputs :
    (drop 50 (given_output (squares 54) 2 3 (replicate 55 (pos 7))) ≡ ending)
    × (given_output (squares 54) 2 3 (replicate 53 (pos 7)) ≡ replicate 53 (pos 7))
unfolding over net_beyond hermite_net stored grid runs vectors_at control_point
outputs = (refl, refl)

abbrev Promised : List ℤ → Result (Unit {0}) Refusal → List ℤ → Type 0
Promised = GivenContract (squares 54) 2 3

promised : (r : Result (Unit {0}) Refusal) (out' : List ℤ) → Promised (replicate 55 (pos 7)) r out' →
    (call_outcome r ≡ (0, true)) × (drop 50 out' ≡ ending)
unfolding over net_beyond hermite_net stored grid runs vectors_at control_point
promised r out' c = (c.answer, ap (drop 50) c.out_after)

promised_refused : (r : Result (Unit {0}) Refusal) (out' : List ℤ) → Promised (replicate 53 (pos 7)) r out' →
    (call_outcome r ≡ (5, false)) × (out' ≡ replicate 53 (pos 7))
unfolding over net_beyond hermite_net stored grid runs vectors_at control_point
promised_refused r out' c = (c.answer, c.out_after)

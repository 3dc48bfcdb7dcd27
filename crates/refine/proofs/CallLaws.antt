-- What the calls leave in lent memory, where nothing is refused and where something is.
use mathlib.Core.Path.{◌≡◌, refl, subst, ◌∙◌}
use mathlib.Core.List.{List}
use Prim.Native.Nat.{ℕ}
use lib.IntN.{ℤ}
use Rattle.exact.specs.Filling.{over, UnchangedFrom}
use Rattle.net.specs.Refusals.{output_after}
use Rattle.net.proofs.Faults.{when_accepted, when_refused}
use Rattle.steps.specs.RefinedNet.{scratch_need}
use Rattle.refine.specs.Answers.{free_scratch}

-- what stands in the output and in the scratch
abbrev pub Left : ℕ → ℕ → ℕ → ℕ → (result out scratch out' scratch' : List ℤ) → Type 0
Left refusal k w h result out scratch out' scratch' =
    (out' ≡ output_after refusal result out) × UnchangedFrom (free_scratch refusal k w h) scratch scratch'

module _ (refusal k w h : ℕ) (result out scratch : List ℤ) where
  pub left_accepted : {out' : List ℤ} (scratch' : List ℤ) → refusal ≡ 0 → out' ≡ over result out →
      UnchangedFrom (scratch_need k w h) scratch scratch' →
      Left refusal k w h result out scratch out' scratch'
  left_accepted scratch' e o s = (
    o ∙ when_accepted refusal (over result out) out e,
    subst (λ (n : ℕ). UnchangedFrom n scratch scratch') (when_accepted refusal (scratch_need k w h) 0 e) s,
  )

  pub left_refused : (refusal ≡ 0 → ⊥) → Left refusal k w h result out scratch out scratch
  left_refused there = (when_refused refusal (over result out) out there, (refl, refl))

-- What a word that is due answers.
use Rattle.std.specs.Prelude.{◌≡◌, refl, cond, List, [], ◌∷◌, ℕ, Result, Ok, Err}
use Rattle.net.specs.Refusals.{accepted}
use Rattle.net.specs.Results.{refusal_number}
use Rattle.net.specs.declared.refusals.Refusal.{Refusal}
use Rattle.net.specs.declared.refusals.Refusal.TheVariants as refusal

-- document 01's number of an answer, 0 where nothing is refused, and its value: the payload of the word
abbrev pub word_outcome : Result ℕ Refusal → ℕ × List ℕ
word_outcome (Ok p) = (0, p ∷ [])
word_outcome (Err r) = (refusal_number r, [])

-- a refusal's number and no values; or 0 and the values
abbrev pub answer : ℕ → List ℕ → ℕ × List ℕ
answer refusal values = (refusal, cond (accepted refusal) values [])

-- worked cases: outcomes of answers, accepted and refused
outcomes : (word_outcome (Ok 17) ≡ (0, 17 ∷ [])) × (word_outcome (Err refusal.MissingWord) ≡ (7, []))
    × (answer 9 (2 ∷ 3 ∷ []) ≡ (9, [])) × (answer 0 (2 ∷ 3 ∷ []) ≡ (0, 2 ∷ 3 ∷ []))
outcomes = (refl, refl, refl, refl)

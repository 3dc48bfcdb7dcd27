-- What checking an outline answers.
use Rattle.std.specs.Prelude.{◌≡◌, refl, Bool, true, false, List, [], ◌∷◌, ℕ, Ok, Err}
use Rattle.exact.specs.Filling.{runs}
use Rattle.net.specs.Refusals.{answer_by}
use Rattle.net.specs.Results.{call_outcome}
use Rattle.net.specs.declared.refusals.Refusal.TheVariants as refusal
use Rattle.graphs.specs.Reaching.{reached, all_reached}
use Rattle.outline.specs.Connected.{connected, column_of_two}
use Rattle.outline.specs.Refusals.{bad_byte, check_refusal}

-- what checking answers; `room` is the length of the search
abbrev pub check_answer : List ℕ → ℕ → ℕ → ℕ → ℕ × Bool
check_answer outline w h room = answer_by (check_refusal outline w h room)

-- worked cases: outcomes of results; of 3 by 2, the whole strip and its two ends; bytes 3 and 8 of 4 by 3, and the
-- sides exchanged
outcomes :
    (call_outcome {A = Unit {0}} (Ok tt) ≡ (0, true))
    × (call_outcome {A = Unit {0}} (Err refusal.NotConnected) ≡ (14, false))
outcomes = (refl, refl)

answers :
    (check_answer (1 ∷ 1 ∷ 1 ∷ 1 ∷ []) 3 2 4 ≡ (0, true))
    × (check_answer (1 ∷ 0 ∷ 0 ∷ 1 ∷ []) 3 2 4 ≡ (14, false))
    × (check_answer column_of_two 4 3 12 ≡ (0, true))
    × (check_answer column_of_two 3 4 12 ≡ (14, false))
unfolding bad_byte connected reached all_reached runs
answers = (refl, refl, refl, refl)

-- Document 01, "Split, merge, clean": what cleaning answers and makes of lent details.
use Rattle.std.specs.Prelude.{◌≡◌, refl, Bool, true, false, cond, List, [], ◌∷◌, ◌++◌, map, ◌⊎◌, ℕ, ◌<◌, ltb, ℤ, pos, negsuc, nat_abs, length, take, replicate, Ok, Err}
use Rattle.std.proofs.Common.{ap, ⊎_elim, arith}
use Rattle.exact.specs.Filling.{over}
use Rattle.net.specs.Net.{number}
use Rattle.net.specs.Refusals.{output_after, answer_by}
use Rattle.net.specs.Results.{call_outcome}
use Rattle.net.specs.declared.refusals.Refusal.TheVariants as refusal
use Rattle.details.specs.Details.{detail_numbers}
use Rattle.details.specs.Refusals.{details_beyond, clean_refusal}

-- 'sets each detail of size below t to zero'
abbrev pub cleaned : ℕ → ℤ → ℤ
cleaned t z = cond (ltb (nat_abs z) t) (pos 0) z

-- the details that count, cleaned
unfoldable pub cleaned_details : List ℤ → ℕ → ℕ → ℕ → List ℤ
cleaned_details details w h t = map (cleaned t) (take (detail_numbers w h) details)

-- what every rule of cleaning keeps, of the details before and after it: each is as it was, or is 0 and was below t in
-- size
pub record Cleaned (t : ℕ) (before after : List ℤ) : Type 0 where
  pub long : length after ≡ length before
  pub each : (n : ℕ) →
      (number after n ≡ number before n) ⊎ ((number after n ≡ pos 0) × (nat_abs (number before n) < t))

-- what cleaning answers, and what it leaves in the lent details
abbrev pub clean_answer : List ℤ → ℕ → ℕ → ℕ → ℕ × Bool
clean_answer details w h t = answer_by (clean_refusal details w h t)

abbrev pub clean_output : List ℤ → ℕ → ℕ → ℕ → List ℤ
clean_output details w h t = output_after (clean_refusal details w h t) (cleaned_details details w h t) details

-- ---- worked cases

outcomes :
    (call_outcome {A = Unit {0}} (Ok tt) ≡ (0, true))
    × (call_outcome {A = Unit {0}} (Err refusal.Threshold) ≡ (12, false))
outcomes = (refl, refl)

-- a size of t stays, one below it does not; nothing is below 0; the end of the range stays at the greatest threshold
single :
    (cleaned 7 (pos 7) ≡ pos 7) × (cleaned 7 (pos 6) ≡ pos 0) × (cleaned 7 (negsuc 5) ≡ pos 0)
    × (cleaned 7 (negsuc 6) ≡ negsuc 6) × (cleaned 0 (pos 1) ≡ pos 1)
    × (cleaned 33554432 (negsuc 33554431) ≡ negsuc 33554431)
single = (refl, refl, refl, refl, refl, refl)

-- details of 3 by 3 whose last two are 6 and 7, and a number after them, which does not count; and refused
abbrev few : List ℤ
few = replicate 79 (pos 9) ++ pos 6 ∷ pos 7 ∷ pos 5 ∷ []

abbrev fewer : List ℤ
fewer = replicate 79 (pos 9) ++ pos 0 ∷ pos 7 ∷ pos 5 ∷ []

answers : (clean_answer few 3 3 7 ≡ (0, true)) × (clean_answer few 3 5 7 ≡ (2, false))
unfolding details_beyond
answers = (refl, refl)

outputs : (clean_output few 3 3 7 ≡ fewer) × (clean_output few 3 5 7 ≡ few)
unfolding details_beyond cleaned_details over
outputs = (refl, refl)

-- what is not cleaning below 7: a detail of size 7 that is zeroed, one that is changed to another number, and a slice
-- that is shorter afterwards
not_seven : Cleaned 7 (pos 7 ∷ []) (pos 0 ∷ []) → ⊥
not_seven k = ⊎_elim (λ e. omega (arith, ap nat_abs e)) (λ e. omega (arith, e.1)) (k.each 0)

not_changed : Cleaned 7 (pos 5 ∷ []) (pos 6 ∷ []) → ⊥
not_changed k = ⊎_elim (λ e. omega (arith, ap nat_abs e)) (λ e. omega (arith, ap nat_abs e.0)) (k.each 0)

not_shorter : Cleaned 7 (pos 0 ∷ []) [] → ⊥
not_shorter k = omega (arith, k.long)

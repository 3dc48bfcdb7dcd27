-- What a number that may be negated is to sums, quotients and cleaning.
use mathlib.Core.Path.{◌≡◌, refl, sym, ap, ◌∙◌}
use mathlib.Core.Bool.{Bool, true, false, cond}
use mathlib.Core.List.{List, map, map-id}
use Prim.Native.Nat.{ℕ, ◌<◌}
use lib.Dec.{ltb}
use lib.IntN.{ℤ, pos, neg_ℤ, nat_abs, ◌+ℤ◌, ◌-ℤ◌, neg_ℤ-+ℤ}
use Rattle.exact.specs.Rounding.{rounded, negated_if}
use Rattle.exact.specs.WeightedSum.{weighted_sum}
use Rattle.exact.proofs.Order.{size_negation}
use Rattle.exact.proofs.RoundingLaws.{rounded_odd}
use Rattle.exact.proofs.WeightedSumLaws.{negation_of_values}
use Rattle.details.specs.Cleaning.{cleaned}

pub rounded_negated : (s : Bool) (n : ℤ) (d : ℕ) → 0 < d → rounded (negated_if s n) d ≡ negated_if s (rounded n d)
rounded_negated false n d p = refl
rounded_negated true n d p = rounded_odd n d p

pub values_negated : (s : Bool) (ws vs : List ℤ) →
    weighted_sum ws (map (negated_if s) vs) ≡ negated_if s (weighted_sum ws vs)
values_negated false ws vs = ap (weighted_sum ws) (map-id vs)
values_negated true ws vs = negation_of_values ws vs

pub size_negated : (s : Bool) (z : ℤ) → nat_abs (negated_if s z) ≡ nat_abs z
size_negated false z = refl
size_negated true z = size_negation z

pub sum_negated : (s : Bool) (a b : ℤ) → negated_if s a +ℤ negated_if s b ≡ negated_if s (a +ℤ b)
sum_negated false a b = refl
sum_negated true a b = sym (neg_ℤ-+ℤ a b)

pub difference_negated : (s : Bool) (a b : ℤ) → negated_if s a -ℤ negated_if s b ≡ negated_if s (a -ℤ b)
difference_negated false a b = refl
difference_negated true a b = sym (neg_ℤ-+ℤ a (neg_ℤ b))

-- a detail that is zeroed is zeroed with either sign
pub cleaned_negated : (s : Bool) (t : ℕ) (z : ℤ) → cleaned t (negated_if s z) ≡ negated_if s (cleaned t z)
cleaned_negated s t z =
    ap (λ (n : ℕ). cond (ltb n t) (pos 0) (negated_if s z)) (size_negated s z) ∙ by s (ltb (nat_abs z) t)
  where
    by : (s b : Bool) → cond b (pos 0) (negated_if s z) ≡ negated_if s (cond b (pos 0) z)
    by s false = refl
    by false true = refl
    by true true = refl

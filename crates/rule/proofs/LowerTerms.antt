-- A row in lower terms: its weighted sums and their sizes, and the same rounded quotient.
use mathlib.Core.Path.{◌≡◌, refl, sym, ap, subst, ◌∙◌}
use mathlib.Core.Bool.{true}
use mathlib.Core.List.{List, [], ◌∷◌, map}
use Prim.Native.Nat.{ℕ, zero, suc, ◌*◌, ◌/◌, ◌≤◌, ◌<◌}
use native.Mathlib.Nat.{eq_of_mul-eq-mul_left, mul-le-mul, le_refl}
use native.Mathlib.Omega.{arith}
use lib.Dec.{eqb}
use lib.IntN.{ℤ, pos, nat_abs, ◌*ℤ◌}
use borrow.Author.Tests.{eqb-true}
use Rattle.exact.specs.Rounding.{rounded}
use Rattle.exact.specs.WeightedSum.{weighted_sum, sizes, Within}
use Rattle.exact.proofs.RoundingLaws.{rounded_scale}
use Rattle.exact.proofs.WeightedSumLaws.{multiple_of_values, weighted_sum_sym, sum_sizes, sizes_within}
use Rattle.net.specs.Refusals.{net_limit}
use Rattle.subdivision.specs.WeightTable.{sum, every}
use Rattle.subdivision.proofs.Tables.{both, good_sum}
use Rattle.rule.specs.Reduced.{reduced_row, Reducible}

-- f times the reduced weights are the weights
times_reduced : (f : ℕ) (row : List ℕ) → every (λ n. eqb (f * (n / f)) n) row ≡ true →
    map (λ (z : ℤ). pos f *ℤ z) (reduced_row f row) ≡ map pos row
times_reduced f [] e = refl
times_reduced f (n ∷ row) e =
    let h = both (eqb (f * (n / f)) n) (every (λ m. eqb (f * (m / f)) m) row) e in
    λ t. pos (eqb-true (f * (n / f)) n h.0 t) ∷ times_reduced f row h.1 t

times_sizes : (f : ℕ) (row : List ℕ) → every (λ n. eqb (f * (n / f)) n) row ≡ true →
    f * sizes (reduced_row f row) ≡ sum row
times_sizes f [] e = omega arith
times_sizes f (n ∷ row) e =
    let h = both (eqb (f * (n / f)) n) (every (λ m. eqb (f * (m / f)) m) row) e in
    omega (arith, eqb-true (f * (n / f)) n h.0, times_sizes f row h.1)

module _ (row : List ℕ) (f half : ℕ) (r : Reducible row f half) where
  pub factor_positive : 0 < f
  factor_positive = at f r.over
    where
      at : (n : ℕ) → n * (2 * half) ≡ 12 → 0 < n
      at zero e = absurd (omega (arith, e))
      at (suc n) e = omega arith

  pub half_positive : 0 < half
  half_positive = at half r.over
    where
      at : (n : ℕ) → f * (2 * n) ≡ 12 → 0 < n
      at zero e = absurd (omega (arith, e))
      at (suc n) e = omega arith

  half_few : half ≤ 6
  half_few =
      let least : 1 * (2 * half) ≤ f * (2 * half) = mul-le-mul factor_positive (le_refl (2 * half)) in
      omega (arith, least, r.over)

  row_sizes : sizes (reduced_row f row) ≡ 2 * half
  row_sizes =
      eq_of_mul-eq-mul_left f factor_positive (sizes (reduced_row f row)) (2 * half)
      (times_sizes f row r.whole ∙ good_sum row r.good ∙ sym r.over)

  pub small_weights : Within 67108864 (reduced_row f row)
  small_weights = sizes_within 67108864 (reduced_row f row) (omega (arith, row_sizes, half_few))

  pub sum_few : (values : List ℤ) → Within net_limit values →
      nat_abs (weighted_sum (reduced_row f row) values) ≤ 2 * half * net_limit
  sum_few values w =
      subst (λ (n : ℕ). nat_abs (weighted_sum (reduced_row f row) values) ≤ n * net_limit) row_sizes
      (sum_sizes net_limit (reduced_row f row) values w)

  pub divisor_few : 2 * half * net_limit ≤ 1073741824
  divisor_few = omega (arith, half_few)

  -- the same quotient, rounded
  pub same_rounded : (values : List ℤ) →
      rounded (weighted_sum (reduced_row f row) values) (2 * half) ≡ rounded (weighted_sum (map pos row) values) 12
  same_rounded values =
      let n = weighted_sum (reduced_row f row) values in
      let times : pos f *ℤ n ≡ weighted_sum (map pos row) values =
      ap (λ (z : ℤ). pos f *ℤ z) (weighted_sum_sym (reduced_row f row) values)
      ∙ sym (multiple_of_values (pos f) values (reduced_row f row))
      ∙ ap (weighted_sum values) (times_reduced f row r.whole)
      ∙ weighted_sum_sym values (map pos row) in
      sym (rounded_scale f n (2 * half) factor_positive (omega (arith, half_positive)))
      ∙ (λ t. rounded (times t) (r.over t))

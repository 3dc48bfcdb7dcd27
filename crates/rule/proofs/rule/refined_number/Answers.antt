-- `rule::rule::refined_number` meets its contract: the mean lies in the range of the values, whatever i32s they are.
use mathlib.Core.Bool.{true}
use mathlib.Core.List.{List, [], ◌∷◌, map}
use mathlib.Core.Path.{◌≡◌, sym, ap, subst, ◌∙◌}
use Prim.Native.Nat.{ℕ, ◌+◌, ◌-◌, ◌^◌, ◌≤◌}
use native.Mathlib.Omega.{arith}
use lib.Dec.{lit<, lit≤}
use lib.IntN.{ℤ, pos, neg_ℤ}
use lib.ListN.{length, length-map}
use lib.Signed.{◌<ℤ◌}
use denote.Array.{each}
use denote.Shadow.{shadow}
use denote.Signed.{SInt}
use mir.Facts.{to_z-of_z}
use mir.Syntax.{w32, w64}
use mir.Val.{Val, SFits, to_z, of_z}
use borrow.Author.Rules.{sfits_of}
use Rattle.exact.specs.Rounding.{rounded}
use Rattle.exact.specs.WeightedSum.{weighted_sum, Within}
use Rattle.exact.proofs.Order.{≤ℤ-<ℤ-trans}
use Rattle.exact.proofs.Parts.{integers}
use Rattle.exact.proofs.RoundingLaws.{mean_range}
use Rattle.exact.proofs.SignedCode.{reads_back, reads_as}
use Rattle.exact.proofs.Sizes.{fits_low, fits_high, fits_between}
use Rattle.exact.proofs.WeightedSumLaws.{AllBetween, all_in_range, within_more}
use Rattle.subdivision.specs.WeightTable.{sum, good_row}
use Rattle.subdivision.proofs.Tables.{good_length, good_sum, total_sum, not_negative}
use Rattle.rule.proofs.rule.refined_number.Goals as goal
use Rattle.rule.proofs.rule.refined_number.Goals.{After-weighted_mean}

-- no weight is above the sum of a row
within_sum : (row : List ℕ) → Within (sum row) (map pos row)
within_sum [] = tt
within_sum (n ∷ row) = (omega arith, within_more (sum row) (n + sum row) (omega arith) (map pos row) (within_sum row))

-- values that are i32s lie between the limits of an i32
i32s : (values : List ℤ) (us : List Val) → shadow (each ℤ (SInt w32).own_val values us) →
    AllBetween (neg_ℤ (pos (2 ^ 31))) (pos (2 ^ 31 - 1)) values
i32s [] us h = tt
i32s (v ∷ values) [] h = absurd h
i32s (v ∷ values) (u ∷ us) h =
    let f : SFits w32 v = sfits_of h.0.1 in
    let high : v <ℤ pos (2 ^ 31) = fits_high f in
    ((fits_low f, omega integers), i32s values us h.1)

-- so the mean is an i32; `us` is how the machine holds the values
mean_fits : (row : List ℕ) (values : List ℤ) (us : List Val) → good_row row ≡ true → length values ≡ 6 →
    shadow (each ℤ (SInt w32).own_val values us) → SFits w32 (rounded (weighted_sum (map pos row) values) 12)
mean_fits row values us e long h =
    let r =
    mean_range 12 (lit< tt) (total_sum row ∙ ap pos (good_sum row e))
    (all_in_range (neg_ℤ (pos (2 ^ 31))) (pos (2 ^ 31 - 1)) (map pos row) values
    (length-map row pos ∙ good_length row e ∙ sym long) (not_negative row) (i32s values us h)) in
    fits_between r.0 (≤ℤ-<ℤ-trans r.1 (omega integers))

module _ (c : After-weighted_mean) where
  exact : c.weighted_mean.result
      ≡ rounded (weighted_sum (map pos c.args.row) c.args.values) 12
  exact =
      c.weighted_mean.ensures
      ∙ ap (λ (ws : List ℤ). rounded (weighted_sum ws c.args.values) 12)
      c.widened.ensures

  fits : SFits w32 (to_z w64 (of_z w64 c.weighted_mean.result))
  fits =
      let s = c in
      let g = s.well_formed.1.0 in
      subst (SFits w32) (sym exact ∙ sym (reads_back w64 c.weighted_mean.result c.weighted_mean.type_inv))
      (mean_fits s.args.row s.args.values g.0 s.requires g.1.0.1 g.1.1)

pub weighted_mean-requires : goal.weighted_mean-requires
weighted_mean-requires c =
    let row = c.args.row in
    let few : sum row ≤ 67108864 = omega (arith, good_sum row c.requires) in
    let small =
    subst (Within 67108864) (sym c.widened.ensures)
    (within_more (sum row) 67108864 few (map pos row) (within_sum row)) in
    (lit< tt, (lit< tt, (small, lit≤ tt, lit< tt, lit≤ tt)))

pub overflow_cast-result : goal.overflow_cast-result
overflow_cast-result c = fits c

pub returns : goal.returns
returns c = to_z-of_z (fits c) ∙ reads_as w64 c.weighted_mean.result c.weighted_mean.type_inv (exact c)

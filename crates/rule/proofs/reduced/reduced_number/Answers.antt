-- `rule::reduced::reduced_number` meets its contract.
use mathlib.Core.Path.{◌≡◌, sym, ap, subst, ◌∙◌}
use mathlib.Core.List.{List}
use Prim.Native.Nat.{◌*◌, ◌≤◌}
use lib.Dec.{lit<, lit≤}
use lib.IntN.{ℤ, nat_abs}
use mir.Syntax.{w32, w64}
use mir.Val.{to_z, of_z}
use Rattle.exact.specs.Rounding.{rounded}
use Rattle.exact.specs.WeightedSum.{weighted_sum, Within}
use Rattle.exact.proofs.SignedCode.{reads_as}
use Rattle.net.specs.Refusals.{net_limit}
use Rattle.rule.specs.Reduced.{reduced_row}
use Rattle.rule.proofs.LowerTerms.{half_positive, small_weights, sum_few, divisor_few, same_rounded}
use Rattle.rule.proofs.reduced.reduced_number.Goals as goal
use Rattle.rule.proofs.reduced.reduced_number.Goals.{After-weighted_sum-sum, Start}

pub weighted_sum-sum-requires : goal.weighted_sum-sum-requires
weighted_sum-sum-requires c =
    let a = c.args in
    let small =
    subst (Within 67108864) (sym c.reduced.ensures) (small_weights a.row a.f a.half c.requires.0) in
    (lit< tt, (lit< tt, (small, lit≤ tt)))

-- the sum, and its size
module _ (c : After-weighted_sum-sum) where
  abbrev begin : Start
  begin = (goal.at.After-weighted_sum-sum c).Start

  sum : to_z w64 (of_z w64 c.weighted_sum-sum.result)
      ≡ weighted_sum (reduced_row begin.args.f begin.args.row) begin.args.values
  sum =
      reads_as w64 c.weighted_sum-sum.result c.weighted_sum-sum.type_inv
      (c.weighted_sum-sum.ensures.sum
      ∙ ap (λ (ws : List ℤ). weighted_sum ws begin.args.values) c.reduced.ensures)

pub round_even_narrow-requires : goal.round_even_narrow-requires
round_even_narrow-requires c =
    let s = begin c in
    let a = s.args in (
      half_positive a.row a.f a.half s.requires.0,
      lit< tt,
      divisor_few a.row a.f a.half s.requires.0,
      subst (λ (z : ℤ). nat_abs z ≤ 2 * a.half * net_limit) (sym (sum c))
          (sum_few a.row a.f a.half s.requires.0 a.values s.requires.1),
    )

pub returns : goal.returns
returns c =
    let a = (begin (goal.at.returns c).After-weighted_sum-sum).args in
    reads_as w32 c.round_even_narrow.result c.round_even_narrow.type_inv
    (c.round_even_narrow.ensures
    ∙ ap (λ (z : ℤ). rounded z (2 * a.half)) (sum (goal.at.returns c).After-weighted_sum-sum)
    ∙ same_rounded a.row a.f a.half (begin (goal.at.returns c).After-weighted_sum-sum).requires.0 a.values)

-- `coarse::coarse::coarse_number` meets its contract.
use mathlib.Core.List.{[], ◌∷◌}
use mathlib.Core.Path.{◌≡◌, sym, ap, subst, ◌∙◌}
use Prim.Native.Nat.{◌*◌, ◌≤◌}
use lib.Dec.{lit<, lit≤}
use lib.IntN.{ℤ, nat_abs}
use mir.Facts.{to_z-of_z}
use mir.Syntax.{w32, w64}
use mir.Val.{to_z, of_z}
use Rattle.exact.specs.Rounding.{rounded}
use Rattle.exact.specs.WeightedSum.{weighted_sum}
use Rattle.exact.proofs.SignedCode.{reads_as}
use Rattle.net.specs.Refusals.{net_limit}
use Rattle.coarse.proofs.CoarseLaws.{code_weights, coarse_quotient, coarse_few}
use Rattle.coarse.proofs.coarse.coarse_number.Goals as goal
use Rattle.coarse.proofs.coarse.coarse_number.Goals.{After-weighted_sum}

-- the sum, of the numbers that were given
sum : (c : After-weighted_sum) →
    (let a = c.args in
    to_z w64 (of_z w64 c.weighted_sum.result) ≡ weighted_sum code_weights (a.c ∷ a.a ∷ a.b ∷ []))
sum c =
    let s = c in
    reads_as w64 c.weighted_sum.result c.weighted_sum.type_inv
    (c.weighted_sum.ensures.sum
    ∙ (λ t. weighted_sum code_weights
    (to_z-of_z s.ranges.c t ∷ to_z-of_z s.ranges.a t ∷ to_z-of_z s.ranges.b t ∷ [])))

pub round_even_narrow-requires : goal.round_even_narrow-requires
round_even_narrow-requires c =
    let s = c in (
      lit< tt,
      lit< tt,
      lit≤ tt,
      subst (λ (z : ℤ). nat_abs z ≤ 6 * (3 * net_limit)) (sym (sum c))
          (coarse_few s.args.c s.args.a s.args.b s.requires.0 s.requires.1 s.requires.2),
    )

pub returns : goal.returns
returns c =
    let a = c.args in
    reads_as w32 c.round_even_narrow.result c.round_even_narrow.type_inv
    (c.round_even_narrow.ensures ∙ ap (λ (z : ℤ). rounded z 6) (sum (goal.at.returns c).After-weighted_sum) ∙ coarse_quotient a.c a.a a.b)

-- `de_casteljau::averages::last_average` meets its contract.
use mathlib.Core.Path.{sym, subst}
use Prim.Native.Nat.{◌*◌, ◌^◌}
use lib.Dec.{lit≤}
use Rattle.exact.specs.WeightedSum.{Within}
use Rattle.exact.proofs.WeightedSumLaws.{within_more}
use Rattle.de_casteljau.specs.declared.points.Ordinates.{Ordinates}
use Rattle.de_casteljau.specs.Ordinates.{six, ordinates}
use Rattle.de_casteljau.proofs.SmallTriangles.{ordinates_within}
use Rattle.de_casteljau.proofs.averages.last_average.Goals as goal

pub averages_of-steps-requires : goal.averages_of-steps-requires
averages_of-steps-requires c =
    let s = c in
    let a = s.args in
    let small = ordinates_within (2 ^ 32) a.ahead a.p a.q a.t s.requires.within.0 s.requires.within.1 s.requires.within.2 in (
      s.requires.g_value,
      subst (λ (o : Ordinates). Within (2 ^ 38) (six o)) (sym c.ordinates_of-o.ensures)
          (within_more (36 * 2 ^ 32) (2 ^ 38) (lit≤ tt) (six (ordinates a.ahead a.p a.q a.t)) small),
    )

-- `rule::reduced::reduced_point` meets its contract.
use mathlib.Core.List.{List}
use mathlib.Core.Path.{◌≡◌, sym, subst}
use Prim.Native.Nat.{ℕ, ◌<◌}
use lib.Dec.{lit<}
use lib.IntN.{ℤ}
use Rattle.exact.specs.WeightedSum.{Within}
use Rattle.net.specs.Net.{entry}
use Rattle.net.specs.Refusals.{net_limit}
use Rattle.subdivision.specs.WeightTable.{six}
use Rattle.rule.specs.Reduced.{Reducible}
use Rattle.rule.proofs.Values.{six_within}
use Rattle.rule.proofs.reduced.reduced_point.Goals as goal
use Rattle.rule.proofs.reduced.reduced_point.Goals.{Start}

-- the values that a call of `values_at` gave are in range
ready : (c : Start) (x : ℕ) → x < 3 → {vs : List ℤ} →
    vs ≡ six (λ k. entry c.args.a k x) (λ k. entry c.args.b k x) →
    Reducible c.args.row c.args.f c.args.half × Within net_limit vs
ready c x p e = (
  c.requires.0,
  subst (Within net_limit) (sym e) (six_within net_limit c.args.a c.args.b c.requires.1 c.requires.2 x p),
)

pub reduced_number-x-requires : goal.reduced_number-x-requires
reduced_number-x-requires c = ready (goal.at.reduced_number-x-requires c).Start 0 (lit< tt) c.values_at.ensures

pub reduced_number-y-requires : goal.reduced_number-y-requires
reduced_number-y-requires c = ready (goal.at.reduced_number-y-requires c).Start 1 (lit< tt) c.values_at-2.ensures

pub reduced_number-z-requires : goal.reduced_number-z-requires
reduced_number-z-requires c =
    ready (goal.at.reduced_number-z-requires c).Start 2 (lit< tt) c.values_at-3.ensures

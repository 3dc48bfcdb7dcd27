-- `exact::sums::weighted_sum` meets its contract. The loop's invariant: the sum so far and the weighted sum of the rest
-- are the whole sum, and the sum so far leaves room for 2 ^ 57 in size for each term of the rest.
use mathlib.Core.Path.{◌≡◌}
use Prim.Native.Nat.{◌+◌, ◌*◌, ◌^◌, ◌≤◌}
use lib.ListN.{length}
use lib.IntN.{nat_abs, ◌+ℤ◌}
use Rattle.exact.specs.WeightedSum.{weighted_sum, Within}
use Rattle.exact.proofs.sums.weighted_sum.Given as goal

abbrev pub invariant-loop-w : goal.invariant-loop-w
invariant-loop-w g l =
    let ws = l.w-iterator.a.rest.now in
    let vs = l.w-iterator.b.rest.now in
    record {
      sum : l.sum +ℤ weighted_sum ws vs ≡ weighted_sum l.fn.weights l.fn.values;
      size : nat_abs l.sum + length ws * 2 ^ 57 ≤ 9 * 2 ^ 57;
      small : Within (2 ^ 26) ws;
    }

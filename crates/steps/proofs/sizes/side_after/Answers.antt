-- `steps::sizes::side_after` meets its contract.
use Prim.Native.Nat.{◌≤◌}
use native.Mathlib.Omega.{arith}
use Rattle.steps.proofs.Sides.{side_small, side_grows}
use Rattle.steps.proofs.sizes.side_after.Goals as goal
use Rattle.steps.proofs.sizes.side_after.Goals.{In-loop}

-- within the loop
module _ (c : In-loop) where
  small : c.loop.side ≤ 65600
  small = omega (arith, c.loop.invariant, side_small c.loop.counter c.args.n c.requires.1 (omega arith))

  grown : 1 ≤ c.loop.side
  grown = omega (arith, c.loop.invariant, side_grows c.loop.counter c.args.n c.requires.0)

pub overflow_mul-side : goal.overflow_mul-side
overflow_mul-side c = omega (arith, small c)

pub overflow_sub-side : goal.overflow_sub-side
overflow_sub-side c = omega (arith, grown c)

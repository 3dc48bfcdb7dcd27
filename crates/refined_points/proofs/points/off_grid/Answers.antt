-- `refined_points::points::off_grid` meets its contract.
use Prim.Native.Nat.{◌-◌}
use native.Mathlib.Omega.{arith}
use Rattle.subdivision.specs.Refinement.{side_after}
use Rattle.steps.specs.Steps.{Depth}
use Rattle.steps.proofs.Sides.{wide_ready, high_ready, side_grows}
use Rattle.refined_points.proofs.points.off_grid.Goals as goal
use Rattle.refined_points.proofs.points.off_grid.Goals.{Start}

depth : (c : Start) → Depth c.args.steps.w c.args.steps.h c.args.steps.k
depth c = c.args.steps.depth

pub overflow_sub-side_after : goal.overflow_sub-side_after
overflow_sub-side_after c =
    let g = depth (goal.at.overflow_sub-side_after c).Start in
    omega (
      arith,
      c.side_after.ensures,
      side_grows c.args.steps.k c.args.steps.w
          (wide_ready g).0,
      g.wide,
    )

pub overflow_sub-result : goal.overflow_sub-result
overflow_sub-result c =
    let g = depth (goal.at.overflow_sub-result c).Start in
    omega (
      arith,
      c.side_after-2.ensures,
      side_grows c.args.steps.k
          c.args.steps.h (high_ready g).0,
      g.high,
    )

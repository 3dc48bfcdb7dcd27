-- Places that 6 does not refuse: the products that compare them do not overflow.
use mathlib.Core.Path.{◌≡◌}
use mathlib.Core.Bool.{false}
use Prim.Native.Nat.{ℕ, ◌*◌, ◌%◌, ◌^◌, ◌≤◌}
use native.Mathlib.Omega.{arith}
use lib.Pow.{shl_exact}
use Rattle.places.proofs.Cells.{on_grid}
use Rattle.subdivision.specs.Refinement.{side_after}
use Rattle.steps.specs.Steps.{Depth}
use Rattle.refined_points.specs.Refusals.{off_grid}

-- a place of the grid after k steps is at most 2^20, and a shift by at most 6 loses nothing of it
pub grid_small : (w h k p q : ℕ) → Depth w h k → off_grid w h k p q ≡ false → (p ≤ 1048576) × (q ≤ 1048576)
grid_small w h k p q depth e =
    let g = on_grid 1024 (side_after k w) (side_after k h) p q e in
    (omega (arith, g.0, depth.narrow), omega (arith, g.1, depth.low))

pub shifted : (l p : ℕ) → l ≤ 6 → p ≤ 1048576 → (p * 2 ^ l) % 2 ^ 64 ≡ p * 2 ^ l
shifted l p few small = shl_exact 21 l 64 (omega (arith, small)) (omega (arith, few))

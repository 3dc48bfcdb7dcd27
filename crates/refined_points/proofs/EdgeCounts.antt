-- The grid after k steps in 1,024ths is the starting grid at edge count 1024·2^k, which is at most 65,536.
use mathlib.Core.Path.{◌≡◌}
use mathlib.Core.Bool.{◌||◌}
use Prim.Native.Nat.{ℕ, ◌-◌, ◌*◌, ◌^◌, ◌≤◌, ◌<◌}
use native.Mathlib.Nat.{mul_assoc, pow-le-pow_right, zero-lt-suc}
use native.Mathlib.Omega.{arith}
use lib.Dec.{ltb}
use Rattle.places.specs.Refusals.{no_place}
use Rattle.subdivision.specs.Refinement.{side_after}
use Rattle.bounds.specs.DemandThree.{fine_edge}
use Rattle.steps.proofs.Sides.{some_cells, side_cells}
use Rattle.refined_points.specs.Refusals.{off_grid}

pub edge_bounds : (k : ℕ) → k ≤ 6 → (0 < fine_edge k) × (fine_edge k ≤ 65536)
edge_bounds k few =
    let most : 2 ^ k ≤ 2 ^ 6 = pow-le-pow_right (zero-lt-suc 1) few in
    let some : 0 < 2 ^ k = some_cells k in
    (omega (arith, some), omega (arith, most))

pub side_same : (k n : ℕ) → 1 ≤ n → 1024 * (side_after k n - 1) ≡ fine_edge k * (n - 1)
side_same k n some = omega (arith, side_cells k n some, mul_assoc 1024 (2 ^ k) (n - 1))

pub same_grid : (w h k p q : ℕ) → 1 ≤ w → 1 ≤ h → off_grid w h k p q ≡ no_place (fine_edge k) w h p q
same_grid w h k p q a b = λ i. ltb (side_same k w a i) p || ltb (side_same k h b i) q

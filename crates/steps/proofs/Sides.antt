-- Sides after k steps: how they grow.
use mathlib.Core.Path.{◌≡◌, ap, subst, ◌∙◌}
use Prim.Native.Nat.{ℕ, zero, suc, ◌+◌, ◌-◌, ◌*◌, ◌^◌, ◌≤◌, ◌<◌}
use native.Mathlib.Nat.{le_refl, le_trans, mul-le-mul, mul_assoc, pow-suc, pow-succ', pow-le-pow_right, one-le-pow}
use native.Mathlib.Omega.{arith}
use lib.Dec.{lit<}
use Rattle.subdivision.specs.Refinement.{refined_side, side_after}
use Rattle.steps.specs.Steps.{Depth}

-- a side at most doubles at each step
side_doubles : (k n : ℕ) → side_after k n ≤ n * 2 ^ k
side_doubles zero n = omega arith
side_doubles (suc k) n = omega (arith, side_doubles k n, ap (λ (m : ℕ). n * m) (pow-suc 2 k))

pub side_small : (k n : ℕ) → n ≤ 1025 → k ≤ 6 → side_after k n ≤ 65600
side_small k n a b = le_trans (side_doubles k n) (mul-le-mul a (pow-le-pow_right {n = 2} (lit< tt) b))

-- and never shrinks
pub side_grows : (k n : ℕ) → 1 ≤ n → n ≤ side_after k n
side_grows zero n a = le_refl n
side_grows (suc k) n a = omega (arith, side_grows k n a)

pub side_before : (k n : ℕ) → 1 ≤ n → side_after (k - 1) n ≤ side_after k n
side_before zero n a = le_refl n
side_before (suc k) n a =
    let last : k ≡ suc k - 1 = omega arith in
    subst (λ (m : ℕ). side_after m n ≤ side_after (suc k) n) last (omega (arith, side_grows k n a))

-- the last step
pub side_last : (k n : ℕ) → 1 ≤ k → refined_side (side_after (k - 1) n) ≡ side_after k n
side_last zero n a = absurd (omega (arith, a))
side_last (suc k) n a =
    let last : suc k - 1 ≡ k = omega arith in
    ap (λ (m : ℕ). refined_side (side_after m n)) last

-- a cell of the starting net has 2^k by 2^k cells after k steps, at least one
pub some_cells : (k : ℕ) → 0 < 2 ^ k
some_cells k = omega (arith, one-le-pow k 2 (lit< tt))

pub side_cells : (k n : ℕ) → 1 ≤ n → side_after k n ≡ 2 ^ k * (n - 1) + 1
side_cells zero n a = omega (arith, a)
side_cells (suc k) n a =
    let twice : 2 ^ suc k * (n - 1) ≡ 2 * (2 ^ k * (n - 1)) =
    ap (λ (m : ℕ). m * (n - 1)) (pow-succ' 2 k) ∙ mul_assoc 2 (2 ^ k) (n - 1) in
    omega (arith, side_cells k n a, twice)

-- a side and a number of steps that `side_after` takes
abbrev pub SideReady : ℕ → ℕ → Type 0
SideReady n k = (1 ≤ n) × (n ≤ 1025) × (k ≤ 6)

pub wide_ready : {w h k : ℕ} → Depth w h k → SideReady w k
wide_ready {w} {h} {k} g =
    let more : 1 ≤ w = omega (arith, g.wide) in
    (more, le_trans (side_grows k w more) g.narrow, g.few)

pub high_ready : {w h k : ℕ} → Depth w h k → SideReady h k
high_ready {w} {h} {k} g =
    let more : 1 ≤ h = omega (arith, g.high) in
    (more, le_trans (side_grows k h more) g.low, g.few)

-- one step less is not refused either
pub shallower : {w h k : ℕ} → Depth w h k → Depth w h (k - 1)
shallower {w} {h} {k} g =
    record {
      few = omega (arith, g.few);
      wide = g.wide;
      narrow = le_trans (side_before k w (wide_ready g).0) g.narrow;
      high = g.high;
      low = le_trans (side_before k h (high_ready g).0) g.low;
    }

-- the numbers of the net after k steps are few
pub few_after : {w h k : ℕ} → Depth w h k → side_after k w * side_after k h ≤ 1050625
few_after g = mul-le-mul g.narrow g.low

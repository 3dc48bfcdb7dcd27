-- Order, size and distance of integers: the laws that the kit's `lib.Signed` lacks.
-- A linear fact that is not here is one call of `omega (integers, ..)` (`Parts`).
use mathlib.Core.Path.{◌≡◌, refl}
use mathlib.Core.Logic.{◌⊎◌, inl, inr}
use Prim.Native.Nat.{ℕ, suc, ◌+◌, ◌*◌, ◌≤◌, ◌<◌}
use native.Mathlib.Nat.{mul-le-mul_left, le_of_mul-le-mul_left, lt_of_mul-lt-mul_left}
use native.Mathlib.Decide.{dec_le}
use native.Mathlib.Omega.{arith}
use lib.IntN.{ℤ, pos, negsuc, neg_ℤ, nat_abs, ◌+ℤ◌, ◌-ℤ◌, ◌*ℤ◌}
use lib.Signed.{◌≤ℤ◌, ◌<ℤ◌}
use Rattle.exact.proofs.Parts.{integers, pos_part, neg_part, sum_parts, difference_parts, product_parts, negation_parts, size_parts, le_parts, parts_le, parts_lt}

-- ---- order

pub ≤ℤ-trans : {a b c : ℤ} → a ≤ℤ b → b ≤ℤ c → a ≤ℤ c
≤ℤ-trans {a} {b} {c} h k = omega integers

pub ≤ℤ-antisym : {a b : ℤ} → a ≤ℤ b → b ≤ℤ a → a ≡ b
≤ℤ-antisym {a} {b} h k = omega integers

pub ≤ℤ-total : (a b : ℤ) → (a ≤ℤ b) ⊎ (b ≤ℤ a)
≤ℤ-total a b = go (dec_le (pos_part a + neg_part b) (pos_part b + neg_part a))
  where
    go : Dec (pos_part a + neg_part b ≤ pos_part b + neg_part a) → (a ≤ℤ b) ⊎ (b ≤ℤ a)
    go (yes h) = inl (parts_le h)
    go (no h) = inr (omega integers)

pub <ℤ-≤ℤ : {a b : ℤ} → a <ℤ b → a ≤ℤ b
<ℤ-≤ℤ {a} {b} h = omega integers

pub ≤ℤ-<ℤ-trans : {a b c : ℤ} → a ≤ℤ b → b <ℤ c → a <ℤ c
≤ℤ-<ℤ-trans {a} {b} {c} h k = omega integers

pub ≡-≤ℤ : {a b : ℤ} → a ≡ b → a ≤ℤ b
≡-≤ℤ {a} {b} e = omega integers

-- with sums, and with a negation
pub +ℤ-mono : {a b c d : ℤ} → a ≤ℤ b → c ≤ℤ d → (a +ℤ c) ≤ℤ (b +ℤ d)
+ℤ-mono {a} {b} {c} {d} h k = omega (integers, sum_parts a c, sum_parts b d)

pub negℤ_anti : {a b : ℤ} → a ≤ℤ b → neg_ℤ b ≤ℤ neg_ℤ a
negℤ_anti {a} {b} h = omega (integers, negation_parts a, negation_parts b)

-- with a factor that is not negative, and back from one above 0
pub *ℤ-mono : {a b : ℤ} (c : ℤ) → pos 0 ≤ℤ c → a ≤ℤ b → (c *ℤ a) ≤ℤ (c *ℤ b)
*ℤ-mono {a} {b} c p h =
    omega (
      integers,
      product_parts c a,
      product_parts c b,
      mul-le-mul_left (pos_part c) (le_parts h),
      vanish c p (pos_part a),
      vanish c p (neg_part a),
      vanish c p (pos_part b),
      vanish c p (neg_part b),
    )
  where
    vanish : (c : ℤ) → pos 0 ≤ℤ c → (m : ℕ) → neg_part c * m ≡ 0
    vanish (pos n) p m = omega arith
    vanish (negsuc n) p m = absurd p.le

pub *ℤ-cancel-≤ : {a b : ℤ} (n : ℕ) → 0 < n → (pos n *ℤ a) ≤ℤ (pos n *ℤ b) → a ≤ℤ b
*ℤ-cancel-≤ {a} {b} n p h =
    parts_le (le_of_mul-le-mul_left {k = n} (omega (integers, product_parts (pos n) a, product_parts (pos n) b)) p)

pub *ℤ-cancel-< : {a b : ℤ} (n : ℕ) → (pos n *ℤ a) <ℤ (pos n *ℤ b) → a <ℤ b
*ℤ-cancel-< {a} {b} n h =
    parts_lt (lt_of_mul-lt-mul_left n (omega (integers, product_parts (pos n) a, product_parts (pos n) b)))

-- ---- size

pub size_negation : (a : ℤ) → nat_abs (neg_ℤ a) ≡ nat_abs a
size_negation a = omega (arith, size_parts a, size_parts (neg_ℤ a), negation_parts a)

pub size_sum : (a b : ℤ) → nat_abs (a +ℤ b) ≤ nat_abs a + nat_abs b
size_sum a b = omega (arith, size_parts a, size_parts b, size_parts (a +ℤ b), sum_parts a b)

pub size_difference : (a b : ℤ) → nat_abs (a -ℤ b) ≤ nat_abs a + nat_abs b
size_difference a b = omega (arith, size_sum a (neg_ℤ b), size_negation b)

pub size_product : (a b : ℤ) → nat_abs (a *ℤ b) ≡ nat_abs a * nat_abs b
size_product (pos a) (pos b) = refl
size_product (pos a) (negsuc b) = size_negation (pos (a * suc b))
size_product (negsuc a) (pos b) = size_negation (pos (suc a * b))
size_product (negsuc a) (negsuc b) = refl

-- at most n in size: between -n and n
pub size_low : (z : ℤ) {n : ℕ} → nat_abs z ≤ n → neg_ℤ (pos n) ≤ℤ z
size_low z {n} h = omega (integers, size_parts z, negation_parts (pos n))

pub size_high : (z : ℤ) {n : ℕ} → nat_abs z ≤ n → z ≤ℤ pos n
size_high z {n} h = omega (integers, size_parts z)

pub size_between : {z : ℤ} {n : ℕ} → neg_ℤ (pos n) ≤ℤ z → z ≤ℤ pos n → nat_abs z ≤ n
size_between {z} {n} l h = omega (integers, size_parts z, negation_parts (pos n))

pub size_zero : (z : ℤ) → nat_abs z ≤ 0 → z ≡ pos 0
size_zero z h = omega (integers, size_parts z)

-- ---- distance: the size of a difference

pub distance_sym : (a b : ℤ) → nat_abs (a -ℤ b) ≡ nat_abs (b -ℤ a)
distance_sym a b = omega (arith, size_parts (a -ℤ b), size_parts (b -ℤ a), difference_parts a b, difference_parts b a)

pub distance_triangle : (a b c : ℤ) → nat_abs (a -ℤ c) ≤ nat_abs (a -ℤ b) + nat_abs (b -ℤ c)
distance_triangle a b c =
    omega (
      arith,
      size_parts (a -ℤ b),
      size_parts (b -ℤ c),
      size_parts (a -ℤ c),
      difference_parts a b,
      difference_parts b c,
      difference_parts a c,
    )

pub distance_zero : (a b : ℤ) → nat_abs (a -ℤ b) ≤ 0 → a ≡ b
distance_zero a b h = omega (integers, size_parts (a -ℤ b), difference_parts a b)

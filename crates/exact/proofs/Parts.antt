-- The way from integers to `omega`, which reads naturals only. An integer is the difference of its positive and its
-- negative part, two naturals. `omega (integers, ..)` reads each hypothesis `a ≤ℤ b`, `a <ℤ b` or `a ≡ b` through the
-- parts, and proves such a goal through them. The list after it names the parts of each compound number that stands in
-- one: `sum_parts a b` for `a +ℤ b`, and so on. `Linear` has the parts of a whole expression in one entry.
use mathlib.Core.Path.{◌≡◌, refl, ap}
use mathlib.Core.Bool.{Bool, true, false, not, cond}
use Prim.Native.Nat.{ℕ, zero, suc, ◌+◌, ◌*◌, ◌-◌, max, ◌≤◌, ◌<◌}
use native.Mathlib.Omega.{arith}
use lib.Dec.{T, ltb, leb→le, le→leb, ltb→lt, lt→ltb, nltb→le}
use lib.IntN.{ℤ, pos, negsuc, neg_ℤ, nat_abs, sub_ℕ, ◌+ℤ◌, ◌-ℤ◌, ◌*ℤ◌}
use lib.Signed.{mag, le_z, lt_z, ◌≤ℤ◌, ◌<ℤ◌}

-- ---- the two parts

abbrev pub pos_part : ℤ → ℕ
pos_part (pos n) = n
pos_part (negsuc n) = 0

abbrev pub neg_part : ℤ → ℕ
neg_part (pos n) = 0
neg_part (negsuc n) = suc n

cond_ind : (b : Bool) (x y : ℤ) (P : ℤ → Type 0) → (T b → P x) → (T (not b) → P y) → P (cond b x y)
cond_ind true x y P f g = f tt
cond_ind false x y P f g = g tt

subℕ_parts : (a b : ℕ) → pos_part (sub_ℕ a b) + b ≡ neg_part (sub_ℕ a b) + a
subℕ_parts a b =
    cond_ind (ltb a b) (negsuc (b - suc a)) (pos (a - b)) (λ (z : ℤ). pos_part z + b ≡ neg_part z + a)
    (λ t. let h : a < b = ltb→lt a b t in omega arith)
    (λ t. let h : b ≤ a = nltb→le a b t in omega arith)

pub sum_parts : (a b : ℤ) → pos_part (a +ℤ b) + (neg_part a + neg_part b) ≡ neg_part (a +ℤ b) + (pos_part a + pos_part b)
sum_parts (pos a) (pos b) = omega arith
sum_parts (pos a) (negsuc b) = omega (arith, subℕ_parts a (suc b))
sum_parts (negsuc a) (pos b) = omega (arith, subℕ_parts b (suc a))
sum_parts (negsuc a) (negsuc b) = omega arith

-- a negation exchanges the parts
pub negation_parts : (a : ℤ) → (pos_part (neg_ℤ a) ≡ neg_part a) × (neg_part (neg_ℤ a) ≡ pos_part a)
negation_parts (pos zero) = (refl, refl)
negation_parts (pos (suc n)) = (refl, refl)
negation_parts (negsuc n) = (refl, refl)

pub difference_parts : (a b : ℤ) →
    pos_part (a -ℤ b) + (neg_part a + pos_part b) ≡ neg_part (a -ℤ b) + (pos_part a + neg_part b)
difference_parts a b = omega (arith, sum_parts a (neg_ℤ b), negation_parts b)

pub product_parts : (a b : ℤ) →
    pos_part (a *ℤ b) + (pos_part a * neg_part b + neg_part a * pos_part b)
    ≡ neg_part (a *ℤ b) + (pos_part a * pos_part b + neg_part a * neg_part b)
product_parts (pos a) (pos b) = omega arith
product_parts (pos a) (negsuc b) = omega (arith, negation_parts (pos (a * suc b)))
product_parts (negsuc a) (pos b) = omega (arith, negation_parts (pos (suc a * b)))
product_parts (negsuc a) (negsuc b) = omega arith

-- one of the two parts is 0, and the size is the other
pub size_parts : (a : ℤ) → (nat_abs a ≡ pos_part a + neg_part a) × (nat_abs a ≡ max (pos_part a) (neg_part a))
size_parts (pos n) = omega arith
size_parts (negsuc n) = omega arith

-- `mag`, by which the kit bounds a signed width, is n both for n and for -(n + 1)
pub mag_parts : (a : ℤ) → suc (mag a) ≡ max (suc (pos_part a)) (neg_part a)
mag_parts (pos n) = omega arith
mag_parts (negsuc n) = omega arith

-- ---- order and equality, by the parts

pub le_parts : {a b : ℤ} → a ≤ℤ b → pos_part a + neg_part b ≤ pos_part b + neg_part a
le_parts {a} {b} h = go a b h.le
  where
    go : (a b : ℤ) → T (le_z a b) → pos_part a + neg_part b ≤ pos_part b + neg_part a
    go (pos a) (pos b) t = omega (arith, leb→le a b t)
    go (pos a) (negsuc b) t = absurd t
    go (negsuc a) (pos b) t = omega arith
    go (negsuc a) (negsuc b) t = omega (arith, leb→le b a t)

pub lt_parts : {a b : ℤ} → a <ℤ b → pos_part a + neg_part b < pos_part b + neg_part a
lt_parts {a} {b} h = go a b h.lt
  where
    go : (a b : ℤ) → T (lt_z a b) → pos_part a + neg_part b < pos_part b + neg_part a
    go (pos a) (pos b) t = omega (arith, ltb→lt a b t)
    go (pos a) (negsuc b) t = absurd t
    go (negsuc a) (pos b) t = omega arith
    go (negsuc a) (negsuc b) t = omega (arith, ltb→lt b a t)

pub eq_parts : {a b : ℤ} → a ≡ b → pos_part a + neg_part b ≡ pos_part b + neg_part a
eq_parts {a} {b} e = omega (arith, ap pos_part e, ap neg_part e)

pub parts_le : {a b : ℤ} → pos_part a + neg_part b ≤ pos_part b + neg_part a → a ≤ℤ b
parts_le {a} {b} h = record { le = go a b h }
  where
    go : (a b : ℤ) → pos_part a + neg_part b ≤ pos_part b + neg_part a → T (le_z a b)
    go (pos a) (pos b) h = le→leb a b (omega arith)
    go (pos a) (negsuc b) h = omega arith
    go (negsuc a) (pos b) h = tt
    go (negsuc a) (negsuc b) h = le→leb b a (omega arith)

pub parts_lt : {a b : ℤ} → pos_part a + neg_part b < pos_part b + neg_part a → a <ℤ b
parts_lt {a} {b} h = record { lt = go a b h }
  where
    go : (a b : ℤ) → pos_part a + neg_part b < pos_part b + neg_part a → T (lt_z a b)
    go (pos a) (pos b) h = lt→ltb a b (omega arith)
    go (pos a) (negsuc b) h = omega arith
    go (negsuc a) (pos b) h = tt
    go (negsuc a) (negsuc b) h = lt→ltb b a (omega arith)

pub parts_eq : {a b : ℤ} → pos_part a + neg_part b ≡ pos_part b + neg_part a → a ≡ b
parts_eq {a} {b} h = go a b h
  where
    go : (a b : ℤ) → pos_part a + neg_part b ≡ pos_part b + neg_part a → a ≡ b
    go (pos a) (pos b) h = ap pos (omega arith)
    go (pos a) (negsuc b) h = absurd (omega arith)
    go (negsuc a) (pos b) h = absurd (omega arith)
    go (negsuc a) (negsuc b) h = ap negsuc (omega arith)

-- what `omega` is handed
pub ruleset integers = (arith, le_parts, lt_parts, eq_parts, parts_le, parts_lt, parts_eq)

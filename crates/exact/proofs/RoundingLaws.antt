-- The laws of `rounded`: odd, nearest, range, whole quotient, scale, monotone. Proofs above cite these and do not unfold
-- `rounded`. Odd is for mirror images alone (document 02 d); the others hold whichever way halves go. Range and whole
-- quotient follow from nearest.
use mathlib.Core.Path.{◌≡◌, refl, sym, ◌∙◌, ap, subst}
use mathlib.Core.Bool.{Bool, true, false}
use mathlib.Core.List.{List, [], ◌∷◌, Forall₂}
use Prim.Native.Nat.{ℕ, zero, suc, ◌+◌, ◌*◌, ◌-◌, ◌/◌, ◌<◌, ◌≤◌}
use native.Mathlib.Nat.{mul-div-le, div-mul-le_self, lt-mul-div-succ, le-div_iff_mul-le, mul-div-mul_left, div-eq_of_lt, mul-pos, add-mul-div_left, div-lt_iff_lt-mul, mul_comm, zero-add, le_refl, le_trans, mul-le-mul, le-mul_of_pos_right}
use native.Mathlib.Omega.{arith}
use lib.Dec.{ltb}
use lib.IntN.{ℤ, pos, negsuc, nat_abs, neg_ℤ, neg_ℤ-neg_ℤ, ◌+ℤ◌, ◌-ℤ◌, ◌*ℤ◌, *ℤ_comm}
use lib.Signed.{◌≤ℤ◌, ◌<ℤ◌, ≤ℤ_refl}
use mir.Val.{bool_byte}
use borrow.Author.Tests.{lt-ltb, le-ltb}
use Rattle.exact.specs.Rounding.{floor_quotient, rounded}
use Rattle.exact.specs.WeightedSum.{weighted_sum, total}
use Rattle.exact.proofs.Parts.{integers, sum_parts, difference_parts, negation_parts, size_parts, parts_le}
use Rattle.exact.proofs.Integers.{neg_times, times_neg}
use Rattle.exact.proofs.Order.{size_between, ≤ℤ-antisym, negℤ_anti, *ℤ-cancel-<}
use Rattle.exact.proofs.Expressions.{var, lit, ◌⊕◌, ◌⊗◌, identity}
use Rattle.exact.proofs.WeightedSumLaws.{InRange, sum_range}

-- a multiple of d that is less than d above another is at most that one
at_most : {x y : ℤ} (d : ℕ) → (pos d *ℤ x) <ℤ (pos d *ℤ y +ℤ pos d) → x ≤ℤ y
at_most {x} {y} d h =
    let next = identity (var 0 ⊗ var 1 ⊕ var 0) (var 0 ⊗ (var 1 ⊕ lit (pos 1))) (pos d ∷ y ∷ []) refl in
    let k : x <ℤ (y +ℤ pos 1) = *ℤ-cancel-< d (subst (λ (z : ℤ). (pos d *ℤ x) <ℤ z) next h) in
    omega (integers, sum_parts y (pos 1))

double : {d : ℕ} → 0 < d → 0 < 2 * d
double p = omega arith

-- odd: the sign of a number is the sign of what it is rounded to
pub rounded_odd : (n : ℤ) (d : ℕ) → 0 < d → rounded (neg_ℤ n) d ≡ neg_ℤ (rounded n d)
unfolding rounded floor_quotient
rounded_odd (pos zero) d p =
    let none : (2 * 0 + d) / (2 * d) ≡ 0 = div-eq_of_lt (omega arith) in
    ap pos none ∙ sym (ap (λ (q : ℕ). neg_ℤ (pos q)) none)
rounded_odd (pos (suc a)) d p = refl
rounded_odd (negsuc a) d p = sym (neg_ℤ-neg_ℤ (pos ((2 * suc a + d) / (2 * d))))

-- nearest: d times the rounded number is at most d / 2 from n; from zero on, and then below it
near : (a d : ℕ) → 0 < d → 2 * nat_abs (pos d *ℤ rounded (pos a) d -ℤ pos a) ≤ d
unfolding rounded floor_quotient
near a d p =
    let r = (2 * a + d) / (2 * d) in
    omega (
      integers,
      mul-div-le (2 * a + d) (2 * d),
      lt-mul-div-succ (2 * a + d) (double p),
      difference_parts (pos (d * r)) (pos a),
      size_parts (pos (d * r) -ℤ pos a),
    )

pub nearest : (n : ℤ) (d : ℕ) → 0 < d → 2 * nat_abs (pos d *ℤ rounded n d -ℤ n) ≤ d
nearest (pos a) d p = near a d p
nearest (negsuc a) d p =
    let r = rounded (pos (suc a)) d in
    let back : pos d *ℤ rounded (negsuc a) d ≡ neg_ℤ (pos d *ℤ r) =
    ap (λ (z : ℤ). pos d *ℤ z) (rounded_odd (pos (suc a)) d p) ∙ times_neg (pos d) r in
    subst (λ (z : ℤ). 2 * nat_abs (z -ℤ negsuc a) ≤ d) (sym back) (omega (
      integers,
      near (suc a) d p,
      difference_parts (pos d *ℤ r) (pos (suc a)),
      size_parts (pos d *ℤ r -ℤ pos (suc a)),
      negation_parts (pos d *ℤ r),
      difference_parts (neg_ℤ (pos d *ℤ r)) (negsuc a),
      size_parts (neg_ℤ (pos d *ℤ r) -ℤ negsuc a),
    ))

-- range: where n / d is at least m, so is the rounded number; and at most
pub rounded_at_least : {m n : ℤ} (d : ℕ) → 0 < d → (m *ℤ pos d) ≤ℤ n → m ≤ℤ rounded n d
rounded_at_least {m} {n} d p h =
    let near = pos d *ℤ rounded n d in
    at_most d (omega (
      integers,
      *ℤ_comm m (pos d),
      nearest n d p,
      size_parts
          (near -ℤ n),
      difference_parts near n,
      sum_parts near (pos d),
    ))

pub rounded_at_most : {m n : ℤ} (d : ℕ) → 0 < d → n ≤ℤ (m *ℤ pos d) → rounded n d ≤ℤ m
rounded_at_most {m} {n} d p h =
    let near = pos d *ℤ rounded n d in
    at_most d
    (omega (
      integers,
      *ℤ_comm m (pos d),
      nearest n d p,
      size_parts (near -ℤ n),
      difference_parts near n,
      sum_parts
          (pos d *ℤ m) (pos d),
    ))

-- and so a bound for its size
pub rounded_size : (n : ℤ) (d m : ℕ) → 0 < d → nat_abs n ≤ m * d → nat_abs (rounded n d) ≤ m
rounded_size n d m p h =
    size_between
    (rounded_at_least {m = neg_ℤ (pos m)} {n = n} d p
    (omega (integers, neg_times (pos m) (pos d), negation_parts (pos (m * d)), size_parts n, h)))
    (rounded_at_most {m = pos m} {n = n} d p (omega (integers, size_parts n, h)))

-- a whole quotient is itself
pub rounded_whole : (m : ℤ) (d : ℕ) → 0 < d → rounded (m *ℤ pos d) d ≡ m
rounded_whole m d p =
    ≤ℤ-antisym (rounded_at_most d p (≤ℤ_refl (m *ℤ pos d))) (rounded_at_least d p (≤ℤ_refl (m *ℤ pos d)))

-- scale: a common factor above 0 does not matter
scaled : (c a d : ℕ) → 0 < c → 0 < d → rounded (pos (c * a)) (c * d) ≡ rounded (pos a) d
unfolding rounded floor_quotient
scaled c a d k p =
    let top : 2 * (c * a) + c * d ≡ c * (2 * a + d) = omega arith in
    let under : 2 * (c * d) ≡ c * (2 * d) = omega arith in
    (λ t. pos (top t / under t)) ∙ ap pos (mul-div-mul_left (2 * a + d) (2 * d) k)

pub rounded_scale : (c : ℕ) (n : ℤ) (d : ℕ) → 0 < c → 0 < d → rounded (pos c *ℤ n) (c * d) ≡ rounded n d
rounded_scale c (pos a) d k p = scaled c a d k p
rounded_scale c (negsuc a) d k p =
    rounded_odd (pos (c * suc a)) (c * d) (mul-pos k p)
    ∙ ap neg_ℤ (scaled c (suc a) d k p)
    ∙ sym (rounded_odd (pos (suc a)) d p)

-- monotone
monotone : (a b d : ℕ) → 0 < d → a ≤ b → rounded (pos a) d ≤ℤ rounded (pos b) d
unfolding rounded floor_quotient
monotone a b d p h =
    let less : (2 * a + d) / (2 * d) * (2 * d) ≤ 2 * b + d = omega (arith, div-mul-le_self (2 * a + d) (2 * d), h) in
    let least : (2 * a + d) / (2 * d) ≤ (2 * b + d) / (2 * d) = (le-div_iff_mul-le (double p)).1 less in
    parts_le (omega (arith, least))

monotone_signed : (m n : ℤ) (d : ℕ) → 0 < d → m ≤ℤ n → rounded m d ≤ℤ rounded n d
unfolding rounded floor_quotient
monotone_signed (pos a) (pos b) d p h = monotone a b d p (omega integers)
monotone_signed (pos a) (negsuc b) d p h = absurd h.le
monotone_signed (negsuc a) (pos b) d p h = omega (integers, negation_parts (pos ((2 * suc a + d) / (2 * d))))
monotone_signed (negsuc a) (negsuc b) d p h = negℤ_anti (monotone (suc b) (suc a) d p (omega integers))

pub rounded_monotone : {m n : ℤ} (d : ℕ) → 0 < d → m ≤ℤ n → rounded m d ≤ℤ rounded n d
rounded_monotone {m} {n} d p h = monotone_signed m n d p h

-- a rounded mean lies where the values that count lie
pub mean_range : {m n : ℤ} {ws vs : List ℤ} (d : ℕ) → 0 < d → total ws ≡ pos d → Forall₂ (InRange m n) ws vs →
    (m ≤ℤ rounded (weighted_sum ws vs) d) × (rounded (weighted_sum ws vs) d ≤ℤ n)
mean_range {m} {n} {ws} {vs} d p e h =
    let r = sum_range h in (
      rounded_at_least d p (subst (λ (x : ℤ). (m *ℤ x) ≤ℤ weighted_sum ws vs) e r.0),
      rounded_at_most d p (subst (λ (x : ℤ). weighted_sum ws vs ≤ℤ (n *ℤ x)) e r.1),
    )

-- ---- raised by m divisors a numerator is not negative, and an even divisor, 2h, takes one quotient of naturals; below
-- zero a half goes down, so one less is added there

-- the quotient of a size: over 2h the half is whole
even_size_lem : (a h : ℕ) → (2 * a + 2 * h) / (2 * (2 * h)) ≡ (a + h) / (2 * h)
even_size_lem a h =
    let top : 2 * a + 2 * h ≡ 2 * (a + h) = omega arith in
    ap (λ (n : ℕ). n / (2 * (2 * h))) top ∙ mul-div-mul_left (a + h) (2 * h) (omega arith)

-- a quotient rounded down, taken from m: what is left is rounded up
taken_down : (x d m : ℕ) → 0 < d → x < d * m + d → (d * m + d - 1 - x) / d ≡ m - x / d
taken_down x d m p k =
    let q = x / d in
    let low : d * q ≤ x = mul-div-le x d in
    let high : x < d * q + d = omega (arith, lt-mul-div-succ x p) in
    let most : q < m + 1 = (div-lt_iff_lt-mul p).1 (omega (arith, mul_comm (m + 1) d, k)) in
    let rest : m ≡ q + (m - q) = omega (arith, most) in
    let parts : d * m ≡ d * q + d * (m - q) = omega (arith, ap (λ (n : ℕ). d * n) rest) in
    let split : d * m + d - 1 - x ≡ (d * q + d - 1 - x) + d * (m - q) = omega (arith, low, high, parts) in
    ap (λ (n : ℕ). n / d) split ∙ add-mul-div_left (d * q + d - 1 - x) (m - q) p
    ∙ ap (λ (n : ℕ). n + (m - q)) (div-eq_of_lt (omega (arith, low, p))) ∙ zero-add (m - q)

-- where the divisor times m is small, both are; and what a test gives
pub factors_few : (h m b : ℕ) → 0 < h → 0 < m → 2 * h * m ≤ b → (2 * h ≤ b) × (2 * m ≤ b)
factors_few h m b p q k =
    let two : 2 ≤ 2 * h = omega (arith, p) in
    (le_trans (le-mul_of_pos_right (2 * h) q) k, le_trans (mul-le-mul two (le_refl m)) k)

pub byte_few : (b : Bool) → bool_byte b ≤ 1
byte_few true = omega arith
byte_few false = omega arith

-- the raised numerator is small, and so is its quotient, whatever is taken away
pub raised_few : (n : ℤ) (h m above : ℕ) → nat_abs n ≤ 2 * h * m → pos above ≡ n +ℤ pos (2 * h * m) →
    above ≤ 2 * (2 * h * m)
raised_few n h m above k e = omega (integers, e, sum_parts n (pos (2 * h * m)), size_parts n, k)

pub quotient_few : (h m above below : ℕ) → 0 < h → above ≤ 2 * (2 * h * m) →
    (above + h - below) / (2 * h) < 2 * m + 1
quotient_few h m above below p k =
    (div-lt_iff_lt-mul (double p)).1 (omega (arith, k, double p, mul_comm (2 * h) m))

pub rounded_raised : (n : ℤ) (h m above : ℕ) → 0 < h → nat_abs n ≤ 2 * h * m → pos above ≡ n +ℤ pos (2 * h * m) →
    pos ((above + h - bool_byte (ltb above (2 * h * m))) / (2 * h)) -ℤ pos m ≡ rounded n (2 * h)
unfolding rounded floor_quotient
rounded_raised (pos a) h m above p k e =
    let d = 2 * h in
    let sum : above ≡ a + d * m = ap nat_abs e in
    let test : ltb above (d * m) ≡ false = le-ltb above (d * m) (omega (arith, sum)) in
    let top : above + h - 0 ≡ (a + h) + d * m = omega (arith, sum) in
    ap (λ (b : Bool). pos ((above + h - bool_byte b) / d) -ℤ pos m) test
    ∙ ap (λ (n : ℕ). pos (n / d) -ℤ pos m) top
    ∙ ap (λ (n : ℕ). pos n -ℤ pos m) (add-mul-div_left (a + h) m (double p))
    ∙ omega (integers, difference_parts (pos ((a + h) / d + m)) (pos m))
    ∙ ap pos (sym (even_size_lem a h))
rounded_raised (negsuc a) h m above p k e =
    let d = 2 * h in
    let sum : above + suc a ≡ d * m = omega (integers, e, sum_parts (negsuc a) (pos (d * m)), k) in
    let test : ltb above (d * m) ≡ true = lt-ltb above (d * m) (omega (arith, sum)) in
    let x = suc a + h in
    let top : above + h - 1 ≡ d * m + d - 1 - x = omega (arith, sum) in
    let few : x < d * m + d = omega (arith, sum, p) in
    let most : x / d < m + 1 = (div-lt_iff_lt-mul (double p)).1 (omega (arith, mul_comm (m + 1) d, few)) in
    ap (λ (b : Bool). pos ((above + h - bool_byte b) / d) -ℤ pos m) test
    ∙ ap (λ (n : ℕ). pos (n / d) -ℤ pos m) top
    ∙ ap (λ (n : ℕ). pos n -ℤ pos m) (taken_down x d m (double p) few)
    ∙ omega (integers, difference_parts (pos (m - x / d)) (pos m), negation_parts (pos (x / d)), most)
    ∙ ap (λ (n : ℕ). neg_ℤ (pos n)) (sym (even_size_lem (suc a) h))

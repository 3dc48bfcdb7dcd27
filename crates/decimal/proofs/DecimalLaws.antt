-- Decimal digits: the definition without its fuel, how many there are, and that they denote the number.
use mathlib.Core.Path.{◌≡◌, refl, sym, ap, subst, ◌∙◌}
use mathlib.Core.List.{List, [], ◌∷◌, ◌++◌}
use Prim.Native.Nat.{ℕ, zero, suc, ◌+◌, ◌-◌, ◌*◌, ◌/◌, ◌%◌, ◌^◌, ◌≤◌, ◌<◌}
use native.Mathlib.Nat.{le_refl, pow-suc}
use native.Mathlib.Decide.{dec_lt}
use native.Mathlib.Omega.{arith}
use lib.Dec.{eqb}
use lib.IntN.{ℤ, pos, negsuc, nat_abs, neg_ℤ}
use lib.ListN.{length, get_or, length-append, get_or-append}
use lib.Signed.{◌≤ℤ◌, ◌<ℤ◌}
use borrow.Author.Tests.{ne_eqb}
use Rattle.exact.proofs.Parts.{integers}
use Rattle.net.proofs.Faults.{cond_false}
use Rattle.decimal.specs.Decimal.{digit, digits_of, decimal, signed_decimal}
use Rattle.decimal.specs.Promises.{DecimalSteps, AllDigits, OnlyDigits, NoLeadingZero, value_after, signed_value, DigitsDenote, TextDenotes}

-- ---- the definition without fuel

-- any two bounds that are enough give the same digits
digits_same : (s t n : ℕ) → n ≤ s → n ≤ t → digits_of s n ≡ digits_of t n
unfolding digits_of
digits_same zero zero n a b = refl
digits_same zero (suc t) zero a b = refl
digits_same zero (suc t) (suc n) a b = absurd (omega (arith, a))
digits_same (suc s) zero zero a b = refl
digits_same (suc s) zero (suc n) a b = absurd (omega (arith, b))
digits_same (suc s) (suc t) zero a b = refl
digits_same (suc s) (suc t) (suc n) a b =
    ap (λ (l : List ℕ). l ++ (digit (suc n % 10) ∷ []))
    (digits_same s t (suc n / 10) (omega (arith, a)) (omega (arith, b)))

no_digits : (fuel : ℕ) → digits_of fuel 0 ≡ []
unfolding digits_of
no_digits zero = refl
no_digits (suc fuel) = refl

pub decimal_low : (n : ℕ) → n < 10 → decimal n ≡ digit n ∷ []
unfolding decimal digits_of
decimal_low zero h = refl
decimal_low (suc n) h =
    let none : suc n / 10 ≡ 0 = omega (arith, h) in
    let last : suc n % 10 ≡ suc n = omega (arith, h) in
    (λ t. digits_of n (none t) ++ (digit (last t) ∷ [])) ∙ ap (λ (l : List ℕ). l ++ (digit (suc n) ∷ [])) (no_digits n)

pub decimal_high : (n : ℕ) → 10 ≤ n → decimal n ≡ decimal (n / 10) ++ (digit (n % 10) ∷ [])
unfolding decimal digits_of
decimal_high zero h = absurd (omega (arith, h))
decimal_high (suc n) h = ap (λ (l : List ℕ). l ++ (digit (suc n % 10) ∷ [])) (above (suc n / 10) refl)
  where
    above : (q : ℕ) → suc n / 10 ≡ q → digits_of n q ≡ decimal q
    above zero e = absurd (omega (arith, e, h))
    above (suc q) e = digits_same n (suc q) (suc q) (omega (arith, e)) (le_refl (suc q))

pub decimal_steps : DecimalSteps
decimal_steps n = (decimal_low n, decimal_high n)

-- what holds of each number below ten, and of any other where it holds of n / 10, holds of every number
by_digits : (P : ℕ → Type 0) → ((n : ℕ) → n < 10 → P n) → ((n : ℕ) → 10 ≤ n → P (n / 10) → P n) → (n : ℕ) → P n
by_digits P low high n = go n n (le_refl n)
  where
    go : (bound n : ℕ) → n ≤ bound → P n
    go zero n h = low n (omega (arith, h))
    go (suc bound) n h = by (dec_lt n 10) (go bound (n / 10))
      where
        by : Dec (n < 10) → (n / 10 ≤ bound → P (n / 10)) → P n
        by (yes l) before = low n l
        by (no l) before = high n (omega arith) (before (omega arith))

-- ---- the sign

pub signed_below : (z : ℤ) → z <ℤ pos 0 → signed_decimal z ≡ (45 ∷ []) ++ decimal (nat_abs z)
unfolding signed_decimal
signed_below (pos n) h = absurd (omega integers)
signed_below (negsuc n) h = refl

pub signed_above : (z : ℤ) → pos 0 ≤ℤ z → signed_decimal z ≡ decimal (nat_abs z)
unfolding signed_decimal
signed_above (pos n) h = refl
signed_above (negsuc n) h = absurd h.le

-- ---- how many there are

pub decimal_length : (k n : ℕ) → n < 10 ^ suc k → length (decimal n) ≤ suc k
decimal_length zero n h = omega (arith, ap length (decimal_low n h))
decimal_length (suc k) n h = by (dec_lt n 10) (decimal_length k (n / 10))
  where
    by : Dec (n < 10) → (n / 10 < 10 ^ suc k → length (decimal (n / 10)) ≤ suc k) → length (decimal n) ≤ suc (suc k)
    by (yes l) before = omega (arith, ap length (decimal_low n l))
    by (no l) before =
        let last = ap length (decimal_high n (omega arith)) ∙ length-append (decimal (n / 10)) (digit (n % 10) ∷ []) in
        omega (arith, last, before (omega (arith, h, pow-suc 10 (suc k))))

pub signed_length : (z : ℤ) → nat_abs z < 10 ^ 10 → length (signed_decimal z) ≤ 11
unfolding signed_decimal
signed_length (pos n) h = omega (arith, decimal_length 9 n h)
signed_length (negsuc n) h = omega (arith, decimal_length 9 (suc n) h)

-- ---- what they denote

value_last : (xs : List ℕ) (front b : ℕ) → value_after front (xs ++ (b ∷ [])) ≡ 10 * value_after front xs + (b - 48)
value_last [] front b = refl
value_last (x ∷ xs) front b = value_last xs (10 * front + (x - 48)) b

pub digits_denote : DigitsDenote
digits_denote = by_digits (λ n. value_after 0 (decimal n) ≡ n) low high
  where
    low : (n : ℕ) → n < 10 → value_after 0 (decimal n) ≡ n
    low n h = ap (value_after 0) (decimal_low n h) ∙ omega arith

    high : (n : ℕ) → 10 ≤ n → value_after 0 (decimal (n / 10)) ≡ n / 10 → value_after 0 (decimal n) ≡ n
    high n h before =
        ap (value_after 0) (decimal_high n h) ∙ value_last (decimal (n / 10)) 0 (digit (n % 10)) ∙ omega (arith, before)

digits_append : (xs : List ℕ) (b : ℕ) → AllDigits xs → 48 ≤ b → b ≤ 57 → AllDigits (xs ++ (b ∷ []))
digits_append [] b k l u = (l, u, tt)
digits_append (x ∷ xs) b k l u = (k.0, k.1, digits_append xs b k.2 l u)

pub only_digits : OnlyDigits
only_digits = by_digits (λ n. AllDigits (decimal n)) low high
  where
    low : (n : ℕ) → n < 10 → AllDigits (decimal n)
    low n h = subst AllDigits (sym (decimal_low n h)) (omega arith, omega arith, tt)

    high : (n : ℕ) → 10 ≤ n → AllDigits (decimal (n / 10)) → AllDigits (decimal n)
    high n h before =
        subst AllDigits (sym (decimal_high n h))
        (digits_append (decimal (n / 10)) (digit (n % 10)) before (omega arith) (omega arith))

-- the first digit of a number is that of n / 10, where there is one
some_digit : (n : ℕ) → 0 < length (decimal n)
some_digit n = by (dec_lt n 10)
  where
    by : Dec (n < 10) → 0 < length (decimal n)
    by (yes l) = omega (arith, ap length (decimal_low n l))
    by (no l) =
        omega (arith, ap length (decimal_high n (omega arith)), length-append (decimal (n / 10)) (digit (n % 10) ∷ []))

pub no_leading_zero : NoLeadingZero
no_leading_zero = by_digits (λ n. 0 < n → 48 < get_or (decimal n) 0 0) low high
  where
    low : (n : ℕ) → n < 10 → 0 < n → 48 < get_or (decimal n) 0 0
    low n h k = subst (λ (l : List ℕ). 48 < get_or l 0 0) (sym (decimal_low n h)) (omega arith)

    high : (n : ℕ) → 10 ≤ n → (0 < n / 10 → 48 < get_or (decimal (n / 10)) 0 0) → 0 < n → 48 < get_or (decimal n) 0 0
    high n h before k =
        let first = ap (λ (l : List ℕ). get_or l 0 0) (decimal_high n h)
        ∙ get_or-append (decimal (n / 10)) (digit (n % 10) ∷ []) 0 0 (some_digit (n / 10)) in
        omega (arith, first, before (omega arith))

pub text_denotes : TextDenotes
unfolding signed_decimal
text_denotes (pos n) = unsigned (decimal n) (only_digits n) (some_digit n) ∙ ap pos (digits_denote n)
  where
    -- digits have no sign among them
    unsigned : (l : List ℕ) → AllDigits l → 0 < length l → signed_value l ≡ pos (value_after 0 l)
    unsigned [] k h = absurd (omega arith)
    unsigned (b ∷ bs) k h = sym (cond_false (eqb b 45) _ _ (ne_eqb b 45 (λ e. omega (arith, e, k.0))) refl)
text_denotes (negsuc n) = ap (λ (m : ℕ). neg_ℤ (pos m)) (digits_denote (suc n))

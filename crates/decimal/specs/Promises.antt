-- The decimal text of numbers: the statements, each with the name of its proof.
use Rattle.std.specs.Prelude.{◌≡◌, refl, cond, List, [], ◌∷◌, ◌++◌, ℕ, ◌+◌, ◌-◌, ◌*◌, ◌/◌, ◌%◌, ◌≤◌, ◌<◌, eqb, ℤ, pos, negsuc, neg_ℤ, get_or}
use Rattle.decimal.specs.Decimal.{digit, decimal, signed_decimal}

-- ---- digits

-- the digits without fuel (`decimal_steps`)
abbrev pub DecimalSteps : Type 0
DecimalSteps =
    (n : ℕ) → (n < 10 → decimal n ≡ digit n ∷ []) × (10 ≤ n → decimal n ≡ decimal (n / 10) ++ (digit (n % 10) ∷ []))

-- each byte is a digit (`only_digits`)
abbrev pub AllDigits : List ℕ → Type 0
AllDigits [] = Unit {0}
AllDigits (b ∷ bs) = (48 ≤ b) × (b ≤ 57) × AllDigits bs

abbrev pub OnlyDigits : Type 0
OnlyDigits = (n : ℕ) → AllDigits (decimal n)

-- no zero leads (`no_leading_zero`)
abbrev pub NoLeadingZero : Type 0
NoLeadingZero = (n : ℕ) → 0 < n → 48 < get_or (decimal n) 0 0

-- the number that digits denote, after those of `front`, and with a sign
abbrev pub value_after : ℕ → List ℕ → ℕ
value_after front [] = front
value_after front (b ∷ bs) = value_after (10 * front + (b - 48)) bs

abbrev pub signed_value : List ℕ → ℤ
signed_value [] = pos 0
signed_value (b ∷ bs) = cond (eqb b 45) (neg_ℤ (pos (value_after 0 bs))) (pos (value_after 0 (b ∷ bs)))

-- the text of a number denotes that number (`digits_denote`, `text_denotes`)
abbrev pub DigitsDenote : Type 0
DigitsDenote = (n : ℕ) → value_after 0 (decimal n) ≡ n

abbrev pub TextDenotes : Type 0
TextDenotes = (z : ℤ) → signed_value (signed_decimal z) ≡ z

-- worked case: what 1 0 2 5 and -47 denote
outcomes : (value_after 0 (49 ∷ 48 ∷ 50 ∷ 53 ∷ []) ≡ 1025) × (signed_value (45 ∷ 52 ∷ 55 ∷ []) ≡ negsuc 46)
outcomes = (refl, refl)

-- Document 01, "Door corner", the listing program: how a number is printed, as a list of bytes in ASCII. '0' is 48, '-'
-- is 45.
use Rattle.std.specs.Prelude.{◌≡◌, refl, List, [], ◌∷◌, ◌++◌, ℕ, zero, suc, ◌+◌, ◌/◌, ◌%◌, ℤ, pos, negsuc}

-- the byte of a digit, 0 to 9
abbrev pub digit : ℕ → ℕ
digit d = 48 + d

-- the digits of a number above 0: those of n / 10, of which there are none where that is 0, and then n % 10. `fuel`
-- bounds how often this is done; n times is always enough, and `decimal_steps` says the same without it.
unfoldable pub digits_of : ℕ → ℕ → List ℕ
digits_of zero n = []
digits_of (suc fuel) zero = []
digits_of (suc fuel) (suc n) = digits_of fuel (suc n / 10) ++ (digit (suc n % 10) ∷ [])

-- 0 has one digit all the same
unfoldable pub decimal : ℕ → List ℕ
decimal zero = digit 0 ∷ []
decimal (suc n) = digits_of (suc n) (suc n)

-- a number below zero has '-' before its digits
unfoldable pub signed_decimal : ℤ → List ℕ
signed_decimal (pos n) = decimal n
signed_decimal (negsuc n) = 45 ∷ decimal (suc n)

-- worked cases: 0, 40, 1,200 and 16,777,216; -47 and 47
of_zero : decimal 0 ≡ 48 ∷ []
unfolding decimal digits_of
of_zero = refl

of_counts : (decimal 40 ≡ 52 ∷ 48 ∷ []) × (decimal 1200 ≡ 49 ∷ 50 ∷ 48 ∷ 48 ∷ [])
    × (decimal 16777216 ≡ 49 ∷ 54 ∷ 55 ∷ 55 ∷ 55 ∷ 50 ∷ 49 ∷ 54 ∷ [])
unfolding decimal digits_of
of_counts = (refl, refl, refl)

below_zero : (signed_decimal (negsuc 46) ≡ 45 ∷ 52 ∷ 55 ∷ []) × (signed_decimal (pos 47) ≡ 52 ∷ 55 ∷ [])
unfolding signed_decimal decimal digits_of
below_zero = (refl, refl)

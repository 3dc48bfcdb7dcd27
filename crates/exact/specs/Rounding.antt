-- Rounding, document 02 d: to the nearest whole number, halves away from zero. It replaces document 01's "halves
-- upwards" ("Surface point") everywhere. Contracts cite `rounded`; proofs use its laws (`proofs/RoundingLaws.antt`).
use Rattle.std.specs.Prelude.{◌≡◌, refl, Bool, true, false, not, ℕ, ◌+◌, ◌*◌, ◌/◌, ℤ, pos, negsuc, neg_ℤ, nat_abs}
use Rattle.std.specs.Int.Signed.{non_neg}

-- a / d rounded down, of a size a
unfoldable pub floor_quotient : ℕ → ℕ → ℤ
floor_quotient a d = pos (a / d)

-- z, or -z where the test says so
abbrev pub negated_if : Bool → ℤ → ℤ
negated_if false z = z
negated_if true z = neg_ℤ z

-- n / d to the nearest whole number, halves away from zero, for d above 0: the size of n / d plus a half, rounded down,
-- with the sign put back. Over 2d, the size of n / d is twice the size of n, and a half is d.
unfoldable pub rounded : ℤ → ℕ → ℤ
rounded n d = negated_if (not (non_neg n)) (floor_quotient (2 * nat_abs n + d) (2 * d))

-- worked cases: 7/2 goes down to 3, and 8/2 is 4
seven_halves : floor_quotient 7 2 ≡ pos 3
unfolding floor_quotient
seven_halves = refl

eight_halves : floor_quotient 8 2 ≡ pos 4
unfolding floor_quotient
eight_halves = refl

-- -47.75 and 47.75; the halves -95/2 and 95/2, -1/2 and 1/2, -3/2 and 3/2; and thirds and quarters at and around zero
quarters : (rounded (negsuc 190) 4 ≡ negsuc 47) × (rounded (pos 191) 4 ≡ pos 48)
unfolding rounded floor_quotient
quarters = (refl, refl)

halves :
    (rounded (negsuc 94) 2 ≡ negsuc 47) × (rounded (pos 95) 2 ≡ pos 48)
    × (rounded (negsuc 0) 2 ≡ negsuc 0) × (rounded (pos 1) 2 ≡ pos 1)
    × (rounded (negsuc 2) 2 ≡ negsuc 1) × (rounded (pos 3) 2 ≡ pos 2)
unfolding rounded floor_quotient
halves = (refl, refl, refl, refl, refl, refl)

around_zero :
    (rounded (negsuc 1) 3 ≡ negsuc 0) × (rounded (negsuc 0) 3 ≡ pos 0) × (rounded (pos 0) 7 ≡ pos 0)
    × (rounded (pos 1) 3 ≡ pos 0) × (rounded (pos 2) 3 ≡ pos 1)
    × (rounded (negsuc 0) 4 ≡ pos 0) × (rounded (pos 1) 4 ≡ pos 0)
unfolding rounded floor_quotient
around_zero = (refl, refl, refl, refl, refl, refl, refl)

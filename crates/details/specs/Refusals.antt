-- Document 01, "Turned away": the rows of details and of cleaning, in the order 1, 10, 12, 2, 3.
use Rattle.std.specs.Prelude.{◌≡◌, refl, Bool, true, false, ◌||◌, List, [], ◌∷◌, ◌++◌, ℕ, ◌-◌, ◌%◌, ltb, eqb, ℤ, pos, negsuc, length, take, replicate}
use Rattle.net.specs.Refusals.{Fault, first_fault, outside, any_outside, bad_size}
use Rattle.details.specs.Details.{detail_numbers}

-- 10: an even side
abbrev pub even_side : ℕ → Bool
even_side n = eqb (n % 2) 0

abbrev pub even_size : ℕ → ℕ → Bool
even_size w h = even_side w || even_side h

-- 2: details that are shorter than those of their vertices
abbrev pub short_details : List ℤ → ℕ → ℕ → Bool
short_details details w h = ltb (length details) (detail_numbers w h)

-- 'Details lie in -33,554,432 to 33,554,432'
abbrev pub detail_limit : ℕ
detail_limit = 33554432

-- 3: one of the first numbers, those of the vertices, beyond the range of details
unfoldable pub details_beyond : List ℤ → ℕ → ℕ → Bool
details_beyond details w h = any_outside detail_limit (take (detail_numbers w h) details)

-- 12: a threshold above the range
abbrev pub too_great : ℕ → Bool
too_great t = ltb detail_limit t

abbrev pub clean_faults : List ℤ → ℕ → ℕ → ℕ → List Fault
clean_faults details w h t =
    (bad_size w h, 1) ∷ (even_size w h, 10) ∷ (too_great t, 12) ∷ (short_details details w h, 2)
    ∷ (details_beyond details w h, 3) ∷ []

abbrev pub clean_refusal : List ℤ → ℕ → ℕ → ℕ → ℕ
clean_refusal details w h t = first_fault (clean_faults details w h t)

-- ---- worked cases

-- 3 by 4 and 4 by 3 have an even side, 3 by 5 has none; the threshold 33,554,432 is accepted, document 01's 33,554,433
-- is not; the ends of the range, and the least number of 32 bits
sizes : (even_size 3 4 ≡ true) × (even_size 4 3 ≡ true) × (even_size 3 5 ≡ false)
sizes = (refl, refl, refl)

thresholds : (too_great 33554432 ≡ false) × (too_great 33554433 ≡ true)
thresholds = (refl, refl)

limits :
    (outside detail_limit (pos 33554432) ≡ false) × (outside detail_limit (pos 33554433) ≡ true)
    × (outside detail_limit (negsuc 33554431) ≡ false) × (outside detail_limit (negsuc 33554432) ≡ true)
    × (outside detail_limit (negsuc 2147483647) ≡ true)
limits = (refl, refl, refl, refl, refl)

-- details of 3 by 3: zeros, and one more number that does not count; with a number too many in size; one too few
abbrev fine : List ℤ
fine = replicate (detail_numbers 3 3) (pos 0) ++ pos 33554433 ∷ []

abbrev large : List ℤ
large = replicate (detail_numbers 3 3 - 1) (pos 0) ++ pos 33554433 ∷ []

abbrev short : List ℤ
short = replicate (detail_numbers 3 3 - 1) (pos 33554433)

-- every fault at once, and then without the one that was found, to none
order :
    (clean_refusal short 1026 4 33554433 ≡ 1)
    × (clean_refusal short 3 4 33554433 ≡ 10)
    × (clean_refusal short 3 3 33554433 ≡ 12)
    × (clean_refusal short 3 3 33554432 ≡ 2)
    × (clean_refusal large 3 3 33554432 ≡ 3)
    × (clean_refusal fine 3 3 33554432 ≡ 0)
unfolding details_beyond
order = (refl, refl, refl, refl, refl, refl)

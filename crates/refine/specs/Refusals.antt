-- Document 01, "Turned away": the rows of refining, in the order 1, 4, 2, 5, 3.
use Rattle.std.specs.Prelude.{◌≡◌, refl, Bool, true, false, ◌||◌, List, [], ◌∷◌, ◌++◌, ℕ, ◌-◌, ltb, ℤ}
use Rattle.net.specs.Net.{numbers}
use Rattle.net.specs.Refusals.{Fault, first_fault, bad_size, short_net, net_beyond, zeros, too_large, too_few}
use Rattle.subdivision.specs.Refinement.{side_after}
use Rattle.steps.specs.RefinedNet.{numbers_after, scratch_need}

-- 4: k above 6, or a refined side above 1,025
abbrev pub too_deep : ℕ → ℕ → ℕ → Bool
too_deep w h k = ltb 6 k || (ltb 1025 (side_after k w) || ltb 1025 (side_after k h))

-- 5: an output of `room` numbers is shorter than the refined net, or a scratch of `scratch_length` numbers is
-- shorter than k steps need
abbrev pub too_short : ℕ → ℕ → ℕ → ℕ → ℕ → Bool
too_short w h k room scratch_length = ltb room (numbers_after k w h) || ltb scratch_length (scratch_need k w h)

-- the rows that look at sizes alone, and those that look at the net; `short` is whether a lent output or scratch is too
-- short, and 3 looks at the whole net
abbrev pub size_faults : ℕ → ℕ → ℕ → List Fault
size_faults w h k = (bad_size w h, 1) ∷ (too_deep w h k, 4) ∷ []

abbrev pub net_faults : List ℤ → ℕ → ℕ → Bool → List Fault
net_faults net w h short = (short_net net w h, 2) ∷ (short, 5) ∷ (net_beyond net w h, 3) ∷ []

abbrev pub refine_refusal : List ℤ → ℕ → ℕ → ℕ → Bool → ℕ
refine_refusal net w h k short = first_fault (size_faults w h k ++ net_faults net w h short)

-- worked cases: document 01's example of 4 and the limit that is accepted; a great k; the lengths that two steps of 2
-- by 2 need; and the order, of a net whose first number is beyond the range
depths : (too_deep 18 2 6 ≡ true) × (too_deep 17 17 6 ≡ false) × (too_deep 2 2 7 ≡ true)
    × (too_deep 2 2 18446744073709551615 ≡ true) × (too_deep 2 514 1 ≡ true)
depths = (refl, refl, refl, refl, refl)

lengths :
    (too_short 2 2 2 (numbers 5 5) (numbers 3 3) ≡ false)
    × (too_short 2 2 2 (numbers 5 5 - 1) (numbers 3 3) ≡ true)
    × (too_short 2 2 2 (numbers 5 5) (numbers 3 3 - 1) ≡ true)
    × (too_short 2 2 1 (numbers 3 3) 0 ≡ false)
lengths = (refl, refl, refl, refl)

order :
    (refine_refusal too_few 1026 2 7 true ≡ 1)
    × (refine_refusal too_few 2 2 7 true ≡ 4)
    × (refine_refusal too_few 2 2 0 true ≡ 2)
    × (refine_refusal (too_large 0) 2 2 0 true ≡ 5)
    × (refine_refusal (too_large 0) 2 2 0 false ≡ 3)
    × (refine_refusal zeros 2 2 0 false ≡ 0)
unfolding net_beyond
order = (refl, refl, refl, refl, refl, refl)

-- Document 01, "Turned away": the rows of splitting, in the order 1, 10, 2, 5, 3, 11.
use Rattle.std.specs.Prelude.{◌≡◌, refl, Bool, true, false, ◌||◌, List, [], ◌∷◌, ◌++◌, ℕ, ◌-◌, ltb, ℤ, pos, negsuc, replicate, set}
use Rattle.exact.specs.Rounding.{rounded, floor_quotient}
use Rattle.exact.specs.Filling.{runs}
use Rattle.net.specs.Net.{numbers, grid, control_point, control_triangle}
use Rattle.net.specs.Refusals.{Fault, first_fault, bad_size, short_net, net_beyond}
use Rattle.steps.specs.RefinedNet.{stored}
use Rattle.details.specs.Details.{detail_numbers}
use Rattle.details.specs.Refusals.{even_size}
use Rattle.coarse.specs.Coarse.{coarse_side, coarsened, coarse_net, coarse_beyond}

-- 5: an output of `room` numbers is shorter than the coarse net, or one of `detail_room` shorter than the details
abbrev pub outputs_short : ℕ → ℕ → ℕ → ℕ → Bool
outputs_short w h room detail_room =
    ltb room (numbers (coarse_side w) (coarse_side h)) || ltb detail_room (detail_numbers w h)

-- 11 is of the coarse net alone. Details need no test: a net value and a refined value both lie within the net range,
-- so their difference lies within twice that range, which is the range of details (`details_within`)

-- the rows that look at sizes alone, and those that look at the net; `short` is whether a lent output is too short
abbrev pub odd_faults : ℕ → ℕ → List Fault
odd_faults w h = (bad_size w h, 1) ∷ (even_size w h, 10) ∷ []

abbrev pub split_faults : List ℤ → ℕ → ℕ → Bool → List Fault
split_faults net w h short =
    (short_net net w h, 2) ∷ (short, 5) ∷ (net_beyond net w h, 3) ∷ (coarse_beyond net w h, 11) ∷ []

abbrev pub split_refusal : List ℤ → ℕ → ℕ → Bool → ℕ
split_refusal net w h short = first_fault (odd_faults w h ++ split_faults net w h short)

-- ---- worked cases

-- 3 by 5 needs 54 numbers for the coarse net and 135 for the details
rooms : (outputs_short 3 5 54 135 ≡ false) × (outputs_short 3 5 53 135 ≡ true) × (outputs_short 3 5 54 134 ≡ true)
rooms = (refl, refl, refl)

-- nets of 3 by 3: of zeros, with a number in range whose coarse value is not, one with a number beyond the range, and
-- one with a number too few
abbrev flat : List ℤ
flat = replicate (numbers 3 3) (pos 0)

abbrev steep : List ℤ
steep = set flat 80 (negsuc 10066329)

abbrev large : List ℤ
large = set steep 0 (pos 16777217)

abbrev short : List ℤ
short = replicate (numbers 3 3 - 1) (pos 16777217)

-- every fault at once, and then without the one that was found, to none; 5/3 of 10,066,330 is just above 16,777,216
order :
    (split_refusal short 1026 4 true ≡ 1)
    × (split_refusal short 3 4 true ≡ 10)
    × (split_refusal short 3 3 true ≡ 2)
    × (split_refusal large 3 3 true ≡ 5)
    × (split_refusal large 3 3 false ≡ 3)
    × (split_refusal steep 3 3 false ≡ 11)
    × (split_refusal (set flat 80 (negsuc 10066328)) 3 3 false ≡ 0)
unfolding net_beyond coarse_net coarsened stored grid runs rounded floor_quotient control_triangle control_point
order = (refl, refl, refl, refl, refl, refl, refl)

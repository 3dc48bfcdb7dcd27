-- The rows of the two points of a seam, in document 01's order: 1, 4, 6, 2, 5, 3.
use Rattle.std.specs.Prelude.{◌≡◌, refl, Bool, true, false, not, ◌||◌, List, [], ◌∷◌, ◌++◌, ℕ, ◌*◌, ◌^◌, eqb, ℤ}
use Rattle.net.specs.Refusals.{Fault, first_fault, bad_size, net_beyond, zeros, too_large, too_few}
use Rattle.refine.specs.Refusals.{too_deep, net_faults}
use Rattle.refined_points.specs.Refusals.{off_grid}

-- place (p, q) after k steps and place (p2, q2) after l steps are not the same place of the starting net
abbrev pub other_place : ℕ → ℕ → ℕ → ℕ → ℕ → ℕ → Bool
other_place k l p q p2 q2 = not (eqb (p * 2 ^ l) (p2 * 2 ^ k)) || not (eqb (q * 2 ^ l) (q2 * 2 ^ k))

-- 1, and 4 by either depth
abbrev pub depth_faults : ℕ → ℕ → ℕ → ℕ → List Fault
depth_faults w h k l = (bad_size w h, 1) ∷ (too_deep w h k || too_deep w h l, 4) ∷ []

-- 6: either place is off its grid, or they are not the same place
abbrev pub no_seam_place : ℕ → ℕ → ℕ → ℕ → ℕ → ℕ → ℕ → ℕ → Bool
no_seam_place w h k l p q p2 q2 = off_grid w h k p q || (off_grid w h l p2 q2 || other_place k l p q p2 q2)

-- the rows that look at sizes and places alone, and all of them, where `short` is whether something lent is too short
abbrev pub places_faults : ℕ → ℕ → ℕ → ℕ → ℕ → ℕ → ℕ → ℕ → List Fault
places_faults w h k l p q p2 q2 = depth_faults w h k l ++ (no_seam_place w h k l p q p2 q2, 6) ∷ []

abbrev pub seam_refusal : List ℤ → ℕ → ℕ → ℕ → ℕ → ℕ → ℕ → ℕ → ℕ → Bool → ℕ
seam_refusal net w h k l p q p2 q2 short =
    first_fault (places_faults w h k l p q p2 q2 ++ net_faults net w h short)

-- worked cases: place (6, 10) after one step and (24, 40) after three, and the numbers of one of them changed or the
-- depths exchanged
places :
    (other_place 1 3 6 10 24 40 ≡ false)
    × (other_place 1 3 6 10 25 40 ≡ true)
    × (other_place 1 3 6 10 24 41 ≡ true)
    × (other_place 3 1 6 10 24 40 ≡ true)
    × (other_place 3 1 24 40 6 10 ≡ false)
places = (refl, refl, refl, refl, refl)

-- every fault at once, and then without the one that was found, to none: 4 by k and by l, and a side of 513 that takes
-- one step and not two; 6 by both places, in columns and in rows, by the second alone, and by two places of their
-- grids that are not the same
order :
    (seam_refusal too_few 1026 2 7 7 134217729 0 0 0 true ≡ 1)
    × (seam_refusal too_few 2 2 7 1 134217729 0 0 0 true ≡ 4)
    × (seam_refusal too_few 2 2 1 7 134217729 0 0 0 true ≡ 4)
    × (seam_refusal too_few 2 513 1 2 134217729 0 0 0 true ≡ 4)
    × (seam_refusal too_few 2 2 1 2 2049 0 4098 0 true ≡ 6)
    × (seam_refusal too_few 2 2 1 2 0 2049 0 4098 true ≡ 6)
    × (seam_refusal too_few 2 2 2 1 4096 0 2049 0 true ≡ 6)
    × (seam_refusal too_few 2 2 1 2 1024 0 2049 0 true ≡ 6)
    × (seam_refusal too_few 2 2 1 2 2048 0 4096 0 true ≡ 2)
    × (seam_refusal (too_large 0) 2 2 1 2 2048 0 4096 0 true ≡ 5)
    × (seam_refusal (too_large 0) 2 2 1 2 2048 0 4096 0 false ≡ 3)
    × (seam_refusal zeros 2 2 1 2 2048 0 4096 0 false ≡ 0)
unfolding net_beyond
order = (refl, refl, refl, refl, refl, refl, refl, refl, refl, refl, refl, refl)

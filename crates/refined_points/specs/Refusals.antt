-- Document 01, "Turned away": the rows of the refined point, in the order 1, 4, 6, 2, 5, 3.
use Rattle.std.specs.Prelude.{◌≡◌, refl, Bool, true, false, List, ◌∷◌, ◌++◌, ℕ, ℤ}
use Rattle.net.specs.Refusals.{first_fault, net_beyond, zeros, too_large, too_few}
use Rattle.places.specs.Refusals.{no_place}
use Rattle.subdivision.specs.Refinement.{side_after}
use Rattle.refine.specs.Refusals.{size_faults, net_faults}

-- a place off the refined grid is 6
abbrev pub off_grid : ℕ → ℕ → ℕ → ℕ → ℕ → Bool
off_grid w h k p q = no_place 1024 (side_after k w) (side_after k h) p q

abbrev pub refined_point_refusal : List ℤ → ℕ → ℕ → ℕ → ℕ → ℕ → Bool → ℕ
refined_point_refusal net w h k p q short =
    first_fault (size_faults w h k ++ (off_grid w h k p q, 6) ∷ net_faults net w h short)

-- worked cases: every fault at once, and then without the one that was found, to none; the last place of the 3 by 5
-- that one step makes of 2 by 3, and a place past it on either side
point_order :
    (refined_point_refusal too_few 1026 2 7 134217729 0 true ≡ 1)
    × (refined_point_refusal too_few 2 2 7 134217729 0 true ≡ 4)
    × (refined_point_refusal too_few 2 2 1 2049 0 true ≡ 6)
    × (refined_point_refusal too_few 2 2 1 2048 0 true ≡ 2)
    × (refined_point_refusal (too_large 0) 2 2 1 2048 0 true ≡ 5)
    × (refined_point_refusal (too_large 0) 2 2 1 2048 0 false ≡ 3)
    × (refined_point_refusal zeros 2 2 1 2048 0 false ≡ 0)
unfolding net_beyond
point_order = (refl, refl, refl, refl, refl, refl, refl)

last_place : (off_grid 2 3 1 2048 4096 ≡ false) × (off_grid 2 3 1 2049 4096 ≡ true) × (off_grid 2 3 1 2048 4097 ≡ true)
last_place = (refl, refl, refl)

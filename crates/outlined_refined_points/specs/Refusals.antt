-- Document 02, a: the rows of refining with an outline and then a point, in the order 1, 4, 6, 2, 13, 15, 5, 14, 3.
use Rattle.std.specs.Prelude.{◌≡◌, refl, Bool, true, false, not, List, [], ◌∷◌, ◌++◌, ℕ, ℤ}
use Rattle.exact.specs.Filling.{runs}
use Rattle.net.specs.Net.{numbers, squares}
use Rattle.net.specs.Refusals.{Fault, first_fault, net_beyond, zeros, too_large, too_few}
use Rattle.graphs.specs.Reaching.{reached, all_reached}
use Rattle.outline.specs.Connected.{connected, column_of_two}
use Rattle.outline.specs.Refusals.{bad_byte, outlined_faults}
use Rattle.door.specs.Door.{on_door}
use Rattle.bounds.specs.DemandThree.{fine_edge}
use Rattle.refine.specs.Refusals.{size_faults}
use Rattle.refined_points.specs.Refusals.{off_grid}
use Rattle.outlined_refine.specs.Refusals.{late_faults}

-- 15: place (p, q) of the refined grid is off the door, at edge count 1024·2^k of the starting outline
abbrev pub off_door : ℕ → List ℕ → ℕ → ℕ → ℕ → ℕ → Bool
off_door k outline w h p q = not (on_door (fine_edge k) outline w h p q)

-- the rows before 14, where `short` is whether something lent is too short, and all
abbrev pub point_faults_before : List ℤ → ℕ → ℕ → ℕ → List ℕ → ℕ → ℕ → Bool → List Fault
point_faults_before net w h k outline p q short =
    size_faults w h k
    ++ ((off_grid w h k p q, 6)
    ∷ (outlined_faults net w h outline ++ (off_door k outline w h p q, 15) ∷ (short, 5) ∷ []))

abbrev pub outlined_refined_refusal : List ℤ → ℕ → ℕ → ℕ → List ℕ → ℕ → ℕ → Bool → ℕ
outlined_refined_refusal net w h k outline p q short =
    first_fault (point_faults_before net w h k outline p q short ++ late_faults net w h outline)

-- worked cases: every fault at once, and then without the one that was found, to none
order :
    (outlined_refined_refusal too_few 1026 2 7 [] 134217729 0 true ≡ 1)
    × (outlined_refined_refusal too_few 2 2 7 [] 134217729 0 true ≡ 4)
    × (outlined_refined_refusal too_few 2 2 1 (2 ∷ 0 ∷ []) 2049 0 true ≡ 6)
    × (outlined_refined_refusal too_few 2 2 1 (2 ∷ 0 ∷ []) 2048 0 true ≡ 2)
    × (outlined_refined_refusal (too_large 0) 2 2 1 (2 ∷ 0 ∷ []) 2048 0 true ≡ 13)
    × (outlined_refined_refusal (too_large 0) 2 2 1 (0 ∷ 0 ∷ []) 2048 0 true ≡ 15)
    × (outlined_refined_refusal (too_large 0) 2 2 1 (0 ∷ 1 ∷ []) 2048 0 true ≡ 5)
    × (outlined_refined_refusal (too_large 0) 2 2 1 (0 ∷ 1 ∷ []) 2048 0 false ≡ 3)
    × (outlined_refined_refusal zeros 2 2 1 (0 ∷ 1 ∷ []) 2048 0 false ≡ 0)
unfolding net_beyond bad_byte on_door connected reached all_reached runs
order = (refl, refl, refl, refl, refl, refl, refl, refl, refl)

-- of the net of 3 by 2 whose numbers are the squares, after one step: the two ends of the strip at a place of the last
-- cell and at one between them; a place of the up triangle of cell (1, 0), and the same with p and q exchanged; the
-- sides exchanged; bytes 3 and 8 of 4 by 3, at a place of the first
abbrev at : List ℕ → ℕ → ℕ → ℕ
at outline p q = outlined_refined_refusal (squares (numbers 3 2)) 3 2 1 outline p q false

on_the_strip :
    (at (1 ∷ 0 ∷ 0 ∷ 1 ∷ []) 4000 2000 ≡ 14)
    × (at (1 ∷ 0 ∷ 0 ∷ 1 ∷ []) 2200 500 ≡ 15)
    × (at (0 ∷ 0 ∷ 1 ∷ 0 ∷ []) 2200 500 ≡ 0)
    × (at (0 ∷ 0 ∷ 1 ∷ 0 ∷ []) 500 2000 ≡ 15)
    × (at (0 ∷ 0 ∷ 1 ∷ 0 ∷ []) 500 2200 ≡ 6)
    × (outlined_refined_refusal (squares (numbers 3 2)) 2 3 1 (0 ∷ 0 ∷ 1 ∷ 0 ∷ []) 500 2200 false ≡ 0)
    × (outlined_refined_refusal (squares (numbers 4 3)) 4 3 1 column_of_two 3000 1500 false ≡ 0)
unfolding net_beyond bad_byte on_door connected reached all_reached runs
on_the_strip = (refl, refl, refl, refl, refl, refl, refl)

-- Document 02, a: the rows of refining with an outline, in the order 1, 4, 2, 13, 5, 14, 3.
use Rattle.std.specs.Prelude.{◌≡◌, refl, Bool, true, false, ◌||◌, List, [], ◌∷◌, ◌++◌, ℕ, ◌+◌, ltb, ℤ, pos, replicate, set}
use Rattle.exact.specs.Filling.{runs}
use Rattle.net.specs.Net.{numbers}
use Rattle.net.specs.Refusals.{Fault, first_fault, net_beyond, zeros, too_large, too_few}
use Rattle.graphs.specs.Reaching.{reached, all_reached}
use Rattle.outline.specs.Outline.{triangles}
use Rattle.outline.specs.Connected.{connected, column_of_two}
use Rattle.outline.specs.Refusals.{bad_byte, outlined_faults, disconnected, short_search}
use Rattle.subdivision.specs.Refinement.{side_after}
use Rattle.refine.specs.Refusals.{too_short, size_faults}

-- 5: the output or the scratch net is too short, as in plain refining; the fine outline is shorter than the refined
-- net's triangles; or the search is shorter than the starting net's
abbrev pub outlined_short : ℕ → ℕ → ℕ → ℕ → ℕ → ℕ → ℕ → Bool
outlined_short w h k room scratch_length fine_length search_length =
    too_short w h k room scratch_length
    || (ltb fine_length (triangles (side_after k w) (side_after k h)) || short_search w h search_length)

-- the rows before 14, where `short` is whether something lent is too short, and those from 14 on; 3 looks at the whole
-- net, 'numbers at every vertex are still tested as before'
abbrev pub faults_before : List ℤ → ℕ → ℕ → ℕ → List ℕ → Bool → List Fault
faults_before net w h k outline short = size_faults w h k ++ (outlined_faults net w h outline ++ (short, 5) ∷ [])

abbrev pub late_faults : List ℤ → ℕ → ℕ → List ℕ → List Fault
late_faults net w h outline = (disconnected outline w h, 14) ∷ (net_beyond net w h, 3) ∷ []

abbrev pub outlined_refusal : List ℤ → ℕ → ℕ → ℕ → List ℕ → Bool → ℕ
outlined_refusal net w h k outline short =
    first_fault (faults_before net w h k outline short ++ late_faults net w h outline)

-- worked cases: the lengths that two steps of 3 by 2, which make 9 by 5, need, not exchanged; the order, every fault at
-- once and then without the one that was found, to none; of 4 by 3, bytes 3 and 8, with a number beyond the range past
-- the last vertex, the sides exchanged, and with the net's last number beyond it
lengths :
    (outlined_short 3 2 2 (numbers 9 5) (numbers 5 3) 64 4 ≡ false)
    × (outlined_short 3 2 2 (numbers 9 5) (numbers 5 3) 63 4 ≡ true)
    × (outlined_short 3 2 2 (numbers 9 5) (numbers 5 3) 64 3 ≡ true)
    × (outlined_short 3 2 2 404 (numbers 5 3) 64 4 ≡ true)
    × (outlined_short 3 2 2 (numbers 9 5) 134 64 4 ≡ true)
lengths = (refl, refl, refl, refl, refl)

order :
    (outlined_refusal too_few 1026 2 7 [] true ≡ 1)
    × (outlined_refusal too_few 2 2 7 [] true ≡ 4)
    × (outlined_refusal too_few 2 2 1 (2 ∷ 0 ∷ []) true ≡ 2)
    × (outlined_refusal (too_large 0) 2 2 1 (2 ∷ []) true ≡ 2)
    × (outlined_refusal (too_large 0) 2 2 1 (2 ∷ 0 ∷ []) true ≡ 13)
    × (outlined_refusal (too_large 0) 2 2 1 (0 ∷ 0 ∷ []) true ≡ 5)
    × (outlined_refusal (too_large 0) 2 2 1 (0 ∷ 0 ∷ []) false ≡ 14)
    × (outlined_refusal (too_large 0) 2 2 1 (0 ∷ 1 ∷ []) false ≡ 3)
    × (outlined_refusal zeros 2 2 1 (0 ∷ 1 ∷ []) false ≡ 0)
unfolding net_beyond bad_byte connected reached all_reached runs
order = (refl, refl, refl, refl, refl, refl, refl, refl, refl)

abbrev beyond_at : ℕ → List ℤ
beyond_at n = set (replicate (numbers 4 3 + 1) (pos 0)) n (pos 16777217)

of_4_by_3 :
    (outlined_refusal (beyond_at 108) 4 3 1 column_of_two false ≡ 0)
    × (outlined_refusal (beyond_at 108) 3 4 1 column_of_two false ≡ 14)
    × (outlined_refusal (beyond_at 107) 4 3 1 column_of_two false ≡ 3)
unfolding net_beyond bad_byte connected reached all_reached runs
of_4_by_3 = (refl, refl, refl)

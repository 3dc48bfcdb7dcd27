-- Document 02, a: the rows of an outline, and those of the call that checks one, in the order 1, 2, 13, 5, 14.
use Rattle.std.specs.Prelude.{◌≡◌, refl, Bool, false, ◌||◌, not, cond, List, [], ◌∷◌, ◌++◌, ℕ, ltb, ℤ, length, take}
use Rattle.exact.specs.Filling.{runs}
use Rattle.net.specs.Net.{numbers, squares}
use Rattle.net.specs.Refusals.{Fault, first_fault, accepted, bad_size, short_net}
use Rattle.graphs.specs.Reaching.{reached, all_reached}
use Rattle.outline.specs.Outline.{triangles}
use Rattle.outline.specs.Connected.{connected, column_of_two}

-- 2: 'a short outline is refused by 2'
abbrev pub short_outline : List ℕ → ℕ → ℕ → Bool
short_outline outline w h = ltb (length outline) (triangles w h)

-- 13: 'a byte other than 0 or 1 anywhere in the outline'; 'bytes past the last triangle are not read'
abbrev pub any_above_one : List ℕ → Bool
any_above_one [] = false
any_above_one (b ∷ bytes) = ltb 1 b || any_above_one bytes

unfoldable pub bad_byte : List ℕ → ℕ → ℕ → Bool
bad_byte outline w h = any_above_one (take (triangles w h) outline)

-- the two rows of an outline alone
abbrev pub outline_faults : List ℕ → ℕ → ℕ → List Fault
outline_faults outline w h = (short_outline outline w h, 2) ∷ (bad_byte outline w h, 13) ∷ []

-- of a net with its outline: 2 where either is too short, and 13
abbrev pub outlined_faults : List ℤ → ℕ → ℕ → List ℕ → List Fault
outlined_faults net w h outline =
    (short_net net w h || short_outline outline w h, 2) ∷ (bad_byte outline w h, 13) ∷ []

-- 14: 'no triangle present or not hanging together'
abbrev pub disconnected : List ℕ → ℕ → ℕ → Bool
disconnected outline w h = not (connected outline w h)

-- 5: 'a scratch of one 32-bit number a triangle', of so many numbers
abbrev pub short_search : ℕ → ℕ → ℕ → Bool
short_search w h room = ltb room (triangles w h)

-- the rows of checking an outline before 14, and all of them
abbrev pub check_faults : List ℕ → ℕ → ℕ → ℕ → List Fault
check_faults outline w h room =
    (bad_size w h, 1) ∷ (short_outline outline w h, 2) ∷ (bad_byte outline w h, 13) ∷ (short_search w h room, 5) ∷ []

abbrev pub check_refusal : List ℕ → ℕ → ℕ → ℕ → ℕ
check_refusal outline w h room =
    first_fault (check_faults outline w h room ++ (disconnected outline w h, 14) ∷ [])

-- 'free afterwards, even after 14 or a later refusal': so many numbers of the search are free, one a triangle where no
-- fault before 14 is there, and none else
abbrev pub free_search : List Fault → ℕ → ℕ → ℕ
free_search before w h = cond (accepted (first_fault before)) (triangles w h) 0

-- worked cases: every fault at once, and then without the one that was found, to none; bytes past the last triangle;
-- bytes 3 and 8 of 4 by 3, and the sides exchanged; an outline and a net that are too short, and a byte of 2; the
-- search that is free after 14, when accepted, and after 5
order :
    (check_refusal [] 1026 2 3 ≡ 1)
    × (check_refusal (1 ∷ 0 ∷ 2 ∷ []) 3 2 3 ≡ 2)
    × (check_refusal (1 ∷ 0 ∷ 0 ∷ 2 ∷ []) 3 2 3 ≡ 13)
    × (check_refusal (1 ∷ 0 ∷ 0 ∷ 1 ∷ []) 3 2 3 ≡ 5)
    × (check_refusal (1 ∷ 0 ∷ 0 ∷ 1 ∷ []) 3 2 4 ≡ 14)
    × (check_refusal (1 ∷ 1 ∷ 1 ∷ 1 ∷ 2 ∷ []) 3 2 4 ≡ 0)
    × (check_refusal column_of_two 4 3 12 ≡ 0)
    × (check_refusal column_of_two 3 4 12 ≡ 14)
unfolding bad_byte connected reached all_reached runs
order = (refl, refl, refl, refl, refl, refl, refl, refl)

without_a_net :
    (first_fault (outline_faults (0 ∷ 1 ∷ 2 ∷ []) 3 2) ≡ 2)
    × (first_fault (outline_faults (0 ∷ 1 ∷ 1 ∷ 2 ∷ []) 3 2) ≡ 13)
    × (first_fault (outline_faults (0 ∷ 1 ∷ 1 ∷ 1 ∷ 2 ∷ []) 3 2) ≡ 0)
unfolding bad_byte
without_a_net = (refl, refl, refl)

with_a_net :
    (first_fault (outlined_faults (squares (numbers 3 2)) 3 2 (0 ∷ 1 ∷ 1 ∷ 1 ∷ 2 ∷ [])) ≡ 0)
    × (first_fault (outlined_faults (squares (numbers 3 2)) 3 2 (0 ∷ 1 ∷ 1 ∷ [])) ≡ 2)
    × (first_fault (outlined_faults (squares 53) 3 2 (0 ∷ 1 ∷ 1 ∷ 2 ∷ [])) ≡ 2)
    × (first_fault (outlined_faults (squares (numbers 3 2)) 3 2 (0 ∷ 1 ∷ 1 ∷ 2 ∷ [])) ≡ 13)
unfolding bad_byte
with_a_net = (refl, refl, refl, refl)

free :
    (free_search (check_faults (1 ∷ 0 ∷ 0 ∷ 1 ∷ []) 3 2 4) 3 2 ≡ 4)
    × (free_search (check_faults (1 ∷ 1 ∷ 1 ∷ 1 ∷ []) 3 2 9) 3 2 ≡ 4)
    × (free_search (check_faults (1 ∷ 1 ∷ 1 ∷ 1 ∷ []) 3 2 3) 3 2 ≡ 0)
unfolding bad_byte
free = (refl, refl, refl)

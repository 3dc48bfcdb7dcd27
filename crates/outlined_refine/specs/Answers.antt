-- What refining with an outline answers and leaves in lent memory.
use Rattle.std.specs.Prelude.{◌≡◌, refl, Bool, true, false, List, [], ◌∷◌, ℕ, ℤ, pos, length, replicate}
use Rattle.exact.specs.Filling.{over, runs, UnchangedFrom}
use Rattle.net.specs.Net.{numbers, squares}
use Rattle.net.specs.Refusals.{Fault, first_fault, net_beyond, output_after, answer_by}
use Rattle.graphs.specs.Reaching.{reached, all_reached}
use Rattle.outline.specs.Connected.{connected, column_of_two}
use Rattle.outline.specs.Refusals.{bad_byte, free_search}
use Rattle.steps.specs.RefinedNet.{refined_net}
use Rattle.refine.specs.Answers.{free_scratch}
use Rattle.fine_outline.specs.FineOutline.{fine_outline}
use Rattle.outlined_refine.specs.Refusals.{outlined_short, faults_before, outlined_refusal}

-- what is too short of the lent output, scratch net, fine outline and search
abbrev pub short_of : ℕ → ℕ → ℕ → List ℤ → List ℤ → List ℕ → List ℕ → Bool
short_of w h k out scratch fine search =
    outlined_short w h k (length out) (length scratch) (length fine) (length search)

-- the faults before 14, the first of all faults, and the answer
abbrev pub faults_of : List ℤ → ℕ → ℕ → ℕ → List ℕ → List ℤ → List ℤ → List ℕ → List ℕ → List Fault
faults_of net w h k outline out scratch fine search =
    faults_before net w h k outline (short_of w h k out scratch fine search)

abbrev pub outlined_refusal_of : List ℤ → ℕ → ℕ → ℕ → List ℕ → List ℤ → List ℤ → List ℕ → List ℕ → ℕ
outlined_refusal_of net w h k outline out scratch fine search =
    outlined_refusal net w h k outline (short_of w h k out scratch fine search)

abbrev pub outlined_answer : List ℤ → ℕ → ℕ → ℕ → List ℕ → List ℤ → List ℤ → List ℕ → List ℕ → ℕ × Bool
outlined_answer net w h k outline out scratch fine search =
    answer_by (outlined_refusal_of net w h k outline out scratch fine search)

-- what stands in the four slices after a call that refines with an outline, by the number that it answers and its
-- faults before 14: 'refining writes the fine outline too', and the search is free 'even after 14 or a later refusal'
pub record OutlinedLeft (refusal : ℕ) (before : List Fault) (net : List ℤ) (w h k : ℕ) (outline : List ℕ) (out scratch : List ℤ) (fine search : List ℕ) (out_after scratch_after : List ℤ) (fine_after search_after : List ℕ) : Type 0 where
  pub output : out_after ≡ output_after refusal (refined_net net w h k) out
  pub scratch_free : UnchangedFrom (free_scratch refusal k w h) scratch scratch_after
  pub fine_output : fine_after ≡ output_after refusal (fine_outline outline w h k) fine
  pub search_free : UnchangedFrom (free_search before w h) search search_after

-- worked cases: of the net of 4 by 3 whose numbers are the squares, with the lengths that one step needs and one more
-- of each, and an output beyond the range: bytes 3 and 8 share an edge, and the sides exchanged; bytes 0 and 3 do not;
-- a search that is too short; two steps; too many; and, of bytes 0 and 3, the first fault before 14 of these and of a
-- short net
abbrev answer_of : ℕ → ℕ → ℕ → List ℕ → ℕ → ℕ × Bool
answer_of w h k outline room =
    outlined_answer (squares 108) w h k outline (replicate 316 (pos 16777217)) [] (replicate 49 7) (replicate room 9)

abbrev two_apart : List ℕ
two_apart = 1 ∷ 0 ∷ 0 ∷ 1 ∷ replicate 8 0

answers :
    (answer_of 4 3 1 column_of_two 13 ≡ (0, true))
    × (answer_of 3 4 1 column_of_two 13 ≡ (14, false))
    × (answer_of 4 3 1 two_apart 13 ≡ (14, false))
    × (answer_of 4 3 1 column_of_two 11 ≡ (5, false))
    × (answer_of 4 3 2 column_of_two 13 ≡ (5, false))
    × (answer_of 4 3 7 column_of_two 13 ≡ (4, false))
unfolding net_beyond bad_byte connected reached all_reached runs
answers = (refl, refl, refl, refl, refl, refl)

abbrev fault_of : List ℤ → ℕ → ℕ → ℕ
fault_of net k room =
    first_fault (faults_of net 4 3 k two_apart (replicate 316 (pos 7)) [] (replicate 49 7) (replicate room 9))

faults :
    (fault_of (squares 108) 1 13 ≡ 0)
    × (fault_of (squares 107) 1 13 ≡ 2)
    × (fault_of (squares 108) 1 11 ≡ 5)
    × (fault_of (squares 108) 2 13 ≡ 5)
    × (fault_of (squares 108) 7 13 ≡ 4)
unfolding bad_byte
faults = (refl, refl, refl, refl, refl)

-- what is left of 3 by 2 after two steps, accepted; after 14, where the search alone is free; and after 5
module _ (net out scratch out' scratch' : List ℤ) (outline fine search fine' search' : List ℕ) where
  abbrev Left : ℕ → List Fault → Type 0
  Left refusal before =
      OutlinedLeft refusal before net 3 2 2 outline out scratch fine search out' scratch' fine' search'

  left_accepted : Left 0 [] →
      (out' ≡ over (refined_net net 3 2 2) out) × UnchangedFrom (numbers 5 3) scratch scratch'
      × (fine' ≡ over (fine_outline outline 3 2 2) fine)
      × UnchangedFrom 4 search search'
  left_accepted l = (l.output, l.scratch_free, l.fine_output, l.search_free)

  left_refused :
      (Left 14 [] → (out' ≡ out) × UnchangedFrom 0 scratch scratch' × (fine' ≡ fine) × UnchangedFrom 4 search search')
      × (Left 5 ((true, 5) ∷ []) → UnchangedFrom 0 search search')
  left_refused = ((λ l. (l.output, l.scratch_free, l.fine_output, l.search_free)), (λ l. l.search_free))

-- Document 01, "Door corner", the listing program: from the bytes of its input to what it prints.
use Rattle.std.specs.Prelude.{◌≡◌, refl, cond, List, [], ◌∷◌, ◌++◌, ℕ, ◌≤◌, ℤ, pos, nat_abs, length, get_or, take, replicate, Result, Ok, Err}
use Rattle.std.proofs.Common.{ap, arith}
use Rattle.exact.specs.Filling.{runs}
use Rattle.net.specs.Net.{numbers, squares}
use Rattle.net.specs.Refusals.{first_fault, accepted, output_after, net_beyond, AcceptedNet}
use Rattle.net.specs.Results.{refusal_number}
use Rattle.net.specs.declared.refusals.Refusal.{Refusal}
use Rattle.net.specs.declared.refusals.Refusal.TheVariants as refusal
use Rattle.subdivision.specs.Refinement.{refined_side}
use Rattle.steps.specs.RefinedNet.{refined_net}
use Rattle.refine.specs.Refusals.{too_short, size_faults, net_faults}
use Rattle.words.specs.NetFile.{word_bytes, first_word, point_bytes, net_file, file_width, file_height, first_point, file_numbers}
use Rattle.words.specs.Answers.{answer}
use Rattle.reader.specs.Refusals.{read_faults, short_for}
use Rattle.decimal.specs.Decimal.{digits_of, decimal}
use Rattle.listing_text.specs.Listing.{listing, refusal_line}

-- 'It takes at most the first 65,536 bytes', and 'its net and output buffers hold 16,384 numbers each'
abbrev pub input_size : ℕ
input_size = 65536

abbrev pub buffer_size : ℕ
buffer_size = 16384

-- document 01's number of an answer, 0 where nothing is refused, and its values: the refined width and height
abbrev pub list_outcome : Result (ℕ × ℕ) Refusal → ℕ × List ℕ
list_outcome (Ok (w, h)) = (0, w ∷ h ∷ [])
list_outcome (Err r) = (refusal_number r, [])

-- 'reads a net file .., refines once': the first fault of reading into a buffer of `net_room` numbers, and then of
-- refining into one of `out_room`; one step needs no scratch
abbrev pub list_refusal : List ℕ → ℕ → ℕ → ℕ
list_refusal file net_room out_room =
    (let w = file_width file in
    let h = file_height file in
    first_fault (read_faults file (short_for file net_room)
    ++ (size_faults w h 1 ++ net_faults (file_numbers file) w h (too_short w h 1 out_room 0))))

-- the file's net, refined once
abbrev pub refined_file : List ℕ → List ℤ
refined_file file = refined_net (file_numbers file) (file_width file) (file_height file) 1

-- 4 and 5 of one step into `out_room` numbers, which are all that refining can refuse of a net that was read
abbrev pub step_refusal : ℕ → ℕ → ℕ → ℕ
step_refusal w h out_room = first_fault (size_faults w h 1 ++ (too_short w h 1 out_room 0, 5) ∷ [])

abbrev pub list_answer : List ℕ → ℕ → ℕ → ℕ × List ℕ
list_answer file net_room out_room =
    answer (list_refusal file net_room out_room) (refined_side (file_width file) ∷ refined_side (file_height file) ∷ [])

-- an answer with a size comes with an accepted net of that size
abbrev pub ReadyToList : Result (ℕ × ℕ) Refusal → List ℤ → Type 0
ReadyToList (Ok (w, h)) net = AcceptedNet net w h
ReadyToList (Err r) net = Unit {0}

-- what refining a file answers and leaves: of the file, the buffers for its net and for the refined net before the
-- call; and of the answer and the two buffers after it. A refusal changes neither.
pub record RefineFileContract (file : List ℕ) (net refined : List ℤ) (r : Result (ℕ × ℕ) Refusal) (net_after refined_after : List ℤ) : Type 0 where
  pub answered : list_outcome r ≡ list_answer file (length net) (length refined)
  pub net_read : net_after ≡ output_after (list_refusal file (length net) (length refined)) (file_numbers file) net
  pub net_refined : refined_after
      ≡ output_after (list_refusal file (length net) (length refined)) (refined_file file) refined
  pub ready : ReadyToList r refined_after

-- the buffers that the program lends: the input's, of which `count` bytes were read, and those of the two nets
pub record Buffers (input : List ℕ) (count : ℕ) (net refined : List ℤ) : Type 0 where
  pub input_length : length input ≡ input_size
  pub input_read : count ≤ input_size
  pub net_length : length net ≡ buffer_size
  pub refined_length : length refined ≡ buffer_size

-- the text of a file, and what is printed for an input
abbrev pub file_text : List ℕ → List ℕ
file_text file =
    cond (accepted (list_refusal file buffer_size buffer_size))
    (listing (refined_file file) (refined_side (file_width file)) (refined_side (file_height file)))
    (refusal_line (list_refusal file buffer_size buffer_size))

abbrev pub printed : List ℕ → List ℕ
printed input = file_text (take input_size input)

-- worked cases: document 01's sizes; outcomes of answers; an empty input prints "refused 7". Of the file of the net of
-- 2 by 3 whose numbers are the squares: room for its net and for the 3 by 5, a number too few for either, and a fault
-- of reading before one of refining. `door_input` in `door_corner` has the door corner's file.
buffers : (input_size ≡ 65536) × (buffer_size ≡ 16384)
buffers = (refl, refl)

outcomes : (list_outcome (Ok (3, 5)) ≡ (0, 3 ∷ 5 ∷ [])) × (list_outcome (Err refusal.Depth) ≡ (4, []))
outcomes = (refl, refl)

empty_input : printed [] ≡ 114 ∷ 101 ∷ 102 ∷ 117 ∷ 115 ∷ 101 ∷ 100 ∷ 32 ∷ 55 ∷ 10 ∷ []
unfolding refusal_line decimal digits_of
empty_input = refl

abbrev file23 : List ℕ
file23 = net_file (squares 54) 2 3

answers :
    (list_answer file23 54 135 ≡ (0, 3 ∷ 5 ∷ []))
    × (list_answer file23 53 135 ≡ (5, []))
    × (list_answer file23 54 134 ≡ (5, []))
    × (list_answer (file23 ++ 0 ∷ []) 54 134 ≡ (9, []))
unfolding net_beyond net_file word_bytes point_bytes first_word first_point runs
answers = (refl, refl, refl, refl)

-- 4 before 5: 2 by 514 would be 1,027 high
steps : (step_refusal 2 514 0 ≡ 4) × (step_refusal 2 3 134 ≡ 5) × (step_refusal 2 3 135 ≡ 0)
steps = (refl, refl, refl)

ready_to_list : ReadyToList (Ok (2, 2)) (replicate (numbers 2 2) (pos 16777216))
unfolding net_beyond
ready_to_list = record { size = refl; long = refl; in_range = refl }

-- what the contract and the buffers rule out: of an empty file, another number than 7 and a change of either buffer;
-- and any other length or count
refused_otherwise :
    (RefineFileContract [] (pos 1 ∷ []) (pos 2 ∷ []) (Err refusal.WrongWord) (pos 1 ∷ []) (pos 2 ∷ []) → ⊥)
    × (RefineFileContract [] (pos 1 ∷ []) (pos 2 ∷ []) (Err refusal.MissingWord) (pos 9 ∷ []) (pos 2 ∷ []) → ⊥)
    × (RefineFileContract [] (pos 1 ∷ []) (pos 2 ∷ []) (Err refusal.MissingWord) (pos 1 ∷ []) (pos 9 ∷ []) → ⊥)
refused_otherwise = (
  (λ c. omega (arith, ap (λ (r : ℕ × List ℕ). r.0) c.answered)),
  (λ c. omega (arith, ap (λ (l : List ℤ). nat_abs (get_or l 0 (pos 0))) c.net_read)),
  (λ c. omega (arith, ap (λ (l : List ℤ). nat_abs (get_or l 0 (pos 0))) c.net_refined)),
)

other_buffers : (input : List ℕ) (net : List ℤ) →
    (Buffers [] 0 net net → ⊥) × (Buffers input 65537 net net → ⊥) × (Buffers input 0 [] net → ⊥)
    × (Buffers input 0 net [] → ⊥)
other_buffers input net = (
  (λ b. omega (arith, b.input_length)),
  (λ b. omega (arith, b.input_read)),
  (λ b. omega (arith, b.net_length)),
  (λ b. omega (arith, b.refined_length)),
)

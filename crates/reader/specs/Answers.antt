-- Document 01's number and values of each case of the answer, and what reading answers and leaves in the lent net.
use Rattle.std.specs.Prelude.{◌≡◌, refl, Bool, List, [], ◌∷◌, ◌++◌, ℕ, ℤ, pos, length, replicate, Result, Ok, Err}
use Rattle.exact.specs.Filling.{over, runs}
use Rattle.net.specs.Net.{squares}
use Rattle.net.specs.Refusals.{first_fault, output_after}
use Rattle.net.specs.Results.{refusal_number}
use Rattle.net.specs.declared.refusals.Refusal.{Refusal}
use Rattle.net.specs.declared.refusals.Refusal.TheVariants as refusal
use Rattle.words.specs.NetFile.{word_bytes, first_word, point_bytes, net_file, file_width, file_height, first_point, file_numbers}
use Rattle.words.specs.Answers.{answer}
use Rattle.reader.specs.Refusals.{head_faults, read_refusal, short_for}

-- document 01's number of an answer, 0 where nothing is refused, and its values: the width and the height
abbrev pub read_outcome : Result (ℕ × ℕ) Refusal → ℕ × List ℕ
read_outcome (Ok (w, h)) = (0, w ∷ h ∷ [])
read_outcome (Err r) = (refusal_number r, [])

-- what the first two words answer, up to 5
abbrev pub head_answer : List ℕ → Bool → ℕ × List ℕ
head_answer file short = answer (first_fault (head_faults file short)) (file_width file ∷ file_height file ∷ [])

-- what reading answers and leaves in the lent net, where `short` is whether a lent output is too short
abbrev pub read_answer_with : List ℕ → Bool → ℕ × List ℕ
read_answer_with file short = answer (read_refusal file short) (file_width file ∷ file_height file ∷ [])

abbrev pub read_net_with : List ℕ → Bool → List ℤ → List ℤ
read_net_with file short net = output_after (read_refusal file short) (file_numbers file) net

-- where that is the lent net
abbrev pub read_answer : List ℕ → List ℤ → ℕ × List ℕ
read_answer file net = read_answer_with file (short_for file (length net))

abbrev pub read_net : List ℕ → List ℤ → List ℤ
read_net file net = read_net_with file (short_for file (length net)) net

-- worked cases: outcomes of answers; the file of the net of 2 by 3 whose numbers are the squares, read with room for a
-- number more, and refused
outcomes : (read_outcome (Ok (2, 3)) ≡ (0, 2 ∷ 3 ∷ [])) × (read_outcome (Err refusal.Room) ≡ (5, []))
outcomes = (refl, refl)

abbrev file23 : List ℕ
file23 = net_file (squares 54) 2 3

answers : (read_answer file23 (replicate 55 (pos 7)) ≡ (0, 2 ∷ 3 ∷ []))
    × (read_answer file23 (replicate 53 (pos 7)) ≡ (5, []))
unfolding word_bytes first_word point_bytes net_file runs
answers = (refl, refl)

nets :
    (read_net file23 (replicate 55 (pos 7)) ≡ squares 54 ++ pos 7 ∷ [])
    × (read_net file23 (replicate 53 (pos 7)) ≡ replicate 53 (pos 7))
unfolding word_bytes first_word point_bytes net_file first_point runs over
nets = (refl, refl)

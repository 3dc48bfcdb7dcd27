-- Document 01's number and values of each case of the answer, and what writing answers and leaves in lent memory.
use Rattle.std.specs.Prelude.{◌≡◌, refl, Bool, List, [], ◌∷◌, ◌++◌, ℕ, ℤ, length, replicate, Result, Ok, Err}
use Rattle.exact.specs.Filling.{over, runs}
use Rattle.net.specs.Net.{numbers, squares}
use Rattle.net.specs.Refusals.{net_beyond, output_after}
use Rattle.net.specs.Results.{refusal_number}
use Rattle.net.specs.declared.refusals.Refusal.{Refusal}
use Rattle.net.specs.declared.refusals.Refusal.TheVariants as refusal
use Rattle.words.specs.NetFile.{word_bytes, point_bytes, net_file, file_size}
use Rattle.words.specs.Answers.{answer}
use Rattle.writer.specs.Refusals.{no_room, write_refusal}

-- document 01's number of an answer, 0 where nothing is refused, and its values: the count of bytes
abbrev pub write_outcome : Result ℕ Refusal → ℕ × List ℕ
write_outcome (Ok n) = (0, n ∷ [])
write_outcome (Err r) = (refusal_number r, [])

-- what writing answers and leaves in the lent output, where `short` is whether a lent output is too short
abbrev pub write_answer_with : List ℤ → ℕ → ℕ → Bool → ℕ × List ℕ
write_answer_with net w h short = answer (write_refusal net w h short) (file_size w h ∷ [])

abbrev pub write_output_with : List ℤ → ℕ → ℕ → Bool → List ℕ → List ℕ
write_output_with net w h short out = output_after (write_refusal net w h short) (net_file net w h) out

-- where that is the one output
abbrev pub write_answer : List ℤ → ℕ → ℕ → List ℕ → ℕ × List ℕ
write_answer net w h out = write_answer_with net w h (no_room w h (length out))

abbrev pub write_output : List ℤ → ℕ → ℕ → List ℕ → List ℕ
write_output net w h out = write_output_with net w h (no_room w h (length out)) out

-- worked cases: outcomes of answers; of the net of 2 by 3 whose numbers are the squares, written with room for a byte
-- more, and refused
outcomes : (write_outcome (Ok 156) ≡ (0, 156 ∷ [])) × (write_outcome (Err refusal.Room) ≡ (5, []))
outcomes = (refl, refl)

abbrev net23 : List ℤ
net23 = squares (numbers 2 3)

answers : (write_answer net23 2 3 (replicate 229 7) ≡ (0, 228 ∷ []))
    × (write_answer net23 2 3 (replicate 227 7) ≡ (5, []))
unfolding net_beyond
answers = (refl, refl)

outputs :
    (write_output net23 2 3 (replicate 229 7) ≡ net_file net23 2 3 ++ 7 ∷ [])
    × (write_output net23 2 3 (replicate 227 7) ≡ replicate 227 7)
unfolding net_beyond over net_file point_bytes word_bytes runs
outputs = (refl, refl)

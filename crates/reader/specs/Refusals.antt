-- Document 01, "Turned away": the rows of the reader, word by word.
use Rattle.std.specs.Prelude.{◌≡◌, refl, Bool, not, List, [], ◌∷◌, ◌++◌, ℕ, ◌-◌, ltb, eqb, ℤ, pos, length, take, drop, replicate}
use Rattle.exact.specs.Filling.{runs}
use Rattle.net.specs.Net.{numbers}
use Rattle.net.specs.Refusals.{Fault, first_fault, bad_side, beyond}
use Rattle.words.specs.NetFile.{word, word_payload, width_kind, height_kind, x_kind, y_kind, z_kind, end_kind, word_bytes, first_word, points, point_bytes, net_file, file_width, file_height, first_number, from_point}
use Rattle.words.specs.Refusals.{word_faults}

-- 'word by word: 7, 8, then 1 or 3': 1 at a side's word, 3 at a number's
abbrev pub side_faults : List ℕ → ℕ → List Fault
side_faults left kind = word_faults left kind ++ (bad_side (word_payload (first_word left)), 1) ∷ []

abbrev pub number_faults : List ℕ → ℕ → List Fault
number_faults left kind = word_faults left kind ++ (beyond (first_number left), 3) ∷ []

abbrev pub point_faults : List ℕ → List Fault
point_faults left = number_faults left x_kind ++ number_faults (drop 4 left) y_kind ++ number_faults (drop 8 left) z_kind

-- the end word: its payload is 0, or 8; 9, bytes after it, comes last
abbrev pub end_faults : List ℕ → List Fault
end_faults left =
    word_faults left end_kind ++ (not (eqb (word_payload (first_word left)) 0), 8) ∷ (ltb 4 (length left), 9) ∷ []

-- the reader, in the order of the bytes; '5 comes after the height word'
abbrev pub head_faults : List ℕ → Bool → List Fault
head_faults file short = side_faults file width_kind ++ side_faults (drop 4 file) height_kind ++ (short, 5) ∷ []

abbrev pub body_faults : List ℕ → ℕ → List Fault
body_faults file n = runs n (λ i. point_faults (from_point file i)) ++ end_faults (from_point file n)

abbrev pub read_faults : List ℕ → Bool → List Fault
read_faults file short = head_faults file short ++ body_faults file (points (file_width file) (file_height file))

abbrev pub read_refusal : List ℕ → Bool → ℕ
read_refusal file short = first_fault (read_faults file short)

-- a net of so many numbers is too short for the file's
abbrev pub short_for : List ℕ → ℕ → Bool
short_for file room = ltb room (numbers (file_width file) (file_height file))

-- ---- worked cases: document 01's examples of 7, 8 and 9, and files that are changed in one place

abbrev flat : List ℤ
flat = replicate (numbers 2 2) (pos 5)

abbrev found : List ℕ → ℕ → ℕ
found file room = read_refusal file (short_for file room)

examples :
    (found [] (numbers 2 2) ≡ 7)
    × (found (word_bytes (word 2 2)) (numbers 2 2) ≡ 8)
    × (found (net_file flat 2 2) (numbers 2 2) ≡ 0)
    × (found (net_file flat 2 2 ++ 0 ∷ []) (numbers 2 2) ≡ 9)
unfolding word_bytes first_word point_bytes net_file runs
examples = (refl, refl, refl, refl)

order :
    (found (net_file flat 2 2) (numbers 2 2 - 1) ≡ 5)
    × (found (net_file flat 2 1) 0 ≡ 1)
    × (found (take 7 (net_file flat 2 2)) 0 ≡ 7)
    × (found (take 8 (net_file flat 2 2)) 0 ≡ 5)
    × (found (take 155 (net_file flat 2 2)) (numbers 2 2) ≡ 7)
    × (found (take 155 (net_file flat 2 2) ++ 1 ∷ 0 ∷ []) (numbers 2 2) ≡ 8)
    × (found (take 152 (net_file flat 2 2) ++ word_bytes (word 5 0)) (numbers 2 2) ≡ 8)
    × (found (net_file (pos 16777217 ∷ flat) 2 2) (numbers 2 2) ≡ 3)
unfolding word_bytes first_word point_bytes net_file runs
order = (refl, refl, refl, refl, refl, refl, refl, refl)

-- at one word, 8 before 1 and before 3: a first word of the height's kind with payload 1, which is no side; a second
-- word of the width's kind with payload 1; a first number of kind 4 that is beyond the range; and 7 before both, where
-- three bytes of that are left
one_word :
    (found (word_bytes (word 2 1)) (numbers 2 2) ≡ 8)
    × (found (word_bytes (word 1 1)) (numbers 2 2) ≡ 1)
    × (found (take 4 (net_file flat 2 2) ++ word_bytes (word 1 1)) 0 ≡ 8)
    × (found (take 8 (net_file flat 2 2) ++ word_bytes (word 4 16777217)) (numbers 2 2) ≡ 8)
    × (found (take 8 (net_file flat 2 2) ++ word_bytes (word 3 16777217)) (numbers 2 2) ≡ 3)
    × (found (take 8 (net_file flat 2 2) ++ take 3 (word_bytes (word 4 16777217))) (numbers 2 2) ≡ 7)
unfolding word_bytes first_word point_bytes net_file runs
one_word = (refl, refl, refl, refl, refl, refl)

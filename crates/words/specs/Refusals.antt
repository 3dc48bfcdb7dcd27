-- Document 01, "Turned away": 7 and 8, of a word that is due.
use Rattle.std.specs.Prelude.{◌≡◌, refl, not, List, [], ◌∷◌, ℕ, ltb, eqb, length, take}
use Rattle.net.specs.Refusals.{Fault, first_fault}
use Rattle.words.specs.NetFile.{word, word_kind, width_kind, height_kind, word_bytes, first_word}

-- a word that is due: 7, fewer than 4 bytes are left; 8, its kind is another
abbrev pub word_faults : List ℕ → ℕ → List Fault
word_faults left kind = (ltb (length left) 4, 7) ∷ (not (eqb (word_kind (first_word left)) kind), 8) ∷ []

-- worked cases: three bytes that are left, and a width word where a width and where a height is due
abbrev width : List ℕ
width = word_bytes (word width_kind 5)

examples :
    (first_fault (word_faults (take 3 width) width_kind) ≡ 7)
    × (first_fault (word_faults width width_kind) ≡ 0)
    × (first_fault (word_faults width height_kind) ≡ 8)
unfolding word_bytes first_word
examples = (refl, refl, refl)

-- Words in little-endian order, the first byte lowest. The code goes through these: four bytes in this order are one
-- load or store, and a byte swap gives the file's order, high byte first.
use Rattle.std.specs.Prelude.{◌≡◌, refl, List, [], ◌∷◌, ℕ, ◌+◌, ◌*◌, ◌/◌, ◌%◌, get_or}

-- the byte swap of a word
unfoldable pub swapped_bytes : ℕ → ℕ
swapped_bytes v = v % 256 * 16777216 + v / 256 % 256 * 65536 + v / 65536 % 256 * 256 + v / 16777216

-- the word in the first four bytes, and the four bytes of a word, first byte lowest
unfoldable pub low_first : List ℕ → ℕ
low_first bytes = get_or bytes 0 0 + get_or bytes 1 0 * 256 + get_or bytes 2 0 * 65536 + get_or bytes 3 0 * 16777216

unfoldable pub low_bytes : ℕ → List ℕ
low_bytes v = v % 256 ∷ v / 256 % 256 ∷ v / 65536 % 256 ∷ v / 16777216 ∷ []

-- worked cases: 1, 2, 3, 4 hex, both ways
swaps : (swapped_bytes 16909060 ≡ 67305985) × (low_first (1 ∷ 2 ∷ 3 ∷ 4 ∷ []) ≡ 67305985)
    × (low_bytes 67305985 ≡ 1 ∷ 2 ∷ 3 ∷ 4 ∷ [])
unfolding swapped_bytes low_first low_bytes
swaps = (refl, refl, refl)

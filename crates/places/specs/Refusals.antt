-- Document 01, "Turned away": 6 of a place.
use Rattle.std.specs.Prelude.{◌≡◌, refl, Bool, true, false, ◌||◌, ℕ, ◌-◌, ◌*◌, ltb}

-- 6: no such place at edge count D
abbrev pub no_place : ℕ → ℕ → ℕ → ℕ → ℕ → Bool
no_place D w h p q = ltb (D * (w - 1)) p || ltb (D * (h - 1)) q

-- worked cases: document 01's example of 6 and the place p = 1,024 at w = 2 that is accepted; the last row of a height
-- of 3, and a place above it; past the last place and the last place at edge count 4
examples :
    (no_place 1024 2 2 1025 0 ≡ true)
    × (no_place 1024 2 2 1024 0 ≡ false)
    × (no_place 1024 2 3 0 2048 ≡ false)
    × (no_place 1024 2 3 0 2049 ≡ true)
    × (no_place 4 3 2 9 0 ≡ true)
    × (no_place 4 3 2 8 0 ≡ false)
examples = (refl, refl, refl, refl, refl, refl)

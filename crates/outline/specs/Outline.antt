-- Document 02, a: an outline says which triangles of a net are present. 'The outline is one byte a triangle, row by row
-- and cell by cell, up before down: 1 present, 0 missing.'
use Rattle.std.specs.Prelude.{◌≡◌, refl, Bool, true, false, List, [], ◌∷◌, ℕ, ◌+◌, ◌-◌, ◌*◌, ◌/◌, ◌%◌, eqb, get_or}
use Rattle.std.proofs.Common.{arith}
use Rattle.net.specs.Net.{Triangle, triangle_at, OfNet}

-- so many triangles has a net of width w and height h
abbrev pub triangles : ℕ → ℕ → ℕ
triangles w h = 2 * ((w - 1) * (h - 1))

-- the byte of a triangle, counted from 0: of the two of its cell the up triangle is the first
abbrev pub in_cell : Bool → ℕ
in_cell false = 0
in_cell true = 1

abbrev pub byte_of : ℕ → Triangle → ℕ
byte_of w t = 2 * (t.row * (w - 1) + t.column) + in_cell t.down

-- the triangle of a byte
abbrev pub triangle_of : ℕ → ℕ → Triangle
triangle_of w n = triangle_at (n / 2 % (w - 1)) (n / 2 / (w - 1)) (eqb (n % 2) 1)

-- '1 present, 0 missing'; the byte, and the triangle
abbrev pub present_at : List ℕ → ℕ → Bool
present_at outline n = eqb (get_or outline n 0) 1

abbrev pub present : List ℕ → ℕ → Triangle → Bool
present outline w t = present_at outline (byte_of w t)

-- a present triangle of the net
abbrev pub Present : List ℕ → ℕ → ℕ → Triangle → Type 0
Present outline w h t = OfNet w h t × (present outline w t ≡ true)

-- worked cases: 4 by 3 vertices have 12 triangles; of that net, the triangles of cell (2, 1) have the bytes 10 and 11,
-- and bytes 3, 7 and 8 are of the down triangles of cells (1, 0) and (0, 1) and of the up triangle of cell (1, 1); of 3
-- by 2 with the bytes 0, 1, 0, 0 the down triangle of cell (0, 0) is present, the up triangle of cell (1, 0) is not; a
-- byte above 1 and one that is not there are no present triangle; and byte 4 is of no triangle of the net
counted : triangles 4 3 ≡ 12
counted = refl

bytes : (byte_of 4 (triangle_at 2 1 false) ≡ 10) × (byte_of 4 (triangle_at 2 1 true) ≡ 11)
bytes = (refl, refl)

triangles_of_bytes :
    (triangle_of 4 3 ≡ triangle_at 1 0 true)
    × (triangle_of 4 7 ≡ triangle_at 0 1 true)
    × (triangle_of 4 8 ≡ triangle_at 1 1 false)
triangles_of_bytes = (refl, refl, refl)

presence :
    (present (0 ∷ 1 ∷ 0 ∷ 0 ∷ []) 3 (triangle_at 0 0 true) ≡ true)
    × (present (0 ∷ 1 ∷ 0 ∷ 0 ∷ []) 3 (triangle_at 1 0 false) ≡ false)
    × (present_at (2 ∷ []) 0 ≡ false)
    × (present_at (2 ∷ []) 1 ≡ false)
presence = (refl, refl, refl, refl)

not_of_net :
    (Present (0 ∷ 0 ∷ 0 ∷ 0 ∷ 1 ∷ []) 3 2 (triangle_at 2 0 false) → ⊥)
    × (Present (0 ∷ 0 ∷ 0 ∷ 0 ∷ 1 ∷ []) 3 2 (triangle_at 0 1 false) → ⊥)
not_of_net = ((λ p. omega (arith, p.0.0)), (λ p. omega (arith, p.0.1)))

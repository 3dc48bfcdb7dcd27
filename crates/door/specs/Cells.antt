-- What the inner functions hand on to each other. No public contract cites these.
use Rattle.std.specs.Prelude.{◌≡◌, refl, Bool, true, false, ◌&&◌, ◌||◌, List, [], ◌∷◌, ℕ, ◌+◌, ◌*◌, ◌≤◌, ltb}
use Rattle.net.specs.Net.{Triangle, triangle_at}
use Rattle.outline.specs.Outline.{present}
use Rattle.door.specs.Door.{lies_in}

-- what keeps the numbers of the code small: 2^26 is the last place of 1,024 edges at edge count 2^16
pub record Small (D p q i j : ℕ) : Type 0 where
  pub edge : D ≤ 65536
  pub across : p ≤ 67108864
  pub up : q ≤ 67108864
  pub column : i ≤ 67108864
  pub row : j ≤ 67108864
  pub column_place : D * i ≤ 67108864
  pub row_place : D * j ≤ 67108864

-- a triangle is present and the place lies in it
abbrev pub triangle_has : ℕ → List ℕ → ℕ → ℕ → ℕ → Triangle → Bool
triangle_has D outline w p q t = present outline w t && lies_in D p q t

-- cell (i, j) is in the grid and one of its triangles has the place
abbrev pub cell_has : ℕ → List ℕ → ℕ → ℕ → ℕ → ℕ → ℕ → ℕ → Bool
cell_has D outline w h p q i j =
    ltb (i + 1) w && ltb (j + 1) h
    && (triangle_has D outline w p q (triangle_at i j false) || triangle_has D outline w p q (triangle_at i j true))

-- worked cases: of 3 by 2, where the down triangle of cell (0, 0) and the up triangle of cell (1, 0) are present, place
-- (1024, 300) on the edge between them; a place off that edge; and a cell that is not in the grid
cells :
    (cell_has 1024 (0 ∷ 1 ∷ 1 ∷ 0 ∷ []) 3 2 1024 300 0 0 ≡ true)
    × (cell_has 1024 (0 ∷ 1 ∷ 1 ∷ 0 ∷ []) 3 2 1024 300 1 0 ≡ true)
    × (cell_has 1024 (0 ∷ 1 ∷ 1 ∷ 0 ∷ []) 3 2 1100 300 0 0 ≡ false)
    × (cell_has 1024 (1 ∷ 1 ∷ 1 ∷ 1 ∷ []) 3 2 1024 1024 0 1 ≡ false)
cells = (refl, refl, refl, refl)

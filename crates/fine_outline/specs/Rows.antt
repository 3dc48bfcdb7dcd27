-- The fine outline as it is written: row by row of the refined net, starting cell by starting cell, two bytes a fine
-- cell. `by_rows_lem` in proofs/RowLaws.antt: these are the bytes of `fine_outline`. No public contract cites these.
use Rattle.std.specs.Prelude.{◌≡◌, refl, cond, List, [], ◌∷◌, ℕ, ◌+◌, ◌-◌, ◌*◌, ◌/◌, ◌%◌, ◌≤◌, leb, length, get_or}
use Rattle.exact.specs.Filling.{runs}
use Rattle.outline.specs.Outline.{triangles}

-- the part of a fine row that lies in one starting cell, s fine cells to its side, g rows above its lower edge: the
-- bytes of the fine triangles below the cell's diagonal are the up triangle's
abbrev pub cell_run : ℕ → ℕ → ℕ → ℕ → List ℕ
cell_run up down s g = runs (2 * s) (λ n. cond (leb s (n / 2 + g + n % 2)) down up ∷ [])

-- of fine row r in cell i of its starting row, whose up triangle has the byte with number n
abbrev pub part_run : List ℕ → ℕ → ℕ → ℕ → ℕ → List ℕ
part_run outline w s r i =
    let n : ℕ = 2 * (r / s * (w - 1) + i) in cell_run (get_or outline n 0) (get_or outline (n + 1) 0) s (r % s)

-- fine row r
abbrev pub row_run : List ℕ → ℕ → ℕ → ℕ → List ℕ
row_run outline w s r = runs (w - 1) (part_run outline w s r)

-- what a row needs: few cells, an outline that is long enough, and room for the fine outline
pub record RowReady (outline : List ℕ) (w h s : ℕ) (fine : List ℕ) : Type 0 where
  pub some : 1 ≤ s
  pub few : s ≤ 64
  pub wide : 2 ≤ w
  pub narrow : (w - 1) * s ≤ 1024
  pub low : s * (h - 1) ≤ 1024
  pub long : triangles w h ≤ length outline
  pub room : s * (h - 1) * ((w - 1) * (2 * s)) ≤ length fine

-- worked cases: three rows of a cell of four; of a net of width 3 with bytes that all differ, its fine row 5 after two
-- steps
cell_of_four :
    (cell_run 5 6 4 0 ≡ 5 ∷ 5 ∷ 5 ∷ 5 ∷ 5 ∷ 5 ∷ 5 ∷ 6 ∷ [])
    × (cell_run 5 6 4 1 ≡ 5 ∷ 5 ∷ 5 ∷ 5 ∷ 5 ∷ 6 ∷ 6 ∷ 6 ∷ [])
    × (cell_run 5 6 4 3 ≡ 5 ∷ 6 ∷ 6 ∷ 6 ∷ 6 ∷ 6 ∷ 6 ∷ 6 ∷ [])
unfolding runs
cell_of_four = (refl, refl, refl)

row_of_eight :
    row_run (1 ∷ 2 ∷ 3 ∷ 4 ∷ 5 ∷ 6 ∷ 7 ∷ 8 ∷ []) 3 4 5
    ≡ 5 ∷ 5 ∷ 5 ∷ 5 ∷ 5 ∷ 6 ∷ 6 ∷ 6 ∷ 7 ∷ 7 ∷ 7 ∷ 7 ∷ 7 ∷ 8 ∷ 8 ∷ 8 ∷ []
unfolding runs
row_of_eight = refl

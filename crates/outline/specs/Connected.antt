-- Document 02, a: 'Present triangles must hang together edge to edge', the field's term being connected: one is
-- present, and from each present triangle a walk leads to each other over present triangles, each sharing an edge with
-- the next.
use Rattle.std.specs.Prelude.{◌≡◌, refl, Bool, true, false, ◌&&◌, ◌||◌, List, [], ◌∷◌, ℕ, ◌+◌, eqb}
use Rattle.exact.specs.Filling.{runs}
use Rattle.net.specs.Net.{Triangle, triangle_at}
use Rattle.graphs.specs.Walks.{ConnectedBy}
use Rattle.graphs.specs.Reaching.{reached, all_reached}
use Rattle.outline.specs.Outline.{triangles, triangle_of, present_at, Present}

-- the two triangles on an edge, by the cell (i, j) whose down triangle has it (`shares_edge` in proofs/Edges.antt)
pub data Adjacent : Triangle → Triangle → Type 0 where
  along_e2 : (i j : ℕ) → Adjacent (triangle_at i j false) (triangle_at i j true)
  along_e3 : (i j : ℕ) → Adjacent (triangle_at i j true) (triangle_at (i + 1) j false)
  along_e1 : (i j : ℕ) → Adjacent (triangle_at i j true) (triangle_at i (j + 1) false)

-- an edge that two present triangles share
abbrev pub Shared : (Triangle → Type 0) → Triangle → Triangle → Type 0
Shared Has t u = Adjacent t u × Has t × Has u

abbrev pub Connected : List ℕ → ℕ → ℕ → Type 0
Connected outline w h = ConnectedBy (Present outline w h) (Shared (Present outline w h))

-- the same, computed: `connected_judged` in proofs/Connected.antt

-- whether the down triangle of cell (i, j) and the up triangle of cell (k, l) share an edge
abbrev pub meets : ℕ → ℕ → ℕ → ℕ → Bool
meets i j k l = eqb k i && eqb l j || eqb k (i + 1) && eqb l j || eqb k i && eqb l (j + 1)

abbrev pub adjacent_by : Bool → Bool → ℕ → ℕ → ℕ → ℕ → Bool
adjacent_by false false i j k l = false
adjacent_by true true i j k l = false
adjacent_by true false i j k l = meets i j k l
adjacent_by false true i j k l = meets k l i j

abbrev pub adjacent : Triangle → Triangle → Bool
adjacent t u = adjacent_by t.down u.down t.column t.row u.column u.row

-- of two bytes: both triangles are present and share an edge
abbrev pub edge_at : List ℕ → ℕ → ℕ → ℕ → Bool
edge_at outline w m n = present_at outline m && present_at outline n && adjacent (triangle_of w m) (triangle_of w n)

unfoldable pub connected : List ℕ → ℕ → ℕ → Bool
connected outline w h = all_reached (triangles w h) (present_at outline) (edge_at outline w)

-- worked cases: of 3 by 2, whose triangles are a strip of four, all; none; one; the two ends of the strip; two up and
-- two down triangles, which meet at a vertex alone; and the down triangle of a cell with the up triangle beside it. Of
-- 3 by 3, the down triangle of a cell with the up triangle above it; the down triangle of a row's last cell with the
-- first triangle of the next row; and six of the eight. Of 4 by 3, bytes 3 and 8 share an edge, and a byte past the
-- last triangle does not count; byte 2 shares an edge with byte 3, and is missing
abbrev strip : ℕ → ℕ → ℕ → ℕ → Bool
strip a b c d = connected (a ∷ b ∷ c ∷ d ∷ []) 3 2

strips :
    (strip 1 1 1 1 ≡ true)
    × (strip 0 0 0 0 ≡ false)
    × (strip 0 0 1 0 ≡ true)
    × (strip 1 0 0 1 ≡ false)
    × (strip 1 0 1 0 ≡ false)
    × (strip 0 1 0 1 ≡ false)
    × (strip 0 1 1 0 ≡ true)
unfolding connected reached all_reached runs
strips = (refl, refl, refl, refl, refl, refl, refl)

squares_of_four :
    (connected (0 ∷ 1 ∷ 0 ∷ 0 ∷ 1 ∷ 0 ∷ 0 ∷ 0 ∷ []) 3 3 ≡ true)
    × (connected (0 ∷ 0 ∷ 0 ∷ 1 ∷ 1 ∷ 0 ∷ 0 ∷ 0 ∷ []) 3 3 ≡ false)
    × (connected (1 ∷ 1 ∷ 1 ∷ 1 ∷ 1 ∷ 1 ∷ 0 ∷ 0 ∷ []) 3 3 ≡ true)
unfolding connected reached all_reached runs
squares_of_four = (refl, refl, refl)

-- for worked cases here and in the crates above
abbrev pub column_of_two : List ℕ
column_of_two = 0 ∷ 0 ∷ 0 ∷ 1 ∷ 0 ∷ 0 ∷ 0 ∷ 0 ∷ 1 ∷ 0 ∷ 0 ∷ 0 ∷ 1 ∷ []

of_4_by_3 :
    (connected column_of_two 4 3 ≡ true)
    × (connected column_of_two 3 4 ≡ false)
    × (edge_at column_of_two 4 3 8 ≡ true)
    × (edge_at column_of_two 4 2 3 ≡ false)
    × (edge_at column_of_two 4 3 2 ≡ false)
unfolding connected reached all_reached runs
of_4_by_3 = (refl, refl, refl, refl, refl)

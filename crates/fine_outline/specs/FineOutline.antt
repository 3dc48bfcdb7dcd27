-- Document 02, a: 'A fine triangle is present exactly when it lies in a present starting triangle, and refining writes
-- the fine outline too.'
use Rattle.std.specs.Prelude.{◌≡◌, refl, true, false, List, [], ◌∷◌, ℕ, ◌+◌, ◌/◌, ◌%◌, ◌^◌, leb, get_or}
use Rattle.exact.specs.Filling.{runs}
use Rattle.net.specs.Net.{Index, Triangle, triangle_at, corner}
use Rattle.places.specs.Places.{LiesIn}
use Rattle.subdivision.specs.Refinement.{side_after}
use Rattle.outline.specs.Outline.{triangles, in_cell, byte_of, triangle_of}

-- a triangle after k steps lies in a starting triangle: its three corners do, as places of 2^k to an edge
abbrev pub LiesWithin : ℕ → Triangle → Triangle → Type 0
LiesWithin k t u = (P : Index) → LiesIn (2 ^ k) (corner t P).column (corner t P).row u

-- the one that it lies in (`parent_holds`, `parent_only` in proofs/Parents.antt): the cell by quotients, and the up
-- triangle where the fine one lies below the cell's diagonal
abbrev pub parent_by : ℕ → Triangle → Triangle
parent_by s t = triangle_at (t.column / s) (t.row / s) (leb s (t.column % s + t.row % s + in_cell t.down))

abbrev pub parent : ℕ → Triangle → Triangle
parent k = parent_by (2 ^ k)

-- the outline of the net after k steps: each triangle has its parent's byte
unfoldable pub fine_outline : List ℕ → ℕ → ℕ → ℕ → List ℕ
fine_outline outline w h k =
    runs (triangles (side_after k w) (side_after k h))
    (λ n. get_or outline (byte_of w (parent k (triangle_of (side_after k w) n))) 0 ∷ [])

-- worked cases: after two steps, triangles of cells (5, 2), (6, 1), (2, 7) and (4, 2); of 3 by 2 with bytes that all
-- differ, no step and one; of 2 by 3, one step, where a byte that is not there counts as 0
parents :
    (parent 2 (triangle_at 5 2 false) ≡ triangle_at 1 0 false)
    × (parent 2 (triangle_at 5 2 true) ≡ triangle_at 1 0 true)
    × (parent 2 (triangle_at 6 1 true) ≡ triangle_at 1 0 true)
    × (parent 2 (triangle_at 2 7 false) ≡ triangle_at 0 1 true)
    × (parent 2 (triangle_at 4 2 true) ≡ triangle_at 1 0 false)
parents = (refl, refl, refl, refl, refl)

outlines :
    (fine_outline (4 ∷ 5 ∷ 6 ∷ 7 ∷ 8 ∷ []) 3 2 0 ≡ 4 ∷ 5 ∷ 6 ∷ 7 ∷ [])
    × (fine_outline (4 ∷ 5 ∷ 6 ∷ 7 ∷ 8 ∷ []) 3 2 1
    ≡ 4 ∷ 4 ∷ 4 ∷ 5 ∷ 6 ∷ 6 ∷ 6 ∷ 7 ∷ 4 ∷ 5 ∷ 5 ∷ 5 ∷ 6 ∷ 7 ∷ 7 ∷ 7 ∷ [])
    × (fine_outline (4 ∷ 5 ∷ 6 ∷ []) 2 3 1
    ≡ 4 ∷ 4 ∷ 4 ∷ 5 ∷ 4 ∷ 5 ∷ 5 ∷ 5 ∷ 6 ∷ 6 ∷ 6 ∷ 0 ∷ 6 ∷ 0 ∷ 0 ∷ 0 ∷ [])
unfolding fine_outline runs
outlines = (refl, refl, refl)

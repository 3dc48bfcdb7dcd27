-- Document 01, "One refinement": 'The weights over 12 stand in one constant table', four kinds of vertices, three
-- controls, six weights each, in the order a1 a2 a3 b1 b2 b3. Refinement by any table, the test that a table passes,
-- and our table.
use Rattle.std.specs.Prelude.{◌≡◌, refl, Bool, true, false, ◌&&◌, List, [], ◌∷◌, map, ℕ, ◌+◌, eqb, length, get_or, drop, ℤ, pos}
use Rattle.exact.specs.Rounding.{rounded}
use Rattle.exact.specs.WeightedSum.{weighted_sum}
use Rattle.net.specs.Net.{Index, one, two, three, rank, entry, Field}
use Rattle.subdivision.specs.Refinement.{Kind, kept, along, kind_of, begin_of, end_of}

-- weights by kind of vertex, control and value
abbrev pub Table : Type 0
Table = List (List (List ℕ))

-- 'kept, then edges along e1, e2, e3'
abbrev pub kind_number : Kind → ℕ
kind_number kept = 0
kind_number (along k) = 1 + rank k

-- the six weights of control l at a vertex of kind number n
abbrev pub weights_at : Table → ℕ → Index → List ℤ
weights_at t n l = map pos (get_or (get_or t n []) (rank l) [])

-- ---- the test

abbrev pub sum : List ℕ → ℕ
sum [] = 0
sum (n ∷ ns) = n + sum ns

abbrev pub every : {A : Type 0} → (A → Bool) → List A → Bool
every test [] = true
every test (a ∷ as') = test a && every test as'

-- six weights that sum to 12; those of a kept vertex have 0 for the last three
abbrev pub good_row : List ℕ → Bool
good_row row = eqb (length row) 6 && eqb (sum row) 12

abbrev pub good_kept_row : List ℕ → Bool
good_kept_row row = good_row row && every (λ n. eqb n 0) (drop 3 row)

-- three controls
abbrev pub good_kind : (List ℕ → Bool) → List (List ℕ) → Bool
good_kind test rows = eqb (length rows) 3 && every test rows

-- the kept vertex and three edges
abbrev pub passes : Table → Bool
passes [] = false
passes (keptRows ∷ edges) = good_kind good_kept_row keptRows && (eqb (length edges) 3 && every (good_kind good_row) edges)

-- ---- refinement by a table

abbrev pub six : (Index → ℤ) → (Index → ℤ) → List ℤ
six a b = a one ∷ a two ∷ a three ∷ b one ∷ b two ∷ b three ∷ []

-- one exact refinement of a field by a table, times 12, and the rounded one
unfoldable pub exact_by : Table → Field → Field
exact_by t F v l = weighted_sum (weights_at t (kind_number (kind_of v)) l) (six (F (begin_of v)) (F (end_of v)))

unfoldable pub refined_by : Table → Field → Field
refined_by t F v l = rounded (exact_by t F v l) 12

-- the control triangle of a refined vertex of kind number n, from the control triangles at the two ends of its edge:
-- control l, coordinate x
abbrev pub refined_number : Table → ℕ → List (List ℤ) → List (List ℤ) → Index → ℕ → ℤ
refined_number t n a b l x = rounded (weighted_sum (weights_at t n l) (six (λ k. entry a k x) (λ k. entry b k x))) 12

abbrev pub refined_point : Table → ℕ → List (List ℤ) → List (List ℤ) → Index → List ℤ
refined_point t n a b l = refined_number t n a b l 0 ∷ refined_number t n a b l 1 ∷ refined_number t n a b l 2 ∷ []

unfoldable pub refined_triangle : Table → ℕ → List (List ℤ) → List (List ℤ) → List (List ℤ)
refined_triangle t n a b = refined_point t n a b one ∷ refined_point t n a b two ∷ refined_point t n a b three ∷ []

-- ---- our table

abbrev pub row6 : ℕ → ℕ → ℕ → ℕ → ℕ → ℕ → List ℕ
row6 a b c d e f = a ∷ b ∷ c ∷ d ∷ e ∷ f ∷ []

abbrev pub weights : Table
weights =
    (row6 8 2 2 0 0 0 ∷ row6 2 8 2 0 0 0 ∷ row6 2 2 8 0 0 0 ∷ [])
    ∷ (row6 0 0 0 0 6 6 ∷ row6 6 3 0 0 3 0 ∷ row6 6 0 3 0 0 3 ∷ [])
    ∷ (row6 3 6 0 3 0 0 ∷ row6 0 0 0 6 0 6 ∷ row6 0 6 3 0 0 3 ∷ [])
    ∷ (row6 3 0 6 3 0 0 ∷ row6 0 3 6 0 3 0 ∷ row6 0 0 0 6 6 0 ∷ [])
    ∷ []

-- 'row sums proved once': our table passes
pub weights_pass : passes weights ≡ true
weights_pass = refl

-- worked cases: control 2 on an edge along e1 is (2a1 + a2 + b2)/4; another table passes; one whose kept row looks at
-- the neighbour does not, nor does one with a row that sums to 11, one with a row of five weights, one with a fourth
-- control and one without the edges along e3
edge_row : weights_at weights (kind_number (along one)) two ≡ map pos (row6 6 3 0 0 3 0)
edge_row = refl

neighbour_row : passes ((row6 7 2 2 1 0 0 ∷ row6 2 8 2 0 0 0 ∷ row6 2 2 8 0 0 0 ∷ []) ∷ drop 1 weights) ≡ false
neighbour_row = refl

abbrev soft : List (List ℕ)
soft = row6 6 3 3 0 0 0 ∷ row6 3 6 3 0 0 0 ∷ row6 3 3 6 0 0 0 ∷ []

abbrev mixed : List (List ℕ)
mixed = row6 1 2 3 3 2 1 ∷ row6 2 2 2 2 2 2 ∷ row6 0 0 12 0 0 0 ∷ []

tested :
    (passes (soft ∷ mixed ∷ mixed ∷ mixed ∷ []) ≡ true)
    × (passes (soft ∷ mixed ∷ (row6 1 2 3 3 2 0 ∷ drop 1 mixed) ∷ mixed ∷ []) ≡ false)
    × (passes (soft ∷ mixed ∷ ((6 ∷ 0 ∷ 0 ∷ 0 ∷ 6 ∷ []) ∷ drop 1 mixed) ∷ mixed ∷ []) ≡ false)
    × (passes (soft ∷ mixed ∷ mixed ∷ (row6 12 0 0 0 0 0 ∷ mixed) ∷ []) ≡ false)
    × (passes (soft ∷ mixed ∷ mixed ∷ []) ≡ false)
tested = (refl, refl, refl, refl, refl)

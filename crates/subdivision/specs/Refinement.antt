-- Document 01, "One refinement", on one coordinate: which vertices a refined vertex comes from, its values times 12 and
-- rounded, and k steps.
use Rattle.std.specs.Prelude.{◌≡◌, refl, Bool, true, false, cond, List, [], ◌∷◌, ℕ, zero, suc, ◌+◌, ◌-◌, ◌*◌, ◌/◌, ltb, ℤ, pos, ◌+ℤ◌, ◌*ℤ◌}
use Rattle.exact.specs.Rounding.{rounded, floor_quotient}
use Rattle.net.specs.Net.{Index, one, two, three, next, previous, Vertex, vertex_at, Field, same, control_point, control_triangle, field, squares}

-- 'New size (2w-1) by (2h-1)': a side after one refinement, and after k
abbrev pub refined_side : ℕ → ℕ
refined_side n = 2 * n - 1

abbrev pub side_after : ℕ → ℕ → ℕ
side_after zero n = n
side_after (suc k) n = refined_side (side_after k n)

-- a vertex of the refined net is a kept vertex (document 01's term: an old vertex at twice its column and row), or it
-- is new and halves an edge along ek
pub data Kind : Type 0 where
  kept : Kind
  along : Index → Kind

abbrev pub is_odd : ℕ → Bool
is_odd n = ltb (2 * (n / 2)) n

-- by whether its column is odd, and whether its row is
abbrev pub kind_by : Bool → Bool → Kind
kind_by false false = kept
kind_by true false = along one
kind_by true true = along two
kind_by false true = along three

abbrev pub kind_of : Vertex → Kind
kind_of v = kind_by (is_odd v.column) (is_odd v.row)

-- A and B = A + ek, the ends of the edge along ek that is halved between the columns i, i + 1 and the rows j, j + 1. e3
-- points down: an edge along e3 begins at its upper end. A kept vertex has no edge; where two vertices are asked for,
-- it has its neighbour along e1, which does not count.
abbrev pub begin_by : Kind → ℕ → ℕ → Vertex
begin_by kept i j = vertex_at i j
begin_by (along one) i j = vertex_at i j
begin_by (along two) i j = vertex_at (i + 1) j
begin_by (along three) i j = vertex_at i (j + 1)

abbrev pub end_by : Kind → ℕ → ℕ → Vertex
end_by kept i j = vertex_at (i + 1) j
end_by (along one) i j = vertex_at (i + 1) j
end_by (along two) i j = vertex_at i (j + 1)
end_by (along three) i j = vertex_at i j

abbrev pub begin_of : Vertex → Vertex
begin_of v = begin_by (kind_of v) (v.column / 2) (v.row / 2)

abbrev pub end_of : Vertex → Vertex
end_of v = end_by (kind_of v) (v.column / 2) (v.row / 2)

-- 12 times ck' of a kept vertex: ck' = (4ck + the other two)/6
abbrev pub kept_control : (Index → ℤ) → Index → ℤ
kept_control c k = pos 2 *ℤ (pos 4 *ℤ c k +ℤ c (next k) +ℤ c (previous k))

-- 12 times cl' of a new vertex on the edge from A (controls a) to B = A + ek (controls b): ck' = (b(k+1) + b(k+2))/2,
-- and for the two others, l = k+1 and l = k+2, cl' = (2ak + al + bl)/4
abbrev pub new_control : Index → (Index → ℤ) → (Index → ℤ) → Index → ℤ
new_control k a b l =
    cond (same l k) (pos 6 *ℤ (b (next k) +ℤ b (previous k))) (pos 3 *ℤ (pos 2 *ℤ a k +ℤ a l +ℤ b l))

abbrev pub rule_by : Kind → (Index → ℤ) → (Index → ℤ) → Index → ℤ
rule_by kept a b = kept_control a
rule_by (along k) a b = new_control k a b

-- one exact refinement of a field, times 12
unfoldable pub exact_refinement : Field → Field
exact_refinement F v = rule_by (kind_of v) (F (begin_of v)) (F (end_of v))

-- one refinement: 'each value is rounded', once
unfoldable pub refinement : Field → Field
refinement F v k = rounded (exact_refinement F v k) 12

-- 'k steps repeat this; k = 0 copies'
abbrev pub steps : (Field → Field) → ℕ → Field → Field
steps R zero F = F
steps R (suc k) F = R (steps R k F)

-- the k times refined field; and the exact one, times 12 to the power k
abbrev pub refinements : ℕ → Field → Field
refinements = steps refinement

abbrev pub exact_refinements : ℕ → Field → Field
exact_refinements = steps exact_refinement

-- worked cases: 17 by 17 refined six times is 1,025 by 1,025; vertex (5, 3) of a refined net halves the edge along e2
-- from (3, 1) to (2, 2), and vertex (4, 3) the edge along e3 from (2, 2) to (2, 1); of a net that is 1 at control 1 of
-- its vertex (0, 0) and 0 elsewhere, times 12 and times 6; of the net of 2 by 2 whose numbers are the squares, x of the
-- controls of a vertex of each kind, times 12 and rounded
six_steps : side_after 6 17 ≡ 1025
six_steps = refl

halved_edges :
    (kind_of (vertex_at 5 3) ≡ along two)
    × (begin_of (vertex_at 5 3) ≡ vertex_at 3 1)
    × (end_of (vertex_at 5 3) ≡ vertex_at 2 2)
    × (kind_of (vertex_at 4 3) ≡ along three)
    × (begin_of (vertex_at 4 3) ≡ vertex_at 2 2)
    × (end_of (vertex_at 4 3) ≡ vertex_at 2 1)
halved_edges = (refl, refl, refl, refl, refl, refl)

abbrev single : ℕ → Field
single z v one = cond (ltb 0 (v.column + v.row)) (pos 0) (pos z)
single z v two = pos 0
single z v three = pos 0

of_one_control :
    (exact_refinement (single 1) (vertex_at 0 0) one ≡ pos 8)
    × (exact_refinement (single 1) (vertex_at 1 0) two ≡ pos 6)
    × (exact_refinement (single 1) (vertex_at 0 1) one ≡ pos 3)
    × (exact_refinement (single 1) (vertex_at 0 1) three ≡ pos 6)
    × (refinement (single 6) (vertex_at 0 1) one ≡ pos 2)
unfolding exact_refinement refinement rounded floor_quotient
of_one_control = (refl, refl, refl, refl, refl)

abbrev controls : (Index → ℤ) → List ℤ
controls c = c one ∷ c two ∷ c three ∷ []

abbrev exact_at : ℕ → ℕ → List ℤ
exact_at i j = controls (exact_refinement (field (squares 36) 2 0) (vertex_at i j))

of_each_kind :
    (exact_at 2 0 ≡ pos 1386 ∷ pos 1764 ∷ pos 2250 ∷ [])
    × (exact_at 1 0 ≡ pos 2214 ∷ pos 459 ∷ pos 783 ∷ [])
    × (exact_at 1 1 ≡ pos 2079 ∷ pos 5400 ∷ pos 3267 ∷ [])
    × (exact_at 0 1 ≡ pos 4428 ∷ pos 4806 ∷ pos 54 ∷ [])
    × (controls (refinement (field (squares 36) 2 0) (vertex_at 1 1)) ≡ pos 173 ∷ pos 450 ∷ pos 272 ∷ [])
unfolding exact_refinement refinement rounded floor_quotient control_triangle control_point
of_each_kind = (refl, refl, refl, refl, refl)

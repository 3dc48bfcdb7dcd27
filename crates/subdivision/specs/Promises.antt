-- What one refinement is, and that exact refinement keeps the spline, of the definitions: the statements, each with the
-- name of its proof.
use Rattle.std.specs.Prelude.{◌≡◌, ℕ, ◌+◌, ◌*◌, ◌^◌, ◌≤◌, ◌<◌, ℤ, pos, nat_abs, ◌+ℤ◌, ◌-ℤ◌, ◌*ℤ◌}
use Rattle.exact.specs.Rounding.{rounded}
use Rattle.net.specs.Net.{Index, Vertex, step_column, step_row, Field}
use Rattle.places.specs.Places.{OnGrid}
use Rattle.spline.specs.Spline.{spline}
use Rattle.subdivision.specs.Refinement.{Kind, kept, along, kind_of, begin_of, end_of, exact_refinement, refinement, exact_refinements, refined_side, side_after}
use Rattle.subdivision.specs.WeightTable.{Table, exact_by, refined_by, weights}

-- a kept vertex is at twice its old column and row; a new vertex halves the edge from A to B = A + ek (`comes_from`)
abbrev pub ComesFrom : Vertex → Kind → Vertex → Vertex → Type 0
ComesFrom v kept A B = (v.column ≡ 2 * A.column) × (v.row ≡ 2 * A.row)
ComesFrom v (along k) A B =
    (v.column ≡ A.column + B.column)
    × (v.row ≡ A.row + B.row)
    × (pos B.column ≡ pos A.column +ℤ step_column k)
    × (pos B.row ≡ pos A.row +ℤ step_row k)

abbrev pub VerticesComeFrom : Type 0
VerticesComeFrom = (v : Vertex) → ComesFrom v (kind_of v) (begin_of v) (end_of v)

-- rounding over 12 is rounding of document 01's own quotients, over 6, 2 and 4, from which the rule has the factors 2,
-- 6 and 3 (`quotients`)
abbrev pub Quotients : Type 0
Quotients =
    (z : ℤ) → (rounded (pos 2 *ℤ z) 12 ≡ rounded z 6) × (rounded (pos 6 *ℤ z) 12 ≡ rounded z 2)
    × (rounded (pos 3 *ℤ z) 12 ≡ rounded z 4)

-- 'Each value is rounded as above', once: by every table a refined value is nearest to its exact one, which is whole
-- times 12 (`step_nearest`)
abbrev pub StepNearest : Type 0
StepNearest =
    (T : Table) (F : Field) (v : Vertex) (l : Index) → 2 * nat_abs (pos 12 *ℤ refined_by T F v l -ℤ exact_by T F v l) ≤ 12

-- our table is document 01's rule: the exact refinement (`our_table`), and the rounded one (`our_refinement`)
abbrev pub OurTable : Type 0
OurTable = (F : Field) → exact_by weights F ≡ exact_refinement F

abbrev pub OurRefinement : Type 0
OurRefinement = (F : Field) → refined_by weights F ≡ refinement F

-- 'Exact refinement gives the same spline': one step (`same_spline`). The refined field is 12 times the exact one, and
-- the spline at edge count D is times 36·D²: 12·36·D² is 3·36·(2D)².
abbrev pub SameSpline : Type 0
SameSpline =
    (F : Field) (w h D p q : ℕ) → 0 < D → 2 ≤ w → 2 ≤ h → OnGrid D (refined_side w) (refined_side h) p q →
    spline (exact_refinement F) (refined_side w) (refined_side h) D p q ≡ pos 3 *ℤ spline F w h (2 * D) p q

-- and k steps (`same_splines`): 12^k·36·D² is 3^k·36·(2^k·D)²
abbrev pub SameSplines : Type 0
SameSplines =
    (k : ℕ) (F : Field) (w h D p q : ℕ) → 0 < D → 2 ≤ w → 2 ≤ h → OnGrid D (side_after k w) (side_after k h) p q →
    spline (exact_refinements k F) (side_after k w) (side_after k h) D p q ≡ pos (3 ^ k) *ℤ spline F w h (D * 2 ^ k) p q

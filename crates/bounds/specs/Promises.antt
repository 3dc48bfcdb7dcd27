-- How far rounding takes a refined net, and between which values it stays, of the definitions: the statements, each
-- with the name of its proof. The half in a distance is cleared by 2.
use Rattle.std.specs.Prelude.{◌≡◌, true, false, List, ℕ, ◌+◌, ◌*◌, ◌^◌, ◌≤◌, ◌<◌, ℤ, pos, nat_abs, ◌-ℤ◌, ◌*ℤ◌, ◌≤ℤ◌}
use Rattle.std.proofs.Common.{lit≤}
use Rattle.exact.specs.Rounding.{rounded}
use Rattle.exact.specs.WeightedSum.{weighted_sum}
use Rattle.net.specs.Net.{Index, Vertex, vertex_at, Triangle, triangle_at, OfNet, corner, Field, field}
use Rattle.net.specs.Refusals.{AcceptedNet}
use Rattle.places.specs.Places.{OnGrid, LiesIn}
use Rattle.spline.specs.Spline.{spline}
use Rattle.subdivision.specs.Refinement.{Kind, steps, refinements, side_after}
use Rattle.subdivision.specs.WeightTable.{Table, kind_number, weights_at, passes, six, exact_by, refined_by}

-- ---- distance

-- for every table that passes the test, each control value after k rounded steps is within k/2 of the exact net made by
-- that table, which is whole times 12^k (`net_distance`)
abbrev pub NetDistance : Type 0
NetDistance =
    (T : Table) → passes T ≡ true → (F : Field) (k : ℕ) (v : Vertex) (l : Index) →
    2 * nat_abs (pos (12 ^ k) *ℤ steps (refined_by T) k F v l -ℤ steps (exact_by T) k F v l) ≤ k * 12 ^ k

-- the exact spline of the net after k steps is within k/2 of the starting net's (`spline_distance`). The first is whole
-- times 36·D², the second times 36·(2^k·D)², which is 4^k times as much.
abbrev pub SplineDistance : Type 0
SplineDistance =
    (k : ℕ) (F : Field) (w h D p q : ℕ) → 0 < D → 2 ≤ w → 2 ≤ h → OnGrid D (side_after k w) (side_after k h) p q →
    (let E = D * 2 ^ k in
    2 * nat_abs (pos (4 ^ k) *ℤ spline (refinements k F) (side_after k w)
    (side_after k h) D p q -ℤ spline F w h E p q) ≤ k * (36 * (E * E)))

-- and its rounded point within (k + 1)/2 (`point_distance`)
abbrev pub PointDistance : Type 0
PointDistance =
    (k : ℕ) (F : Field) (w h D p q : ℕ) → 0 < D → 2 ≤ w → 2 ≤ h → OnGrid D (side_after k w) (side_after k h) p q →
    (let E = D * 2 ^ k in
    let r = rounded (spline (refinements k F) (side_after k w) (side_after k h) D p q) (36 * (D * D)) in
    2 * nat_abs (pos (36 * (E * E)) *ℤ r -ℤ spline F w h E p q) ≤ (k + 1) * (36 * (E * E)))

-- ---- range

abbrev pub Between : ℤ → ℤ → ℤ → Type 0
Between m n z = (m ≤ℤ z) × (z ≤ℤ n)

-- the nine control values of a triangle, and all values of a net of width w and height h
abbrev pub CornersBetween : ℤ → ℤ → Field → Triangle → Type 0
CornersBetween m n F t = (P l : Index) → Between m n (F (corner t P) l)

abbrev pub NetBetween : ℤ → ℤ → ℕ → ℕ → Field → Type 0
NetBetween m n w h F = (i j : ℕ) → i < w → j < h → (l : Index) → Between m n (F (vertex_at i j) l)

-- control l of a refined vertex v, times 12, is a weighted sum of the values of two corners of t (or of one, twice), by
-- a row of the table
pub record MeanOfCorners (T : Table) (F : Field) (t : Triangle) (v : Vertex) (l : Index) : Type 0 where
  pub kind : Kind
  pub A : Index
  pub B : Index
  pub mean : exact_by T F v l ≡ weighted_sum (weights_at T (kind_number kind) l) (six (F (corner t A)) (F (corner t B)))

-- for every table that passes the test, in every closed triangle that a refined vertex lies in: vertex (u, v) of the
-- refined net is place (u, v) at edge count 2 (`vertex_mean`); so its rounded values lie between the triangle's
-- (`vertex_between`)
abbrev pub VertexMean : Type 0
VertexMean =
    (T : Table) → passes T ≡ true → (F : Field) (u v : ℕ) (t : Triangle) → LiesIn 2 u v t → (l : Index) →
    MeanOfCorners T F t (vertex_at u v) l

abbrev pub VertexBetween : Type 0
VertexBetween =
    (T : Table) → passes T ≡ true → (m n : ℤ) (F : Field) (u v : ℕ) (t : Triangle) → LiesIn 2 u v t →
    CornersBetween m n F t → (l : Index) →
    Between m n (refined_by T F (vertex_at u v) l)

-- the rounded point after k steps lies between the control values of each starting triangle that the place lies in
-- (`point_between`)
abbrev pub PointBetween : Type 0
PointBetween =
    (T : Table) → passes T ≡ true → (m n : ℤ) (k : ℕ) (F : Field) (w h D p q : ℕ) (t : Triangle) →
    0 < D → OfNet w h t → LiesIn (D * 2 ^ k) p q t → CornersBetween m n F t →
    Between m n (rounded (spline (steps (refined_by T) k F) (side_after k w) (side_after k h) D p q) (36 * (D * D)))

-- and all values of the refined net between those of the starting net (`net_between`)
abbrev pub NetStaysBetween : Type 0
NetStaysBetween =
    (T : Table) → passes T ≡ true → (m n : ℤ) (k w h : ℕ) (F : Field) → 2 ≤ w → 2 ≤ h → NetBetween m n w h F →
    NetBetween m n (side_after k w) (side_after k h) (steps (refined_by T) k F)

-- refined numbers of an accepted net stay in the net range (`refined_in_range`)
abbrev pub RefinedInRange : Type 0
RefinedInRange =
    (T : Table) → passes T ≡ true → (net : List ℤ) (w h : ℕ) → AcceptedNet net w h → (k i j x : ℕ) → x < 3 →
    i < side_after k w → j < side_after k h →
    (l : Index) → nat_abs (steps (refined_by T) k (field net w x) (vertex_at i j) l) ≤ 16777216

-- worked case: vertex (3, 2) of a refined net lies in the up triangle of cell (1, 1)
on_an_edge : LiesIn 2 3 2 (triangle_at 1 1 false)
on_an_edge = (lit≤ tt, lit≤ tt, lit≤ tt)

-- The exact spline, of the definitions: the statements, each with the name of its proof.
use Rattle.std.specs.Prelude.{◌≡◌, Bool, ℕ, ◌*◌, ◌<◌, pos, ◌*ℤ◌, ◌≤ℤ◌}
use Rattle.exact.specs.WeightedSum.{weighted_sum, total}
use Rattle.net.specs.Net.{Index, Triangle, OfNet, Field}
use Rattle.places.specs.Places.{LiesIn, Order}
use Rattle.triangles.specs.BezierPoints.{controls_of, control_list}
use Rattle.spline.specs.Spline.{value_in, spline}
use Rattle.spline.specs.Shares.{shares_in, Descending, weight_of, control_weights}

-- in every triangle that a place lies in, and under every order of equal shares, document 01's formula gives the same
-- value (`any_triangle`)
abbrev pub AnyTriangle : Type 0
AnyTriangle =
    (F : Field) (w h D p q : ℕ) (t : Triangle) (o : Order) → 0 < D → OfNet w h t → LiesIn D p q t →
    Descending (shares_in D p q t) o →
    value_in t.down (controls_of F t) o (shares_in D p q t) ≡ spline F w h D p q

-- at c times the edge count, c times the place is the same place of the net: the exact value is the same, and so c²
-- times as much where it is written times 36·(c·D)² instead of 36·D² (`edge_counts`)
abbrev pub EdgeCounts : Type 0
EdgeCounts =
    (F : Field) (w h D p q c : ℕ) → 0 < c →
    spline F w h (c * D) (c * p) (c * q) ≡ pos (c * c) *ℤ spline F w h D p q

-- in each triangle that a place lies in, the exact value is a weighted sum of the nine control values
-- (`spline_by_weights`), whose weights sum to 36·D² (`weights_total`), are at least 0 (`weight_not_negative`), and
-- are 0 at a corner with share 0 (`no_share_no_weight`)
abbrev pub SplineByWeights : Type 0
SplineByWeights =
    (F : Field) (w h D p q : ℕ) (t : Triangle) → 0 < D → OfNet w h t → LiesIn D p q t →
    spline F w h D p q ≡ weighted_sum (control_weights t.down (shares_in D p q t)) (control_list (controls_of F t))

abbrev pub WeightsTotal : Type 0
WeightsTotal =
    (D p q : ℕ) (t : Triangle) → LiesIn D p q t →
    total (control_weights t.down (shares_in D p q t)) ≡ pos (36 * (D * D))

abbrev pub WeightNotNegative : Type 0
WeightNotNegative = (down : Bool) (a : Index → ℕ) (P l : Index) → pos 0 ≤ℤ weight_of down a P l

abbrev pub NoShareNoWeight : Type 0
NoShareNoWeight = (down : Bool) (a : Index → ℕ) (P l : Index) → a P ≡ 0 → weight_of down a P l ≡ pos 0

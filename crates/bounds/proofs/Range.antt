-- Where refined values and points lie, for every table that passes the test: a refined value at a vertex of a closed
-- triangle is a mean of the values of that triangle's own corners, and so everything stays between them at every depth.
use mathlib.Core.Path.{◌≡◌, refl, sym, ap, subst}
use mathlib.Core.Bool.{Bool, true, false}
use Prim.Native.Nat.{ℕ, zero, suc, ◌+◌, ◌*◌, ◌^◌, ◌≤◌, ◌<◌}
use native.Mathlib.Nat.{mul-le-mul, mul-one, pow-suc}
use native.Mathlib.Decide.{dec_le}
use native.Mathlib.Omega.{arith}
use lib.Dec.{lit<}
use lib.IntN.{ℤ}
use Rattle.exact.specs.Rounding.{rounded}
use Rattle.exact.proofs.WeightedSumLaws.{all_in_range}
use Rattle.exact.proofs.RoundingLaws.{mean_range}
use Rattle.net.specs.Net.{Index, one, two, three, Vertex, vertex_at, Triangle, triangle_at, OfNet, corner, Field}
use Rattle.places.specs.Places.{chosen}
use Rattle.places.proofs.Cells.{chosen_lies}
use Rattle.triangles.specs.BezierPoints.{controls_of, control_list}
use Rattle.spline.specs.Spline.{spline}
use Rattle.spline.specs.Shares.{shares_in, control_weights}
use Rattle.spline.proofs.ControlWeights.{shares_total, weights_not_negative}
use Rattle.spline.proofs.Located.{Located, across_by, up_by, located}
use Rattle.spline.proofs.AnyTriangle.{chosen_of_net, spline_by_shares}
use Rattle.subdivision.specs.Refinement.{steps, refined_side, side_after}
use Rattle.subdivision.specs.WeightTable.{Table, kind_number, weights_at, passes, six, refined_by}
use Rattle.subdivision.proofs.Tables.{kind_below, row_length, row_total, row_not_negative}
use Rattle.subdivision.proofs.Means.{child_mean}
use Rattle.subdivision.proofs.SameSpline.{side_at_least}
use Rattle.subdivision.proofs.Children.{Child, child, child_of_net, source, kind_between, begin_between, end_between, in_child}
use Rattle.bounds.specs.Promises.{Between, CornersBetween, NetBetween, MeanOfCorners, VertexMean, VertexBetween, PointBetween, NetStaysBetween}

-- ---- one step

module _ (T : Table) (e : passes T ≡ true) (F : Field) where
  mean_of_corners : (t : Triangle) (k : Child) (P l : Index) → MeanOfCorners T F t (corner (child t k) P) l
  mean_of_corners t k P l =
      let X = (source k P).0 in
      let Y = (source k P).1 in
      record { kind = kind_between t.down X Y; A = begin_between X Y; B = end_between X Y; mean = child_mean T e F t k P l }

  -- so the refined value lies between the values of the corners
  mean_between : (m n : ℤ) (t : Triangle) (v : Vertex) (l : Index) → MeanOfCorners T F t v l → CornersBetween m n F t →
      Between m n (refined_by T F v l)
  unfolding refined_by
  mean_between m n t v l r b =
      let number = kind_number r.kind in
      let ws = weights_at T number l in
      let A = r.A in
      let B = r.B in
      let below = kind_below r.kind in
      subst (λ (z : ℤ). Between m n (rounded z 12)) (sym r.mean)
      (mean_range 12 (lit< tt) (row_total T e number below l)
      (all_in_range m n ws (six (F (corner t A)) (F (corner t B))) (row_length T e number below l)
      (row_not_negative T e number below l)
      (b A one, (b A two, (b A three, (b B one, (b B two, (b B three, tt))))))))

  child_between : (m n : ℤ) (t : Triangle) (k : Child) → CornersBetween m n F t →
      CornersBetween m n (refined_by T F) (child t k)
  child_between m n t k b P l = mean_between m n t (corner (child t k) P) l (mean_of_corners t k P l) b

-- ---- points

-- the rounded point lies between the control values of every triangle that has the place
point_in : (m n : ℤ) (F : Field) (w h D p q : ℕ) (t : Triangle) (s : Index → ℕ) → 0 < D → OfNet w h t →
    Located D p q t s →
    CornersBetween m n F t → Between m n (rounded (spline F w h D p q) (36 * (D * D)))
point_in m n F w h D p q t s d g l b =
    let some : 0 < 36 * (D * D) = omega (arith, mul-le-mul d d) in
    subst (λ (z : ℤ). Between m n (rounded z (36 * (D * D)))) (sym (spline_by_shares F w h D p q t s d g l))
    (mean_range (36 * (D * D)) some (shares_total t.down s D l.whole)
    (all_in_range m n (control_weights t.down s) (control_list (controls_of F t)) refl
    (weights_not_negative t.down s) (
      b one one,
      (
        b one two,
        (
          b one three,
          (b two one, (b two two, (b two three, (b three one, (b three two, (b three three, tt)))))),
        ),
      ),
    )))

-- the first of k + 1 steps
steps_first : (R : Field → Field) (k : ℕ) (F : Field) → steps R (suc k) F ≡ steps R k (R F)
steps_first R zero F = refl
steps_first R (suc k) F = ap R (steps_first R k F)

side_first : (k n : ℕ) → side_after (suc k) n ≡ side_after k (refined_side n)
side_first zero n = refl
side_first (suc k) n = ap refined_side (side_first k n)

-- after k steps, between the control values of every starting triangle that has the place
refined_point_in : (T : Table) → passes T ≡ true →
    (m n : ℤ) (k : ℕ) (F : Field) (w h D p q : ℕ) (t : Triangle) (s : Index → ℕ) →
    0 < D → OfNet w h t → Located (D * 2 ^ k) p q t s → CornersBetween m n F t →
    Between m n (rounded (spline (steps (refined_by T) k F) (side_after k w) (side_after k h) D p q) (36 * (D * D)))
refined_point_in T e m n zero F w h D p q t s d g l b =
    point_in m n F w h D p q t s d g (subst (λ (E : ℕ). Located E p q t s) (mul-one D) l) b
refined_point_in T e m n (suc k) F w h D p q t s d g l b =
    let twice : D * 2 ^ suc k ≡ 2 * (D * 2 ^ k) = omega (arith, ap (λ (x : ℕ). D * x) (pow-suc 2 k)) in
    let c = in_child (D * 2 ^ k) p q t s (subst (λ (E : ℕ). Located E p q t s) twice l) in
    subst (λ (z : ℤ). Between m n (rounded z (36 * (D * D))))
    (λ i. spline (sym (steps_first (refined_by T) k F) i) (sym (side_first k w) i) (sym (side_first k h) i) D p q)
    (refined_point_in T e m n k (refined_by T F) (refined_side w) (refined_side h) D p q (child t c.which) c.shares
    d (child_of_net w h t c.which g) c.lies (child_between T e F m n t c.which b))

pub point_between : PointBetween
point_between T e m n k F w h D p q t d g l b =
    let E = D * 2 ^ k in
    refined_point_in T e m n k F w h D p q t (shares_in E p q t) d g (located E p q t l) b

-- ---- refined values

-- a place at edge count 1 is a corner
record IsCorner (t : Triangle) (v : Vertex) : Type 0 where
  which : Index
  is : corner t which ≡ v

corner_at_lem : (u v : ℕ) (t : Triangle) (s : Index → ℕ) → Located 1 u v t s → IsCorner t (vertex_at u v)
corner_at_lem u v t s l = go t.down l.across l.up (dec_le 1 (s one)) (dec_le 1 (s two))
  where
    here : (down : Bool) (P : Index) → (corner (triangle_at t.column t.row down) P).column ≡ u →
        (corner (triangle_at t.column t.row down) P).row ≡ v →
        IsCorner (triangle_at t.column t.row down) (vertex_at u v)
    here down P e f = record { which = P; is = λ i. vertex_at (e i) (f i) }

    go : (down : Bool) → u ≡ 1 * t.column + across_by down s → v ≡ 1 * t.row + up_by down s → Dec (1 ≤ s one) →
        Dec (1 ≤ s two) →
        IsCorner (triangle_at t.column t.row down) (vertex_at u v)
    go false a b (yes h) y = here false one (omega (arith, a, l.whole, h)) (omega (arith, b, l.whole, h))
    go false a b (no g) (yes h) = here false two (omega (arith, a, l.whole, h)) (omega (arith, b, l.whole, h))
    go false a b (no g) (no h) = here false three (omega (arith, a, l.whole, g, h)) (omega (arith, b, l.whole, g, h))
    go true a b (yes h) y = here true one (omega (arith, a, l.whole, h)) (omega (arith, b, l.whole, h))
    go true a b (no g) (yes h) = here true two (omega (arith, a, l.whole, h)) (omega (arith, b, l.whole, h))
    go true a b (no g) (no h) = here true three (omega (arith, a, l.whole, g, h)) (omega (arith, b, l.whole, g, h))

-- vertex (u, v) of the refined net is place (u, v) at edge count 2: where it lies in a closed triangle, its values are
-- means of that triangle's own corners' values
pub vertex_mean : VertexMean
vertex_mean T e F u v t lies l =
    let c = in_child 1 u v t (shares_in 2 u v t) (located 2 u v t lies) in
    let r = corner_at_lem u v (child t c.which) c.shares c.lies in
    subst (λ (x : Vertex). MeanOfCorners T F t x l) r.is (mean_of_corners T e F t c.which r.which l)

-- and so they lie between them
pub vertex_between : VertexBetween
vertex_between T e m n F u v t lies b l = mean_between T e F m n t (vertex_at u v) l (vertex_mean T e F u v t lies l) b

corners_between : (m n : ℤ) (w h : ℕ) (F : Field) (t : Triangle) → OfNet w h t → NetBetween m n w h F →
    CornersBetween m n F t
corners_between m n w h F t g b P = by t.down P
  where
    by : (down : Bool) (P : Index) (l : Index) → Between m n (F (corner (triangle_at t.column t.row down) P) l)
    by false one = b t.column t.row (omega (arith, g.0)) (omega (arith, g.1))
    by false two = b (t.column + 1) t.row (omega (arith, g.0)) (omega (arith, g.1))
    by false three = b t.column (t.row + 1) (omega (arith, g.0)) (omega (arith, g.1))
    by true one = b (t.column + 1) t.row (omega (arith, g.0)) (omega (arith, g.1))
    by true two = b t.column (t.row + 1) (omega (arith, g.0)) (omega (arith, g.1))
    by true three = b (t.column + 1) (t.row + 1) (omega (arith, g.0)) (omega (arith, g.1))

net_step : (T : Table) (e : passes T ≡ true) (m n : ℤ) (w h : ℕ) (F : Field) → 2 ≤ w → 2 ≤ h → NetBetween m n w h F →
    NetBetween m n (refined_side w) (refined_side h) (refined_by T F)
net_step T e m n w h F a b net i j k l =
    let t = chosen 2 w h i j in
    vertex_between T e m n F i j t
    (chosen_lies 2 w h i j (lit< tt) a b (omega (arith, k), omega (arith, l)))
    (corners_between m n w h F t (chosen_of_net 2 w h i j a b) net)

pub net_between : NetStaysBetween
net_between T e m n zero w h F a b net = net
net_between T e m n (suc k) w h F a b net =
    net_step T e m n (side_after k w) (side_after k h) (steps (refined_by T) k F) (side_at_least k w a)
    (side_at_least k h b)
    (net_between T e m n k w h F a b net)

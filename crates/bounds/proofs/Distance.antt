-- How far rounding takes a refined net: each control value from the exact net of the same table, the exact spline from
-- the starting net's, and the rounded point. Distances are doubled, so that a half is whole.
use mathlib.Core.Path.{◌≡◌, refl, sym, ap, subst, ◌∙◌}
use mathlib.Core.Bool.{true}
use mathlib.Core.List.{List, [], ◌∷◌, map, Forall₂}
use Prim.Native.Nat.{ℕ, zero, suc, ◌+◌, ◌*◌, ◌^◌, ◌≤◌, ◌<◌}
use native.Mathlib.Nat.{mul-le-mul, le_refl, pow-suc, one-le-pow, le_of_mul-le-mul_left}
use native.Mathlib.Numerals.{unary_clauses}
use native.Mathlib.Omega.{arith}
use lib.Dec.{lit<}
use lib.IntN.{ℤ, pos, nat_abs, ◌-ℤ◌, ◌*ℤ◌}
use Rattle.exact.specs.Rounding.{rounded}
use Rattle.exact.specs.WeightedSum.{weighted_sum, total}
use Rattle.exact.proofs.Order.{size_product, distance_triangle}
use Rattle.exact.proofs.Expressions.{var, lit, ◌⊖◌, ◌⊗◌, identity}
use Rattle.exact.proofs.WeightedSumLaws.{NotNegative, Near, sum_distance, multiple_of_values}
use Rattle.exact.proofs.RoundingLaws.{nearest}
use Rattle.net.specs.Net.{Index, one, two, three, Vertex, corner, Field}
use Rattle.places.specs.Places.{OnGrid, chosen}
use Rattle.places.proofs.Cells.{chosen_lies}
use Rattle.triangles.specs.BezierPoints.{controls_of, control_list}
use Rattle.spline.specs.Spline.{spline}
use Rattle.spline.specs.Shares.{shares_in, control_weights}
use Rattle.spline.proofs.ControlWeights.{shares_total, weights_not_negative}
use Rattle.spline.proofs.Located.{located}
use Rattle.spline.proofs.AnyTriangle.{chosen_value}
use Rattle.subdivision.specs.Refinement.{kind_of, begin_of, end_of, steps, refinements, exact_refinements, side_after}
use Rattle.subdivision.specs.WeightTable.{Table, kind_number, weights_at, passes, six, exact_by, refined_by, weights, weights_pass}
use Rattle.subdivision.proofs.Tables.{kind_below, step_nearest, row_total, row_not_negative, our_table, our_refinement}
use Rattle.subdivision.proofs.SameSpline.{side_at_least, same_splines}
use Rattle.bounds.specs.Promises.{NetDistance, SplineDistance, PointDistance}

-- ---- weighted sums of values that are near, each side times a factor of its own

near_sums : {e : ℕ} (m n : ℕ) (ws vs us : List ℤ) → NotNegative ws →
    Forall₂ (Near e) (map (λ (v : ℤ). pos m *ℤ v) vs) (map (λ (u : ℤ). pos n *ℤ u) us) →
    nat_abs (pos m *ℤ weighted_sum ws vs -ℤ pos n *ℤ weighted_sum ws us) ≤ e * nat_abs (total ws)
near_sums {e} m n ws vs us h d =
    subst (λ (z : ℤ). nat_abs z ≤ e * nat_abs (total ws))
    (λ t. multiple_of_values (pos m) ws vs t -ℤ multiple_of_values (pos n) ws us t)
    (sum_distance ws h d)

size_multiple : (m : ℕ) (z : ℤ) → nat_abs (pos m *ℤ z) ≡ m * nat_abs z
size_multiple m z = size_product (pos m) z

-- a whole number nearest to a quotient, times a factor: m·d times it is at most m·d/2 from m times n
near_multiple : (m d : ℕ) (n r : ℤ) → 2 * nat_abs (pos d *ℤ r -ℤ n) ≤ d →
    nat_abs (pos (2 * (m * d)) *ℤ r -ℤ pos (2 * m) *ℤ n) ≤ m * d
near_multiple m d n r p =
    let apart : pos (2 * (m * d)) *ℤ r -ℤ pos (2 * m) *ℤ n ≡ pos m *ℤ (pos 2 *ℤ (pos d *ℤ r -ℤ n)) = identity
    (lit (pos 2) ⊗ (var 0 ⊗ var 1) ⊗ var 3 ⊖ lit (pos 2) ⊗ var 0 ⊗ var 2)
    (var 0 ⊗ (lit (pos 2) ⊗ (var 1 ⊗ var 3 ⊖ var 2)))
    (pos m ∷ pos d ∷ n ∷ r ∷ []) refl in
    omega (
      arith,
      ap nat_abs apart,
      size_multiple m (pos 2 *ℤ (pos d *ℤ r -ℤ n)),
      ap (λ (x : ℕ). m * x) (size_multiple 2 (pos d *ℤ r -ℤ n)),
      mul-le-mul (le_refl m) p,
    )

-- a distance whose two sides are doubled
halved : (m c : ℕ) (x y : ℤ) → nat_abs (pos (2 * m) *ℤ x -ℤ pos 2 *ℤ y) ≤ c → 2 * nat_abs (pos m *ℤ x -ℤ y) ≤ c
halved m c x y l =
    let both : pos (2 * m) *ℤ x -ℤ pos 2 *ℤ y ≡ pos 2 *ℤ (pos m *ℤ x -ℤ y) = identity
    (lit (pos 2) ⊗ var 0 ⊗ var 1 ⊖ lit (pos 2) ⊗ var 2)
    (lit (pos 2) ⊗ (var 0 ⊗ var 1 ⊖ var 2))
    (pos m ∷ x ∷ y ∷ []) refl in
    omega (arith, l, ap nat_abs both, size_multiple 2 (pos m *ℤ x -ℤ y))

-- ---- each control value, for every table that passes the test

module _ (T : Table) (e : passes T ≡ true) (F : Field) where
  abbrev net : ℕ → Field
  net k = steps (refined_by T) k F

  abbrev exact_net : ℕ → Field
  exact_net k = steps (exact_by T) k F

  -- 12^k times the net is within (k/2)·12^k of the exact one, which is 12^k times the exact net
  near_net : (k : ℕ) (v : Vertex) (l : Index) →
      Near (k * 12 ^ k) (pos (2 * 12 ^ k) *ℤ net k v l) (pos 2 *ℤ exact_net k v l)
  unfolding exact_by
  near_net zero v l =
      let x = pos 2 *ℤ F v l in
      let none : x -ℤ x ≡ pos 0 = identity (var 0 ⊖ var 0) (lit (pos 0)) (x ∷ []) refl in
      omega (arith, ap nat_abs none)
  near_net (suc k) v l =
      let m = 12 ^ k in
      let n = kind_number (kind_of v) in
      let below = kind_below (kind_of v) in
      let ws = weights_at T n l in
      let A = begin_of v in
      let B = end_of v in
      let x = weighted_sum ws (six (net k A) (net k B)) in
      let y = weighted_sum ws (six (exact_net k A) (exact_net k B)) in
      let r = refined_by T (net k) v l in
      let h = near_net k in
      let sums : nat_abs (pos (2 * m) *ℤ x -ℤ pos 2 *ℤ y) ≤ k * m * nat_abs (total ws) =
      near_sums {e =
      k * m} (2 * m) 2 ws (six (net k A) (net k B)) (six (exact_net k A) (exact_net k B))
      (row_not_negative T e n below l)
      (Forall₂.cons (h A one) (Forall₂.cons (h A two) (Forall₂.cons (h A three)
      (Forall₂.cons (h B one) (Forall₂.cons (h B two) (Forall₂.cons (h B three) Forall₂.nil)))))) in
      let twelve : k * m * nat_abs (total ws)
      ≡ k * m * 12 = ap (λ (z : ℤ). k * m * nat_abs z) (row_total T e n below l) in
      let both : nat_abs (pos (2 * (m * 12)) *ℤ r -ℤ pos 2 *ℤ y) ≤ suc k * (m * 12) =
      omega (
        arith,
        distance_triangle (pos (2 * (m * 12)) *ℤ r) (pos (2 * m) *ℤ x) (pos 2 *ℤ y),
        near_multiple m 12 x r (step_nearest T (net k) v l),
        sums,
        twelve,
      ) in
      subst (λ (z : ℕ). nat_abs (pos (2 * z) *ℤ r -ℤ pos 2 *ℤ y) ≤ suc k * z) (sym (pow-suc 12 k)) both

pub net_distance : NetDistance
net_distance T e F k v l =
    halved (12 ^ k) (k * 12 ^ k) (steps (refined_by T) k F v l) (steps (exact_by T) k F v l) (near_net T e F k v l)

-- ---- the exact spline, for our table

power_of_product : (a b k : ℕ) → (a * b) ^ k ≡ a ^ k * b ^ k
power_of_product a b zero = simp unary_clauses refl
power_of_product a b (suc k) =
    omega (
      arith,
      pow-suc (a * b) k,
      ap (λ (n : ℕ). n * (a * b)) (power_of_product a b k),
      ap (λ (n : ℕ). n * b ^ suc k) (pow-suc a k),
      ap (λ (n : ℕ). a ^ k * a * n) (pow-suc b k),
    )

-- splines of fields that are near, each times a factor of its own: nine values and weights that sum to 36·D²
near_splines : {e : ℕ} (m n : ℕ) (F G : Field) (w h D p q : ℕ) → 0 < D → 2 ≤ w → 2 ≤ h → OnGrid D w h p q →
    ((v : Vertex) (l : Index) → Near e (pos m *ℤ F v l) (pos n *ℤ G v l)) →
    nat_abs (pos m *ℤ spline F w h D p q -ℤ pos n *ℤ spline G w h D p q) ≤ e * (36 * (D * D))
near_splines {e} m n F G w h D p q d a b g near =
    let t = chosen D w h p q in
    let s = shares_in D p q t in
    let ws = control_weights t.down s in
    let c = control_list (controls_of F t) in
    let c' = control_list (controls_of G t) in
    let N : (P l : Index) → Near e (pos m *ℤ F (corner t P) l) (pos n *ℤ G (corner t P) l) =
    λ P l. near (corner t P) l in
    let sums : nat_abs (pos m *ℤ weighted_sum ws c -ℤ pos n *ℤ weighted_sum ws c') ≤ e * nat_abs (total ws) =
    near_sums {e = e} m n ws c c' (weights_not_negative t.down s)
    (Forall₂.cons (N one one) (Forall₂.cons (N one two) (Forall₂.cons (N one three)
    (Forall₂.cons (N two one) (Forall₂.cons (N two two) (Forall₂.cons (N two three)
    (Forall₂.cons (N three one) (Forall₂.cons (N three two) (Forall₂.cons (N three three) Forall₂.nil))))))))) in
    let whole = (located D p q t (chosen_lies D w h p q d a b g)).whole in
    let all : e * nat_abs (total ws)
    ≡ e * (36 * (D * D)) = ap (λ (z : ℤ). e * nat_abs z) (shares_total t.down s D whole) in
    let F-value = chosen_value F D w h p q in
    let G-value = chosen_value G D w h p q in
    subst (λ (x : ℕ). nat_abs (pos m *ℤ spline F w h D p q -ℤ pos n *ℤ spline G w h D p q) ≤ x) all
    (subst (λ (z : ℤ). nat_abs z ≤ e * nat_abs (total ws)) (λ i. pos m *ℤ sym F-value i -ℤ pos n *ℤ sym G-value i) sums)

-- our table's nets are document 01's
pub our_nets : (k : ℕ) (F : Field) → steps (refined_by weights) k F ≡ refinements k F
our_nets k F = λ t. steps (λ G. our_refinement G t) k F

our_exact_nets : (k : ℕ) (F : Field) → steps (exact_by weights) k F ≡ exact_refinements k F
our_exact_nets k F = λ t. steps (λ G. our_table G t) k F

our_distance : (k : ℕ) (F : Field) (v : Vertex) (l : Index) →
    Near (k * 12 ^ k) (pos (2 * 12 ^ k) *ℤ refinements k F v l) (pos 2 *ℤ exact_refinements k F v l)
our_distance k F v l =
    subst (λ (z : ℤ). nat_abs z ≤ k * 12 ^ k)
    (λ t. pos (2 * 12 ^ k) *ℤ our_nets k F t v l -ℤ pos 2 *ℤ our_exact_nets k F t v l)
    (near_net weights weights_pass F k v l)

module _ (k : ℕ) (F : Field) (w h D p q : ℕ) (d : 0 < D) (a : 2 ≤ w) (b : 2 ≤ h) (g : OnGrid D (side_after k w) (side_after k h) p q) where
  abbrev refined_spline : ℤ
  refined_spline = spline (refinements k F) (side_after k w) (side_after k h) D p q

  abbrev starting_spline : ℤ
  starting_spline = spline F w h (D * 2 ^ k) p q

  near_spline : nat_abs (pos (2 * 4 ^ k) *ℤ refined_spline -ℤ pos 2 *ℤ starting_spline) ≤ k * (4 ^ k * (36 * (D * D)))
  near_spline =
      let x = refined_spline in
      let y = starting_spline in
      let z = pos (2 * 4 ^ k) *ℤ x -ℤ pos 2 *ℤ y in
      let u = side_after k w in
      let v = side_after k h in
      let twelve : 12 ^ k ≡ 3 ^ k * 4 ^ k = power_of_product 3 4 k in
      let exact = same_splines k F w h D p q d a b g in
      let near : nat_abs (pos (2 * 12 ^ k) *ℤ x -ℤ pos 2 *ℤ spline
      (exact_refinements k F) u v D p q) ≤ k * 12 ^ k * (36 * (D * D)) =
      near_splines (2 * 12 ^ k) 2 (refinements k F) (exact_refinements k F) u v D p q d (side_at_least k w a)
      (side_at_least k h b) g (our_distance k F) in
      let common : pos (2 * 12 ^ k) *ℤ x -ℤ pos 2 *ℤ spline (exact_refinements k F) u v D p q ≡ pos (3 ^ k) *ℤ z =
      (λ t. pos (2 * twelve t) *ℤ x -ℤ pos 2 *ℤ exact t)
      ∙ identity
      (lit (pos 2) ⊗ (var 0 ⊗ var 1) ⊗ var 2 ⊖ lit (pos 2) ⊗ (var 0 ⊗ var 3))
      (var 0 ⊗ (lit (pos 2) ⊗ var 1 ⊗ var 2 ⊖ lit (pos 2) ⊗ var 3))
      (pos (3 ^ k) ∷ pos (4 ^ k) ∷ x ∷ y ∷ [])
      refl in
      le_of_mul-le-mul_left {k = 3 ^ k}
      (omega (arith, near, ap nat_abs common, size_multiple (3 ^ k) z, ap (λ (n : ℕ). k * n * (36 * (D * D))) twelve))
      (one-le-pow k 3 (lit< tt))

  -- 36·D² at the edge count D·2^k
  abbrev fine : ℕ
  fine = D * 2 ^ k

  same_factor : 4 ^ k * (36 * (D * D)) ≡ 36 * (fine * fine)
  same_factor = omega (arith, ap (λ (n : ℕ). n * (36 * (D * D))) (power_of_product 2 2 k))

pub spline_distance : SplineDistance
spline_distance k F w h D p q d a b g =
    let x = refined_spline k F w h D p q d a b g in
    let y = starting_spline k F w h D p q d a b g in
    subst (λ (c : ℕ). 2 * nat_abs (pos (4 ^ k) *ℤ x -ℤ y) ≤ k * c) (same_factor k F w h D p q d a b g)
    (halved (4 ^ k) (k * (4 ^ k * (36 * (D * D)))) x y (near_spline k F w h D p q d a b g))

pub point_distance : PointDistance
point_distance k F w h D p q d a b g =
    let x = refined_spline k F w h D p q d a b g in
    let y = starting_spline k F w h D p q d a b g in
    let c = 4 ^ k * (36 * (D * D)) in
    let r = rounded x (36 * (D * D)) in
    let some : 0 < 36 * (D * D) = omega (arith, mul-le-mul d d) in
    let both : nat_abs (pos (2 * c) *ℤ r -ℤ pos 2 *ℤ y) ≤ (k + 1) * c =
    omega (
      arith,
      distance_triangle (pos (2 * c) *ℤ r) (pos (2 * 4 ^ k) *ℤ x) (pos 2 *ℤ y),
      near_multiple (4 ^ k) (36 * (D * D)) x r (nearest x (36 * (D * D)) some),
      near_spline k F w h D p q d a b g,
    ) in
    subst (λ (n : ℕ). 2 * nat_abs (pos n *ℤ r -ℤ y) ≤ (k + 1) * n) (same_factor k F w h D p q d a b g)
    (halved c ((k + 1) * c) r y both)

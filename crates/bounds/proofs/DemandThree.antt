-- Demand 3 of the definitions: the laws of distance and range, at edge count 1,024, for our table and the fields of a
-- accepted net.
use mathlib.Core.Path.{◌≡◌, refl, sym, subst}
use mathlib.Core.Bool.{Bool, true, false, cond}
use mathlib.Core.List.{List, [], ◌∷◌}
use mathlib.Core.Logic.{⊎_elim}
use Prim.Native.Nat.{ℕ, zero, suc, ◌≤◌, ◌<◌}
use native.Mathlib.Omega.{arith}
use lib.Dec.{T, lit<}
use lib.IntN.{ℤ, pos, neg_ℤ}
use lib.ListN.{length, get_or}
use lib.Signed.{◌≤ℤ◌, le_z, ≤ℤ_refl}
use Rattle.exact.specs.Rounding.{rounded}
use Rattle.exact.proofs.Order.{≤ℤ-trans, ≤ℤ-total, size_low, size_high, size_between}
use Rattle.net.specs.Net.{Index, one, two, three, vertex_at, Field, field}
use Rattle.net.proofs.Accepted.{accepted_vertex}
use Rattle.net.proofs.Places.{good_size}
use Rattle.triangles.specs.BezierPoints.{Controls, controls_of, control_list}
use Rattle.spline.specs.Spline.{spline}
use Rattle.subdivision.specs.Refinement.{side_after}
use Rattle.subdivision.specs.WeightTable.{weights, weights_pass}
use Rattle.bounds.specs.Promises.{Between, RefinedInRange}
use Rattle.bounds.specs.DemandThree.{least, greatest, DemandThree}
use Rattle.bounds.proofs.Distance.{our_nets, point_distance}
use Rattle.bounds.proofs.Range.{point_between, net_between}

-- ---- the least and the greatest of nine values

of_two : (a b : ℤ) (x : Bool) → le_z a b ≡ x →
    (cond x a b ≤ℤ a) × (cond x a b ≤ℤ b) × (a ≤ℤ cond x b a) × (b ≤ℤ cond x b a)
of_two a b true e =
    let h : a ≤ℤ b = record { le = subst T (sym e) tt } in
    (≤ℤ_refl a, h, h, ≤ℤ_refl b)
of_two a b false e =
    let h : b ≤ℤ a = ⊎_elim (λ (k : a ≤ℤ b). absurd (subst T e k.le)) (λ (k : b ≤ℤ a). k) (≤ℤ-total a b) in
    (h, ≤ℤ_refl b, ≤ℤ_refl a, h)

limits : (zs : List ℤ) (i : ℕ) → i < length zs → Between (least zs) (greatest zs) (get_or zs i (pos 0))
limits [] i h = absurd (omega (arith, h))
limits (z ∷ []) zero h = (≤ℤ_refl z, ≤ℤ_refl z)
limits (z ∷ []) (suc i) h = absurd (omega (arith, h))
limits (z ∷ y ∷ ys) zero h = (
  (of_two z (least (y ∷ ys)) (le_z z (least (y ∷ ys))) refl).0,
  (of_two z (greatest (y ∷ ys))
      (le_z z (greatest (y ∷ ys))) refl).2,
)
limits (z ∷ y ∷ ys) (suc i) h =
    let l = limits (y ∷ ys) i (omega (arith, h)) in (
      ≤ℤ-trans (of_two z (least (y ∷ ys)) (le_z z (least (y ∷ ys))) refl).1 l.0,
      ≤ℤ-trans l.1
          (of_two z (greatest (y ∷ ys)) (le_z z (greatest (y ∷ ys))) refl).3,
    )

control_limits : (c : Controls) (P l : Index) → Between (least (control_list c)) (greatest (control_list c)) (c P l)
control_limits c one one = limits (control_list c) 0 (lit< tt)
control_limits c one two = limits (control_list c) 1 (lit< tt)
control_limits c one three = limits (control_list c) 2 (lit< tt)
control_limits c two one = limits (control_list c) 3 (lit< tt)
control_limits c two two = limits (control_list c) 4 (lit< tt)
control_limits c two three = limits (control_list c) 5 (lit< tt)
control_limits c three one = limits (control_list c) 6 (lit< tt)
control_limits c three two = limits (control_list c) 7 (lit< tt)
control_limits c three three = limits (control_list c) 8 (lit< tt)

-- ---- the demand

pub demand_three_lem : DemandThree
demand_three_lem net w h a k p q x c g =
    let s = good_size w h a.size in
    let F = field net w x in (
      point_distance k F w h 1024 p q (lit< tt) s.wide s.high g,
      λ t of_net lies.
          let m = least (control_list (controls_of F t)) in
          let n = greatest (control_list (controls_of F t)) in
          subst (λ (N : Field). Between m n (rounded (spline N (side_after k w) (side_after k h) 1024 p q) 37748736))
          (our_nets k F)
          (point_between weights weights_pass m n k F w h 1024 p q t (lit< tt) of_net lies (control_limits (controls_of F t))),
    )

-- ---- refined numbers stay in the net range

pub refined_in_range : RefinedInRange
refined_in_range T e net w h a k i j x c u v l =
    let s = good_size w h a.size in
    let between = net_between T e (neg_ℤ (pos 16777216)) (pos 16777216) k w h (field net w x) s.wide s.high
    (λ i j u v l.
    let z = field net w x (vertex_at i j) l in
    let small = (accepted_vertex net w h a i j u v).1 l x c in
    (size_low z small, size_high z small))
    i j u v l in
    size_between between.0 between.1

-- Two numbers near the exact spline of one net at the same place, one counted after k steps and one after l, are near
-- each other: the place is one at edge count 1024·2^k·2^l, where both distances have the same factor. The points after
-- k steps and after m more are both near the spline of the net after k.
use mathlib.Core.Path.{◌≡◌, refl, sym, ap, subst, ◌∙◌}
use mathlib.Core.List.{[], ◌∷◌}
use Prim.Native.Nat.{ℕ, zero, suc, ◌+◌, ◌*◌, ◌^◌, ◌≤◌, ◌<◌}
use native.Mathlib.Nat.{mul-le-mul, le_refl, one-le-pow, le_of_mul-le-mul_left, zero-add, suc-add}
use native.Mathlib.Omega.{arith}
use lib.Dec.{lit<}
use lib.IntN.{ℤ, pos, nat_abs, ◌-ℤ◌, ◌*ℤ◌}
use Rattle.exact.specs.Rounding.{rounded}
use Rattle.exact.proofs.Order.{size_product, distance_sym, distance_triangle}
use Rattle.exact.proofs.Expressions.{var, ◌⊖◌, ◌⊗◌, identity}
use Rattle.net.specs.Net.{Field}
use Rattle.places.specs.Places.{OnGrid}
use Rattle.spline.specs.Spline.{spline}
use Rattle.spline.proofs.EdgeCounts.{edge_counts}
use Rattle.subdivision.specs.Refinement.{refined_side, side_after, refinement, steps, refinements}
use Rattle.subdivision.proofs.SameSpline.{side_at_least}
use Rattle.bounds.specs.DemandThree.{fine_edge, refined_coordinate, NearSpline}
use Rattle.bounds.proofs.Distance.{point_distance}

-- a distance with both sides times c
times_both : (c m e : ℕ) (r n : ℤ) → 2 * nat_abs (pos m *ℤ r -ℤ n) ≤ e * m →
    2 * nat_abs (pos (c * m) *ℤ r -ℤ pos c *ℤ n) ≤ e * (c * m)
times_both c m e r n l =
    let both : pos (c * m) *ℤ r -ℤ pos c *ℤ n ≡ pos c *ℤ (pos m *ℤ r -ℤ n) =
    identity (var 0 ⊗ var 1 ⊗ var 2 ⊖ var 0 ⊗ var 3) (var 0 ⊗ (var 1 ⊗ var 2 ⊖ var 3)) (pos c ∷ pos m ∷ r ∷ n ∷ []) refl in
    omega (
      arith,
      ap nat_abs both,
      size_product (pos c) (pos m *ℤ r -ℤ n),
      mul-le-mul (le_refl c) l,
    )

pub near_both : (F : Field) (w h k l p q p2 q2 : ℕ) (y z : ℤ) → p * 2 ^ l ≡ p2 * 2 ^ k → q * 2 ^ l ≡ q2 * 2 ^ k →
    NearSpline F w h k p q y → NearSpline F w h l p2 q2 z → 2 * nat_abs (y -ℤ z) ≤ k + l + 2
near_both F w h k l p q p2 q2 y z e f near near2 =
    let a : ℕ = 2 ^ l in
    let b : ℕ = 2 ^ k in
    let D : ℕ = fine_edge k in
    let E : ℕ = fine_edge l in
    let M : ℕ = a * a * (36 * (D * D)) in
    let S = pos (a * a) *ℤ spline F w h D p q in
    let some : 0 < a = one-le-pow l 2 (lit< tt) in
    let some2 : 0 < b = one-le-pow k 2 (lit< tt) in
    let edges : a * D ≡ b * E = omega arith in
    let across : a * p ≡ b * p2 = omega (arith, e) in
    let up : a * q ≡ b * q2 = omega (arith, f) in
    let same : S ≡ pos (b * b) *ℤ spline F w h E p2 q2 =
    sym (edge_counts F w h D p q a some)
    ∙ (λ t. spline F w h (edges t) (across t) (up t))
    ∙ edge_counts F w h E p2 q2 b some2 in
    let factor : b * b * (36 * (E * E)) ≡ M = omega arith in
    let first : 2 * nat_abs (pos M *ℤ y -ℤ S) ≤ (k + 1) * M =
    times_both (a * a) (36 * (D * D)) (k + 1) y (spline F w h D p q) near in
    let second : 2 * nat_abs (pos M *ℤ z -ℤ S) ≤ (l + 1) * M =
    subst (λ (n : ℕ). 2 * nat_abs (pos n *ℤ z -ℤ S) ≤ (l + 1) * n) factor
    (subst (λ (s : ℤ). 2 * nat_abs (pos (b * b * (36 * (E * E))) *ℤ z -ℤ s) ≤ (l + 1) * (b * b * (36 * (E * E)))) (sym same)
    (times_both (b * b) (36 * (E * E)) (l + 1) z (spline F w h E p2 q2) near2)) in
    let common : pos M *ℤ y -ℤ pos M *ℤ z ≡ pos M *ℤ (y -ℤ z) =
    identity (var 0 ⊗ var 1 ⊖ var 0 ⊗ var 2) (var 0 ⊗ (var 1 ⊖ var 2)) (pos M ∷ y ∷ z ∷ []) refl in
    le_of_mul-le-mul_left {k = M}
    (omega (
      arith,
      distance_triangle (pos M *ℤ y) S (pos M *ℤ z),
      distance_sym S (pos M *ℤ z),
      first,
      second,
      ap nat_abs common,
      size_product (pos M) (y -ℤ z),
    ))
    (omega (arith, mul-le-mul (mul-le-mul some some) (mul-le-mul some2 some2)))

-- ---- m steps more

steps_more : (f : Field → Field) (m k : ℕ) (F : Field) → steps f m (steps f k F) ≡ steps f (m + k) F
steps_more f zero k F = ap (λ (n : ℕ). steps f n F) (sym (zero-add k))
steps_more f (suc m) k F = ap f (steps_more f m k F) ∙ ap (λ (n : ℕ). steps f n F) (sym (suc-add m k))

side_more : (m k n : ℕ) → side_after m (side_after k n) ≡ side_after (m + k) n
side_more zero k n = ap (λ (j : ℕ). side_after j n) (sym (zero-add k))
side_more (suc m) k n = ap refined_side (side_more m k n) ∙ ap (λ (j : ℕ). side_after j n) (sym (suc-add m k))

pub near_more : (F : Field) (w h k m p q p2 q2 : ℕ) → 2 ≤ w → 2 ≤ h → p * 2 ^ m ≡ p2 → q * 2 ^ m ≡ q2 →
    OnGrid 1024 (side_after k w) (side_after k h) p q → OnGrid 1024 (side_after (m + k) w) (side_after (m + k) h) p2 q2 →
    2 * nat_abs (refined_coordinate F w h k p q -ℤ refined_coordinate F w h (m + k) p2 q2) ≤ m + 2
near_more F w h k m p q p2 q2 a b e f place place2 =
    let G = refinements k F in
    let W = side_after k w in
    let H = side_after k h in
    let wide = side_at_least k w a in
    let high = side_at_least k h b in
    let y = refined_coordinate F w h k p q in
    let z = refined_coordinate G W H m p2 q2 in
    let more : z ≡ refined_coordinate F w h (m + k) p2 q2 =
    λ t. rounded (spline (steps_more refinement m k F t) (side_more m k w t) (side_more m k h t) 1024 p2 q2) 37748736 in
    let there : OnGrid 1024 (side_after m W) (side_after m H) p2 q2 =
    (omega (arith, place2.0, side_more m k w), omega (arith, place2.1, side_more m k h)) in
    subst (λ (x : ℤ). 2 * nat_abs (y -ℤ x) ≤ m + 2) more
    (omega (
      arith,
      near_both G W H 0 m p q p2 q2 y z (omega (arith, e)) (omega (arith, f))
          (point_distance 0 G W H 1024 p q (lit< tt) wide high place)
          (point_distance m G W H 1024 p2 q2 (lit< tt) wide high there),
    ))

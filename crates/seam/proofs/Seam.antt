-- The points of a seam: both are near the exact spline of the starting net at the same place, so they are near each
-- other.
use mathlib.Core.Path.{◌≡◌, sym, ap, subst, ◌∙◌}
use mathlib.Core.List.{List}
use mathlib.Core.Logic.{◌↔◌}
use Prim.Native.Nat.{ℕ, ◌+◌, ◌-◌, ◌*◌, ◌^◌, ◌≤◌, ◌<◌}
use native.Mathlib.Nat.{eq_of_mul-eq-mul_right}
use native.Mathlib.Decide.{dec_le}
use native.Mathlib.Omega.{arith}
use lib.IntN.{ℤ, nat_abs, ◌-ℤ◌}
use lib.ListN.{length}
use lib.Pow.{pow-add}
use Rattle.exact.proofs.Order.{distance_sym}
use Rattle.net.specs.Net.{field, number}
use Rattle.places.specs.Places.{OnGrid}
use Rattle.places.proofs.EdgeCounts.{on_grid_scaled}
use Rattle.spline.specs.Shares.{apart}
use Rattle.subdivision.specs.Refinement.{side_after}
use Rattle.bounds.specs.DemandThree.{fine_edge, refined_coordinate}
use Rattle.bounds.proofs.SamePlaces.{near_both, near_more}
use Rattle.steps.proofs.Sides.{some_cells}
use Rattle.refine.proofs.Refinable.{refine_accepted}
use Rattle.refined_points.specs.Answers.{refined_surface_point}
use Rattle.refined_points.specs.DemandThree.{Claimed}
use Rattle.refined_points.proofs.EdgeCounts.{side_same}
use Rattle.refined_points.proofs.RefinedPoints.{refined_answer, refined_number_lem, refined_points}
use Rattle.seam.specs.Seam.{SamePlace, SeamClaimed, Seam}
use Rattle.seam.specs.Promises.{SeamByDepths}

-- what holds of a place at every multiple of its edge count holds of the same place after l steps
pub same_place : (P : ℕ → ℕ → ℕ → Type 0) →
    ((c : ℕ) → 0 < c → (D p q : ℕ) → P D p q ↔ P (c * D) (c * p) (c * q)) →
    (k l p q p2 q2 : ℕ) → SamePlace k l p q p2 q2 → P (fine_edge k) p q → P (fine_edge l) p2 q2
same_place P scaled k l p q p2 q2 same at =
    let edges : 2 ^ l * fine_edge k ≡ 2 ^ k * fine_edge l = omega arith in
    let across : 2 ^ l * p ≡ 2 ^ k * p2 = omega (arith, same.0) in
    let up : 2 ^ l * q ≡ 2 ^ k * q2 = omega (arith, same.1) in
    (scaled (2 ^ k) (some_cells k) (fine_edge l) p2 q2).1
    (subst (λ (n : ℕ × ℕ × ℕ). P n.0 n.1 n.2) (λ t. (edges t, across t, up t))
    ((scaled (2 ^ l) (some_cells l) (fine_edge k) p q).0 at))

-- it is a place of the grid after l steps
pub other_grid : (w h k l p q p2 q2 : ℕ) → 1 ≤ w → 1 ≤ h → SamePlace k l p q p2 q2 →
    OnGrid 1024 (side_after k w) (side_after k h) p q → OnGrid 1024 (side_after l w) (side_after l h) p2 q2
other_grid w h k l p q p2 q2 wide high same place =
    let there = same_place (λ D p q. OnGrid D w h p q) (λ c some D p q. on_grid_scaled c some D w h p q) k l p q p2 q2
    same (omega (arith, place.0, side_same k w wide), omega (arith, place.1, side_same k h high)) in
    (omega (arith, there.0, side_same l w wide), omega (arith, there.1, side_same l h high))

-- for k = l it is the same place, with the same point
pub same_point : (net : List ℤ) (w h k l p q p2 q2 : ℕ) → SamePlace k l p q p2 q2 → k ≡ l →
    ◌≡◌ {A = ℕ × List ℤ} (0, refined_surface_point net w h k p q) (0, refined_surface_point net w h l p2 q2)
same_point net w h k l p q p2 q2 same e =
    let across : p ≡ p2 = eq_of_mul-eq-mul_right (2 ^ l) (some_cells l) p p2 (same.0 ∙ (λ t. p2 * 2 ^ e t)) in
    let up : q ≡ q2 = eq_of_mul-eq-mul_right (2 ^ l) (some_cells l) q q2 (same.1 ∙ (λ t. q2 * 2 ^ e t)) in
    λ t. (0, refined_surface_point net w h (e t) (across t) (up t))

-- demand 3 twice, at the same place
pub seam_claimed : (net : List ℤ) (w h k l p q p2 q2 : ℕ) {a b : ℕ × List ℤ} → SamePlace k l p q p2 q2 →
    Claimed net w h k p q a → Claimed net w h l p2 q2 b → (k ≡ l → a ≡ b) → SeamClaimed net w h k l p q p2 q2 a b
seam_claimed net w h k l p q p2 q2 {a} {b} same first second equal =
    record {
      first = first;
      second = second;
      distance =
          λ x c. near_both (field net w x) w h k l p q p2 q2 (number a.1 x) (number b.1 x) same.0 same.1
          (first.near x c) (second.near x c);
      equal = equal;
    }

pub seam : Seam
seam net w h k l out scratch out2 scratch2 e e2 p q p2 q2 place same =
    let d = (refine_accepted net w h k (length out) (length scratch) e).depth in
    let place2 = other_grid w h k l p q p2 q2 (omega (arith, d.wide)) (omega (arith, d.high)) same place in
    seam_claimed net w h k l p q p2 q2 same (refined_points net w h k out scratch e p q place)
    (refined_points net w h l out2 scratch2 e2 p2 q2 place2)
    (λ f.
    sym (refined_answer net w h k out scratch e p q place)
    ∙ same_point net w h k l p q p2 q2 same f
    ∙ refined_answer net w h l out2 scratch2 e2 p2 q2 place2)

-- ---- by how many steps one half has more

-- the second half has m steps more
deeper : (net : List ℤ) (w h k m p q p2 q2 x : ℕ) → 2 ≤ w → 2 ≤ h → SamePlace k (m + k) p q p2 q2 →
    OnGrid 1024 (side_after k w) (side_after k h) p q →
    2 * nat_abs (refined_coordinate (field net w x) w h k p q -ℤ refined_coordinate (field net w x) w h (m + k) p2 q2) ≤ m + 2
deeper net w h k m p q p2 q2 x a b same place =
    let more : 2 ^ (m + k) ≡ 2 ^ m * 2 ^ k = pow-add 2 m k in
    let across : p * 2 ^ m ≡ p2 = eq_of_mul-eq-mul_right (2 ^ k) (some_cells k) (p * 2 ^ m) p2
    (omega (arith, same.0, ap (λ (n : ℕ). p * n) more)) in
    let up : q * 2 ^ m ≡ q2 = eq_of_mul-eq-mul_right (2 ^ k) (some_cells k) (q * 2 ^ m) q2
    (omega (arith, same.1, ap (λ (n : ℕ). q * n) more)) in
    near_more (field net w x) w h k m p q p2 q2 a b across up place
    (other_grid w h k (m + k) p q p2 q2 (omega (arith, a)) (omega (arith, b)) same place)

-- one of the two halves is the deeper
by_depths : (net : List ℤ) (w h k l p q p2 q2 x : ℕ) → 2 ≤ w → 2 ≤ h → SamePlace k l p q p2 q2 →
    OnGrid 1024 (side_after k w) (side_after k h) p q → OnGrid 1024 (side_after l w) (side_after l h) p2 q2 →
    2 * nat_abs (refined_coordinate (field net w x) w h k p q -ℤ refined_coordinate (field net w x) w h l p2 q2) ≤ apart k l + 2
by_depths net w h k l p q p2 q2 x a b same place place2 = go (dec_le k l)
  where
    first : ℕ → ℤ
    first n = refined_coordinate (field net w x) w h n p q

    second : ℕ → ℤ
    second n = refined_coordinate (field net w x) w h n p2 q2

    go : Dec (k ≤ l) → 2 * nat_abs (first k -ℤ second l) ≤ apart k l + 2
    go (yes c) =
        let sum : l - k + k ≡ l = omega (arith, c) in
        let near = subst (λ (n : ℕ). SamePlace k n p q p2 q2 → 2 * nat_abs (first k -ℤ second n) ≤ l - k + 2) sum
        (λ s. deeper net w h k (l - k) p q p2 q2 x a b s place) same in
        omega (arith, near, c)
    go (no c) =
        let sum : k - l + l ≡ k = omega (arith, c) in
        let near = subst (λ (n : ℕ). SamePlace l n p2 q2 p q → 2 * nat_abs (second l -ℤ first n) ≤ k - l + 2) sum
        (λ s. deeper net w h l (k - l) p2 q2 p q x a b s place2) (sym same.0, sym same.1) in
        omega (arith, near, c, distance_sym (first k) (second l))

pub seam_by_depths : SeamByDepths
seam_by_depths net w h k l out scratch out2 scratch2 e e2 p q p2 q2 place same x c =
    let d = (refine_accepted net w h k (length out) (length scratch) e).depth in
    let place2 = other_grid w h k l p q p2 q2 (omega (arith, d.wide)) (omega (arith, d.high)) same place in
    subst (λ (n : ℤ × ℤ). 2 * nat_abs (n.0 -ℤ n.1) ≤ apart k l + 2)
    (λ t. (
      refined_number_lem net w h k out scratch e p q place x c t,
      refined_number_lem net w h l out2 scratch2 e2 p2 q2 place2 x c t,
    ))
    (by_depths net w h k l p q p2 q2 x d.wide d.high same place place2)

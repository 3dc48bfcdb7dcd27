-- Exact refinement gives the same spline: one step, at every edge count and every place, and k steps.
use mathlib.Core.Path.{◌≡◌, refl, sym, ap, ◌∙◌}
use mathlib.Core.Bool.{Bool, true, false, cond}
use mathlib.Core.List.{[], ◌∷◌}
use Prim.Native.Nat.{ℕ, zero, suc, ◌+◌, ◌-◌, ◌*◌, ◌^◌, ◌≤◌, ◌<◌}
use native.Mathlib.Nat.{mul-one, pow-suc}
use native.Mathlib.Omega.{arith}
use lib.IntN.{ℤ, pos, ◌*ℤ◌}
use Rattle.exact.specs.WeightedSum.{weighted_sum}
use Rattle.exact.proofs.Integers.{one_times}
use Rattle.exact.proofs.Expressions.{Expr, var, lit, ◌⊕◌, ◌⊗◌, value, identity}
use Rattle.net.specs.Net.{Index, one, two, three, Triangle, triangle_at, OfNet, corner, Field, same}
use Rattle.places.specs.Places.{o123, OnGrid, chosen}
use Rattle.places.proofs.Cells.{chosen_lies}
use Rattle.triangles.specs.BezierPoints.{Controls, controls_of, control_list}
use Rattle.triangles.proofs.CornerForm.{in_form, summed}
use Rattle.spline.specs.Spline.{spline}
use Rattle.spline.specs.Shares.{shares_in, square, control_weights}
use Rattle.spline.proofs.ControlWeights.{nine, square_e, by_shares, by_shares_e, by_shares_lem}
use Rattle.spline.proofs.Located.{Located, located}
use Rattle.spline.proofs.AnyTriangle.{environment, chosen_of_net, spline_by_shares}
use Rattle.subdivision.specs.Refinement.{rule_by, exact_refinement, exact_refinements, refined_side, side_after}
use Rattle.subdivision.specs.WeightTable.{weights, weights_pass}
use Rattle.subdivision.specs.Promises.{SameSpline, SameSplines}
use Rattle.subdivision.proofs.Tables.{rule_e, our_rule, our_table}
use Rattle.subdivision.proofs.Means.{child_mean}
use Rattle.subdivision.proofs.Children.{Child, at, middle, child_down, child, child_of_net, source, kind_between, begin_between, end_between, shares_from, in_child}

-- ---- the control values of a child, times 12, from those of its triangle

abbrev child_controls : Bool → Child → Controls → Controls
child_controls down k c P =
    (let X = (source k P).0 in
    let Y = (source k P).1 in
    rule_by (kind_between down X Y) (c (begin_between X Y)) (c (end_between X Y)))

child_controls_lem : (F : Field) (t : Triangle) (k : Child) (P l : Index) →
    controls_of (exact_refinement F) (child t k) P l ≡ child_controls t.down k (controls_of F t) P l
child_controls_lem F t k P l =
    let X = (source k P).0 in
    let Y = (source k P).1 in
    (λ i. sym (our_table F) i (corner (child t k) P) l)
    ∙ child_mean weights weights_pass F t k P l
    ∙ our_rule (kind_between t.down X Y) (F (corner t (begin_between X Y))) (F (corner t (end_between X Y))) l

child_is_down : (t : Triangle) (k : Child) → (child t k).down ≡ child_down t.down k
child_is_down t k = by t.down k
  where
    by : (down : Bool) (k : Child) → (child (triangle_at t.column t.row down) k).down ≡ child_down down k
    by false (at one) = refl
    by false (at two) = refl
    by false (at three) = refl
    by false middle = refl
    by true (at one) = refl
    by true (at two) = refl
    by true (at three) = refl
    by true middle = refl

-- ---- the identities: a child's value with the refined control values is 3 times the triangle's

-- variables 0 to 2 are the shares of the child's corners, 3 to 5 the squares of their differences, and 6 to 14 the
-- triangle's control values
abbrev child_e : Bool → Child → Expr
child_e down k =
    summed (by_shares_e (var 0) (var 1) (var 2) (var 3) (var 4) (var 5))
    (in_form (child_down down k)
    (λ P l.
    (let X = (source k P).0 in
    let Y = (source k P).1 in
    rule_e (nine 6 (begin_between X Y)) (nine 6 (end_between X Y)) (kind_between down X Y) l))
    o123)

-- the shares of the triangle and the squares of their differences, from the child's
abbrev share_e : Child → Index → Expr
share_e (at X) P = cond (same P X) (nine 0 one P ⊕ (var 0 ⊕ var 1 ⊕ var 2)) (nine 0 one P)
share_e middle one = var 0 ⊕ var 1
share_e middle two = var 0 ⊕ var 2
share_e middle three = var 1 ⊕ var 2

abbrev difference_e : Child → Index → Expr
difference_e (at one) one = square_e (var 0 ⊕ var 0 ⊕ var 2)
difference_e (at one) two = square_e (var 0 ⊕ var 0 ⊕ var 1)
difference_e (at one) three = var 5
difference_e (at two) one = lit (pos 0)
difference_e (at two) two = var 4
difference_e (at two) three = square_e (var 0 ⊕ var 1 ⊕ var 1)
difference_e (at three) one = var 3
difference_e (at three) two = lit (pos 0)
difference_e (at three) three = lit (pos 0)
difference_e middle one = var 5
difference_e middle two = var 4
difference_e middle three = var 3

abbrev parent_e : Bool → Child → Expr
parent_e down k =
    lit (pos 3)
    ⊗ summed
    (by_shares_e (share_e k one) (share_e k two) (share_e k three) (difference_e k one) (difference_e k two)
    (difference_e k three))
    (in_form down (nine 6) o123)

squares : (m n : ℕ) → m ≡ n → square m ≡ square n
squares m n e = ap square e

module _ (s : Index → ℕ) (c : Controls) where
  abbrev S : Child → Index → ℕ
  S k = shares_from k s

  abbrev difference : Child → Index → ℤ
  difference k P = value (environment s c) (difference_e k P)

  differences : (k : Child) →
      (square (S k one - S k two) ≡ difference k one)
      × (square (S k one - S k three) ≡ difference k two)
      × (square (S k two - S k three) ≡ difference k three)
  differences (at one) = (
    squares (S (at one) one - S (at one) two) (s one + s one + s three) (omega arith),
    squares (S (at one) one - S (at one) three) (s one + s one + s two) (omega arith),
    refl,
  )
  differences (at two) = (
    squares (S (at two) one - S (at two) two) 0 (omega arith),
    refl,
    squares (S (at two) two - S (at two) three) (s one + s two + s two) (omega arith),
  )
  differences (at three) = (
    refl,
    squares (S (at three) one - S (at three) three) 0 (omega arith),
    squares
        (S (at three) two - S (at three) three) 0 (omega arith),
  )
  differences middle = (
    squares (S middle one - S middle two) (s two - s three) (omega arith),
    squares (S middle one - S middle three) (s one - s three) (omega arith),
    squares (S middle two - S middle three) (s one - s two) (omega arith),
  )

  -- one identity for each child of an up and of a down triangle; the order of the shares does not matter. Each is a
  -- lemma of its own: as clauses of one proof they are checked three times as long.
  abbrev SameValue : Bool → Child → Type 0
  SameValue down k =
      weighted_sum
      (by_shares (s one) (s two) (s three) (square (s one - s two)) (square (s one - s three))
      (square (s two - s three)))
      (in_form (child_down down k) (child_controls down k c) o123)
      ≡ pos 3
      *ℤ weighted_sum
      (by_shares (S k one) (S k two) (S k three) (difference k one) (difference k two) (difference k three))
      (in_form down c o123)

  up_one : SameValue false (at one)
  unfolding weighted_sum
  up_one = identity (child_e false (at one)) (parent_e false (at one)) (environment s c) refl

  up_two : SameValue false (at two)
  unfolding weighted_sum
  up_two = identity (child_e false (at two)) (parent_e false (at two)) (environment s c) refl

  up_three : SameValue false (at three)
  unfolding weighted_sum
  up_three = identity (child_e false (at three)) (parent_e false (at three)) (environment s c) refl

  up_middle : SameValue false middle
  unfolding weighted_sum
  up_middle = identity (child_e false middle) (parent_e false middle) (environment s c) refl

  down_one : SameValue true (at one)
  unfolding weighted_sum
  down_one = identity (child_e true (at one)) (parent_e true (at one)) (environment s c) refl

  down_two : SameValue true (at two)
  unfolding weighted_sum
  down_two = identity (child_e true (at two)) (parent_e true (at two)) (environment s c) refl

  down_three : SameValue true (at three)
  unfolding weighted_sum
  down_three = identity (child_e true (at three)) (parent_e true (at three)) (environment s c) refl

  down_middle : SameValue true middle
  unfolding weighted_sum
  down_middle = identity (child_e true middle) (parent_e true middle) (environment s c) refl

  same_value : (down : Bool) (k : Child) → SameValue down k
  same_value false (at one) = up_one
  same_value false (at two) = up_two
  same_value false (at three) = up_three
  same_value false middle = up_middle
  same_value true (at one) = down_one
  same_value true (at two) = down_two
  same_value true (at three) = down_three
  same_value true middle = down_middle

  child_value : (down : Bool) (k : Child) →
      weighted_sum (control_weights (child_down down k) s) (control_list (child_controls down k c))
      ≡ pos 3 *ℤ weighted_sum (control_weights down (S k)) (control_list c)
  child_value down k =
      let d = differences k in
      by_shares_lem (child_down down k) s (child_controls down k c)
      ∙ same_value down k
      ∙ (λ t.
      pos 3
      *ℤ weighted_sum
      (by_shares (S k one) (S k two) (S k three) (sym d.0 t) (sym d.1 t) (sym d.2 t))
      (in_form down c o123))
      ∙ ap (λ (z : ℤ). pos 3 *ℤ z) (sym (by_shares_lem down (S k) c))

-- ---- one step

-- in a triangle that has the place
step_in : (F : Field) (w h D p q : ℕ) (t : Triangle) (S : Index → ℕ) → 0 < D → OfNet w h t → Located (2 * D) p q t S →
    spline (exact_refinement F) (refined_side w) (refined_side h) D p q ≡ pos 3 *ℤ spline F w h (2 * D) p q
step_in F w h D p q t S d g l =
    let n = in_child D p q t S l in
    let k = n.which in
    let s = n.shares in
    let c = controls_of F t in
    spline_by_shares (exact_refinement F) (refined_side w) (refined_side h) D p q (child t k) s d (child_of_net w h t k g)
    n.lies
    ∙ (λ i. weighted_sum (control_weights (child_is_down t k i) s) (control_list (λ P l. child_controls_lem F t k P l i)))
    ∙ child_value s c t.down k
    ∙ (λ i. pos 3 *ℤ weighted_sum (control_weights t.down (λ P. n.from P i)) (control_list c))
    ∙ ap (λ (z : ℤ). pos 3 *ℤ z) (sym (spline_by_shares F w h (2 * D) p q t S (omega (arith, d)) g l))

-- a place of the refined grid is a place of the grid at twice the edge count
coarser : (D n r : ℕ) → 2 ≤ n → r ≤ D * (refined_side n - 1) → r ≤ 2 * D * (n - 1)
coarser D n r k l =
    let twice : refined_side n - 1 ≡ 2 * (n - 1) = omega (arith, k) in
    omega (arith, l, ap (λ (m : ℕ). D * m) twice)

coarser_grid : (D w h p q : ℕ) → 2 ≤ w → 2 ≤ h → OnGrid D (refined_side w) (refined_side h) p q → OnGrid (2 * D) w h p q
coarser_grid D w h p q a b g = (coarser D w p a g.0, coarser D h q b g.1)

pub same_spline : SameSpline
same_spline F w h D p q d a b g =
    let t = chosen (2 * D) w h p q in
    step_in F w h D p q t (shares_in (2 * D) p q t) d (chosen_of_net (2 * D) w h p q a b)
    (located (2 * D) p q t (chosen_lies (2 * D) w h p q (omega (arith, d)) a b (coarser_grid D w h p q a b g)))

-- ---- k steps

pub side_at_least : (k n : ℕ) → 2 ≤ n → 2 ≤ side_after k n
side_at_least zero n h = h
side_at_least (suc k) n h = let l = side_at_least k n h in omega (arith, l)

pub same_splines : SameSplines
same_splines zero F w h D p q d a b g = λ t. sym (one_times (spline F w h (sym (mul-one D) t) p q)) t
same_splines (suc k) F w h D p q d a b g =
    let u = side_after k w in
    let v = side_after k h in
    let a' = side_at_least k w a in
    let b' = side_at_least k h b in
    let edges : 2 * D * 2 ^ k ≡ D * 2 ^ suc k = omega (arith, ap (λ (n : ℕ). D * n) (pow-suc 2 k)) in
    same_spline (exact_refinements k F) u v D p q d a' b' g
    ∙ ap (λ (z : ℤ). pos 3 *ℤ z)
    (same_splines k F w h (2 * D) p q (omega (arith, d)) a b (coarser_grid D u v p q a' b' g))
    ∙ identity (lit (pos 3) ⊗ (var 0 ⊗ var 1)) (var 0 ⊗ lit (pos 3) ⊗ var 1)
    (pos (3 ^ k) ∷ spline F w h (2 * D * 2 ^ k) p q ∷ []) refl
    ∙ (λ t. pos (sym (pow-suc 3 k) t) *ℤ spline F w h (edges t) p q)

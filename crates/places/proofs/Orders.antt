-- The order of three shares: which order it is by comparisons, and that it is document 01's: from the largest to the
-- smallest, equals in corner order.
use mathlib.Core.Path.{◌≡◌, refl, ap, subst, ◌∙◌}
use mathlib.Core.Bool.{Bool, true, false}
use Prim.Native.Nat.{ℕ, ◌≤◌, ◌<◌}
use native.Mathlib.Omega.{arith}
use lib.Dec.{leb, lit<}
use borrow.Author.Tests.{le-leb, lt-leb, leb-true, leb-false}
use Rattle.net.specs.Net.{Index, one, two, three, rank}
use Rattle.net.proofs.Faults.{cond_first, cond_true, cond_false}
use Rattle.places.specs.Places.{Order, o123, o132, o213, o231, o312, o321, corner_p, corner_q, corner_t, order_of, gap_a, gap_b, gap_g}
use Rattle.places.specs.Located.{ahead_of, InOrder}

module _ (a : Index → ℕ) where
  -- the comparisons of `order_of`, by corner
  at_least : {P Q : Index} → a Q ≤ a P → leb (a Q) (a P) ≡ true
  at_least {P} {Q} h = le-leb (a Q) (a P) h

  below : {P Q : Index} → a P < a Q → leb (a Q) (a P) ≡ false
  below {P} {Q} h = lt-leb (a Q) (a P) h

  pub is_123 : a two ≤ a one → a three ≤ a two → o123 ≡ order_of a
  is_123 p q = cond_first _ _ _ (at_least p) (cond_true _ _ _ (at_least q))

  pub is_132 : a two ≤ a one → a two < a three → a three ≤ a one → o132 ≡ order_of a
  is_132 p q r = cond_first _ _ _ (at_least p) (cond_false _ _ _ (below q) (cond_true _ _ _ (at_least r)))

  pub is_312 : a two ≤ a one → a two < a three → a one < a three → o312 ≡ order_of a
  is_312 p q r = cond_first _ _ _ (at_least p) (cond_false _ _ _ (below q) (cond_false _ _ _ (below r) refl))

  pub is_213 : a one < a two → a three ≤ a one → o213 ≡ order_of a
  is_213 p q = cond_false _ _ _ (below p) (cond_true _ _ _ (at_least q))

  pub is_231 : a one < a two → a one < a three → a three ≤ a two → o231 ≡ order_of a
  is_231 p q r = cond_false _ _ _ (below p) (cond_false _ _ _ (below q) (cond_true _ _ _ (at_least r)))

  pub is_321 : a one < a two → a one < a three → a two < a three → o321 ≡ order_of a
  is_321 p q r = cond_false _ _ _ (below p) (cond_false _ _ _ (below q) (cond_false _ _ _ (below r) refl))

  -- what the code makes of an order that it found
  pub ordered : (o : Order) → o ≡ order_of a → {P Q T A B G : ℕ} {ahead : Bool} →
      (P ≡ rank (corner_p o)) × (Q ≡ rank (corner_q o)) × (T ≡ rank (corner_t o)) × (ahead ≡ ahead_of o)
      × (A ≡ gap_a o a) × (B ≡ gap_b o a) × (G ≡ gap_g o a) →
      InOrder (order_of a) a P Q T ahead A B G
  ordered o e f =
      record {
        first_corner = f.0 ∙ ap (λ (k : Order). rank (corner_p k)) e;
        second_corner = f.1 ∙ ap (λ (k : Order). rank (corner_q k)) e;
        last_corner = f.2 ∙ ap (λ (k : Order). rank (corner_t k)) e;
        direction = f.3 ∙ ap ahead_of e;
        first = f.4 ∙ ap (λ (k : Order). gap_a k a) e;
        second = f.5 ∙ ap (λ (k : Order). gap_b k a) e;
        last = f.6 ∙ ap (λ (k : Order). gap_g k a) e;
      }

  -- 'a ≥ b ≥ d, equals in corner order'
  unfoldable pub Sorted : Order → Type 0
  Sorted o =
      (a (corner_q o) ≤ a (corner_p o))
      × (a (corner_t o) ≤ a (corner_q o))
      × (a (corner_p o) ≡ a (corner_q o) → rank (corner_p o) < rank (corner_q o))
      × (a (corner_q o) ≡ a (corner_t o) → rank (corner_q o) < rank (corner_t o))

  pub in_order_lem : Sorted (order_of a)
  unfolding Sorted
  in_order_lem = go (leb (a two) (a one)) refl (leb (a three) (a two)) refl (leb (a three) (a one)) refl
    where
      go : (x : Bool) → leb (a two) (a one) ≡ x → (y : Bool) → leb (a three) (a two) ≡ y → (z : Bool) →
          leb (a three) (a one) ≡ z → Sorted (order_of a)
      go true p true q z r =
          let p' = leb-true (a two) (a one) p in
          let q' = leb-true (a three) (a two) q in
          subst Sorted (is_123 p' q') (p', q', (λ e. lit< tt), (λ e. lit< tt))
      go true p false q true r =
          let p' = leb-true (a two) (a one) p in
          let q' = leb-false (a three) (a two) q in
          let r' = leb-true (a three) (a one) r in
          subst Sorted (is_132 p' q' r') (r', omega (arith, q'), (λ e. lit< tt), (λ e. absurd (omega (arith, e, q'))))
      go true p false q false r =
          let p' = leb-true (a two) (a one) p in
          let q' = leb-false (a three) (a two) q in
          let r' = leb-false (a three) (a one) r in
          subst Sorted (is_312 p' q' r') (omega (arith, r'), p', (λ e. absurd (omega (arith, e, r'))), (λ e. lit< tt))
      go false p y q true r =
          let p' = leb-false (a two) (a one) p in
          let r' = leb-true (a three) (a one) r in
          subst Sorted (is_213 p' r') (omega (arith, p'), r', (λ e. absurd (omega (arith, e, p'))), (λ e. lit< tt))
      go false p true q false r =
          let p' = leb-false (a two) (a one) p in
          let q' = leb-true (a three) (a two) q in
          let r' = leb-false (a three) (a one) r in
          subst Sorted (is_231 p' r' q') (q', omega (arith, r'), (λ e. lit< tt), (λ e. absurd (omega (arith, e, r'))))
      go false p false q false r =
          let p' = leb-false (a two) (a one) p in
          let q' = leb-false (a three) (a two) q in
          let r' = leb-false (a three) (a one) r in
          subst Sorted (is_321 p' r' q') (
            omega (arith, q'),
            omega (arith, p'),
            (λ e. absurd (omega (arith, e, q'))),
            (λ e. absurd (omega (arith, e, p'))),
          )

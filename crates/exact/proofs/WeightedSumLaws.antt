-- The laws of weighted sums: linear in the values, in the range of the values that count, near where the values are
-- near, and the same whatever stands at a weight of 0. Callers cite these and do not unfold `weighted_sum`. `Forall₂`
-- (mathlib) pairs weights with values, or values with values, term by term.
use mathlib.Core.Path.{◌≡◌, refl, sym, ◌∙◌, ap, subst}
use mathlib.Core.Logic.{◌⊎◌, inr, ⊎_elim}
use mathlib.Core.List.{List, [], ◌∷◌, map, zip_with, Forall₂}
use Prim.Native.Nat.{ℕ, zero, suc, ◌+◌, ◌*◌, ◌≤◌, ◌<◌, zero-le}
use native.Mathlib.Nat.{mul-le-mul, le_refl, le_trans}
use native.Mathlib.Numerals.{add-one}
use native.Mathlib.Omega.{arith}
use lib.ListN.{length, get_or, drop, drop_of_length-le}
use lib.Seq.{drop-cons}
use lib.IntN.{ℤ, pos, neg_ℤ, nat_abs, ◌+ℤ◌, ◌-ℤ◌, ◌*ℤ◌, +ℤ_assoc, neg_ℤ-+ℤ, zero-*ℤ, *ℤ-zero, *ℤ_comm}
use lib.Signed.{◌≤ℤ◌, ≤ℤ_refl}
use Rattle.exact.specs.WeightedSum.{weighted_sum, total, sizes, Within}
use Rattle.exact.proofs.Parts.{integers, sum_parts, size_parts}
use Rattle.exact.proofs.Integers.{*ℤ-+ℤ, times_neg}
use Rattle.exact.proofs.Order.{+ℤ-mono, *ℤ-mono, ≡-≤ℤ, size_sum, size_product}
use Rattle.exact.proofs.Expressions.{Expr, var, lit, ◌⊕◌, ◌⊖◌, ◌⊗◌, value, identity}

-- ---- linear in the values

-- f is linear in its two arguments together, and so is every weighted sum of what it gives
linear : (f : ℤ → ℤ → ℤ) → f (pos 0) (pos 0) ≡ pos 0 →
    ((w v u x y : ℤ) → w *ℤ f v u +ℤ f x y ≡ f (w *ℤ v +ℤ x) (w *ℤ u +ℤ y)) →
    (ws vs us : List ℤ) → length vs ≡ length us →
    weighted_sum ws (zip_with f vs us) ≡ f (weighted_sum ws vs) (weighted_sum ws us)
unfolding weighted_sum zip_with
linear f z s [] vs us e = sym z
linear f z s (w ∷ ws) [] [] e = sym z
linear f z s (w ∷ ws) [] (u ∷ us) e = absurd (omega arith)
linear f z s (w ∷ ws) (v ∷ vs) [] e = absurd (omega arith)
linear f z s (w ∷ ws) (v ∷ vs) (u ∷ us) e =
    ap (λ (x : ℤ). w *ℤ f v u +ℤ x) (linear f z s ws vs us (omega arith))
    ∙ s w v u (weighted_sum ws vs) (weighted_sum ws us)

-- a term of each list, over the weight, the two values and the two sums that follow: what `linear` asks of a sum and of
-- a difference
abbrev first : Expr
first = var 0 ⊗ var 1 ⊕ var 3

abbrev second : Expr
second = var 0 ⊗ var 2 ⊕ var 4

pub sum_of_values : (ws vs us : List ℤ) → length vs ≡ length us →
    weighted_sum ws (zip_with ◌+ℤ◌ vs us) ≡ weighted_sum ws vs +ℤ weighted_sum ws us
sum_of_values =
    linear ◌+ℤ◌ refl (λ w v u x y. identity (var 0 ⊗ (var 1 ⊕ var 2) ⊕ (var 3 ⊕ var 4)) (first ⊕ second)
    (w ∷ v ∷ u ∷ x ∷ y ∷ []) refl)

pub difference_of_values : (ws vs us : List ℤ) → length vs ≡ length us →
    weighted_sum ws (zip_with ◌-ℤ◌ vs us) ≡ weighted_sum ws vs -ℤ weighted_sum ws us
difference_of_values =
    linear ◌-ℤ◌ refl (λ w v u x y. identity (var 0 ⊗ (var 1 ⊖ var 2) ⊕ (var 3 ⊖ var 4)) (first ⊖ second)
    (w ∷ v ∷ u ∷ x ∷ y ∷ []) refl)

pub multiple_of_values : (c : ℤ) (ws vs : List ℤ) → weighted_sum ws (map (λ (v : ℤ). c *ℤ v) vs) ≡ c *ℤ weighted_sum ws vs
unfolding weighted_sum
multiple_of_values c [] vs = sym (*ℤ-zero c)
multiple_of_values c (w ∷ ws) [] = sym (*ℤ-zero c)
multiple_of_values c (w ∷ ws) (v ∷ vs) =
    ap (λ (x : ℤ). w *ℤ (c *ℤ v) +ℤ x) (multiple_of_values c ws vs)
    ∙ identity (var 0 ⊗ (var 1 ⊗ var 2) ⊕ var 1 ⊗ var 3) (var 1 ⊗ (var 0 ⊗ var 2 ⊕ var 3))
    (w ∷ c ∷ v ∷ weighted_sum ws vs ∷ []) refl

pub negation_of_values : (ws vs : List ℤ) → weighted_sum ws (map neg_ℤ vs) ≡ neg_ℤ (weighted_sum ws vs)
unfolding weighted_sum
negation_of_values [] vs = refl
negation_of_values (w ∷ ws) [] = refl
negation_of_values (w ∷ ws) (v ∷ vs) =
    (λ t. times_neg w v t +ℤ negation_of_values ws vs t) ∙ sym (neg_ℤ-+ℤ (w *ℤ v) (weighted_sum ws vs))

-- weights and values are alike, so what holds of the values holds of the weights too
pub weighted_sum_sym : (ws vs : List ℤ) → weighted_sum ws vs ≡ weighted_sum vs ws
unfolding weighted_sum
weighted_sum_sym [] [] = refl
weighted_sum_sym [] (v ∷ vs) = refl
weighted_sum_sym (w ∷ ws) [] = refl
weighted_sum_sym (w ∷ ws) (v ∷ vs) =
    ap (λ (x : ℤ). w *ℤ v +ℤ x) (weighted_sum_sym ws vs) ∙ ap (λ (x : ℤ). x +ℤ weighted_sum vs ws) (*ℤ_comm w v)

-- ---- range

-- the weight is not negative, and where it is not 0, the value lies from m to n
abbrev pub InRange : ℤ → ℤ → ℤ → ℤ → Type 0
InRange m n w v = (pos 0 ≤ℤ w) × ((w ≡ pos 0) ⊎ ((m ≤ℤ v) × (v ≤ℤ n)))

-- one term
term : {m n w v : ℤ} → InRange m n w v → ((m *ℤ w) ≤ℤ (w *ℤ v)) × ((w *ℤ v) ≤ℤ (n *ℤ w))
term {m} {n} {w} {v} h = ⊎_elim absent present h.1
  where
    vanishes : w ≡ pos 0 → (x : ℤ) → x *ℤ w ≡ w *ℤ v
    vanishes e x = *ℤ_comm x w ∙ ap (λ (y : ℤ). y *ℤ x) e ∙ zero-*ℤ x ∙ sym (zero-*ℤ v) ∙ ap (λ (y : ℤ). y *ℤ v) (sym e)

    absent : w ≡ pos 0 → ((m *ℤ w) ≤ℤ (w *ℤ v)) × ((w *ℤ v) ≤ℤ (n *ℤ w))
    absent e = (≡-≤ℤ (vanishes e m), ≡-≤ℤ (sym (vanishes e n)))

    present : (m ≤ℤ v) × (v ≤ℤ n) → ((m *ℤ w) ≤ℤ (w *ℤ v)) × ((w *ℤ v) ≤ℤ (n *ℤ w))
    present r = (
      subst (λ (x : ℤ). x ≤ℤ (w *ℤ v)) (*ℤ_comm w m) (*ℤ-mono w h.0 r.0),
      subst (λ (x : ℤ). (w *ℤ v) ≤ℤ x) (*ℤ_comm w n) (*ℤ-mono w h.0 r.1),
    )

-- the sum lies in the range of the values that count, times the sum of the weights
pub sum_range : {m n : ℤ} {ws vs : List ℤ} → Forall₂ (InRange m n) ws vs →
    ((m *ℤ total ws) ≤ℤ weighted_sum ws vs) × (weighted_sum ws vs ≤ℤ (n *ℤ total ws))
unfolding weighted_sum total
sum_range {m} {n} Forall₂.nil = (≡-≤ℤ (*ℤ-zero m), ≡-≤ℤ (sym (*ℤ-zero n)))
sum_range {m} {n} (Forall₂.cons {a = w} {b = v} {l₁ = ws} {l₂ = vs} h t) =
    let r = sum_range t in (
      subst (λ (x : ℤ). x ≤ℤ (w *ℤ v +ℤ weighted_sum ws vs)) (sym (*ℤ-+ℤ m w (total ws))) (+ℤ-mono (term h).0 r.0),
      subst (λ (x : ℤ). (w *ℤ v +ℤ weighted_sum ws vs) ≤ℤ x) (sym (*ℤ-+ℤ n w (total ws))) (+ℤ-mono (term h).1 r.1),
    )

-- ---- distance and size

abbrev pub NotNegative : List ℤ → Type 0
NotNegative [] = Unit {0}
NotNegative (w ∷ ws) = (pos 0 ≤ℤ w) × NotNegative ws

-- values that all lie from m to n are in range at weights that are not negative
abbrev pub AllBetween : ℤ → ℤ → List ℤ → Type 0
AllBetween m n [] = Unit {0}
AllBetween m n (v ∷ vs) = ((m ≤ℤ v) × (v ≤ℤ n)) × AllBetween m n vs

pub all_in_range : (m n : ℤ) (ws vs : List ℤ) → length ws ≡ length vs → NotNegative ws → AllBetween m n vs →
    Forall₂ (InRange m n) ws vs
all_in_range m n [] [] e h b = Forall₂.nil
all_in_range m n [] (v ∷ vs) e h b = absurd (omega arith)
all_in_range m n (w ∷ ws) [] e h b = absurd (omega arith)
all_in_range m n (w ∷ ws) (v ∷ vs) e h b =
    Forall₂.cons (h.0, inr b.0) (all_in_range m n ws vs (omega arith) h.1 b.1)

-- the two values differ by at most e
abbrev pub Near : ℕ → ℤ → ℤ → Type 0
Near e v u = nat_abs (v -ℤ u) ≤ e

total_not_negative : (ws : List ℤ) → NotNegative ws → pos 0 ≤ℤ total ws
unfolding total
total_not_negative [] h = ≤ℤ_refl (pos 0)
total_not_negative (w ∷ ws) h = +ℤ-mono h.0 (total_not_negative ws h.1)

-- the sizes of weights that are not negative add up
total_size : (w : ℤ) (ws : List ℤ) → NotNegative (w ∷ ws) → nat_abs (w +ℤ total ws) ≡ nat_abs w + nat_abs (total ws)
total_size w ws h =
    let rest : pos 0 ≤ℤ total ws = total_not_negative ws h.1 in
    omega (integers, size_parts w, size_parts (total ws), size_parts (w +ℤ total ws), sum_parts w (total ws))

-- values that differ by at most e everywhere have sums that differ by at most e times the sum of the weights
pub sum_distance : {e : ℕ} {vs us : List ℤ} (ws : List ℤ) → NotNegative ws → Forall₂ (Near e) vs us →
    nat_abs (weighted_sum ws vs -ℤ weighted_sum ws us) ≤ e * nat_abs (total ws)
unfolding weighted_sum total
sum_distance [] h d = zero-le
sum_distance (w ∷ ws) h Forall₂.nil = zero-le
sum_distance {e} (w ∷ ws) h (Forall₂.cons {a = v} {b = u} {l₁ = vs} {l₂ = us} d t) =
    let x = weighted_sum ws vs in
    let y = weighted_sum ws us in
    let apart = identity (first ⊖ second) (var 0 ⊗ (var 1 ⊖ var 2) ⊕ (var 3 ⊖ var 4)) (w ∷ v ∷ u ∷ x ∷ y ∷ []) refl in
    omega (
      arith,
      ap nat_abs apart,
      size_sum (w *ℤ (v -ℤ u)) (x -ℤ y),
      size_product w (v -ℤ u),
      mul-le-mul (le_refl (nat_abs w)) d,
      sum_distance ws h.1 t,
      ap (λ (n : ℕ). e * n) (total_size w ws h),
    )

-- each number is at most as large as the sizes of all, added up
pub sizes_within : (n : ℕ) (ws : List ℤ) → sizes ws ≤ n → Within n ws
sizes_within n [] h = tt
sizes_within n (w ∷ ws) h = (omega (arith, h), sizes_within n ws (omega (arith, h)))

-- a bound from the sizes of the weights, added up, and a bound for the values
pub sum_sizes : (n : ℕ) (ws vs : List ℤ) → Within n vs → nat_abs (weighted_sum ws vs) ≤ sizes ws * n
unfolding weighted_sum
sum_sizes n [] vs k = zero-le
sum_sizes n (w ∷ ws) [] k = zero-le
sum_sizes n (w ∷ ws) (v ∷ vs) k =
    omega (
      arith,
      size_sum (w *ℤ v) (weighted_sum ws vs),
      size_product w v,
      mul-le-mul (le_refl (nat_abs w)) k.0,
      sum_sizes n ws vs k.1,
    )

-- ---- a weighted sum as an expression of its values, whose variable i is the value at i

abbrev pub sum_from : List ℤ → ℕ → Expr
sum_from [] i = lit (pos 0)
sum_from (w ∷ ws) i = lit w ⊗ var i ⊕ sum_from ws (suc i)

pub sum_expression : (ws vs : List ℤ) (i : ℕ) → i + length ws ≤ length vs →
    weighted_sum ws (drop i vs) ≡ value vs (sum_from ws i)
unfolding weighted_sum
sum_expression [] vs i h = refl
sum_expression (w ∷ ws) vs i h =
    ap (weighted_sum (w ∷ ws)) (drop-cons vs i (pos 0) (omega (arith, h)))
    ∙ ap (λ (z : ℤ). w *ℤ get_or vs i (pos 0) +ℤ z) (sum_expression ws vs (suc i) (omega (arith, h)))

-- ---- a weight of 0 makes its value not matter

-- the sums are equal where, at each index, the weight is 0 or the values are equal
pub sum_same : (ws vs us : List ℤ) → length vs ≡ length us →
    ((i : ℕ) → (get_or ws i (pos 0) ≡ pos 0) ⊎ (get_or vs i (pos 0) ≡ get_or us i (pos 0))) →
    weighted_sum ws vs ≡ weighted_sum ws us
unfolding weighted_sum
sum_same [] vs us e h = refl
sum_same (w ∷ ws) [] [] e h = refl
sum_same (w ∷ ws) [] (u ∷ us) e h = absurd (omega arith)
sum_same (w ∷ ws) (v ∷ vs) [] e h = absurd (omega arith)
sum_same (w ∷ ws) (v ∷ vs) (u ∷ us) e h =
    ap (λ (x : ℤ). x +ℤ weighted_sum ws vs)
    (⊎_elim (λ z. none z v ∙ sym (none z u)) (λ q. ap (λ (x : ℤ). w *ℤ x) q) (h zero))
    ∙ ap (λ (x : ℤ). w *ℤ u +ℤ x) (sum_same ws vs us (omega arith) (λ i. h (suc i)))
  where
    none : w ≡ pos 0 → (x : ℤ) → w *ℤ x ≡ pos 0
    none z x = ap (λ (y : ℤ). y *ℤ x) z ∙ zero-*ℤ x

-- ---- for a loop that adds term by term

-- s with the term at i added, and the rest after i, is s with the rest from i on
pub sum_step : (s : ℤ) (ws vs : List ℤ) (i : ℕ) → i < length ws → i < length vs →
    (s +ℤ get_or ws i (pos 0) *ℤ get_or vs i (pos 0)) +ℤ weighted_sum (drop (i + 1) ws) (drop (i + 1) vs)
    ≡ s +ℤ weighted_sum (drop i ws) (drop i vs)
unfolding weighted_sum
sum_step s ws vs i h k =
    rw (add-one, drop-cons ws i (pos 0), drop-cons vs i (pos 0))
    (+ℤ_assoc s (get_or ws i (pos 0) *ℤ get_or vs i (pos 0)) (weighted_sum (drop (suc i) ws) (drop (suc i) vs)))

-- after the last term nothing is left
pub sum_end : (ws vs : List ℤ) (i : ℕ) → length ws ≤ i → weighted_sum (drop i ws) (drop i vs) ≡ pos 0
unfolding weighted_sum
sum_end ws vs i h = rw (drop_of_length-le ws)

-- what bounds each number of a list bounds the one at i
pub within_at : (n : ℕ) (zs : List ℤ) → Within n zs → (i : ℕ) → nat_abs (get_or zs i (pos 0)) ≤ n
within_at n [] h i = zero-le
within_at n (z ∷ zs) h zero = h.0
within_at n (z ∷ zs) h (suc i) = within_at n zs h.1 i

-- a larger bound
pub within_more : (m n : ℕ) → m ≤ n → (zs : List ℤ) → Within m zs → Within n zs
within_more m n k [] h = tt
within_more m n k (z ∷ zs) h = (le_trans h.0 k, within_more m n k zs h.1)

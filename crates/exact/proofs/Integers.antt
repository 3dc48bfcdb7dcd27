-- The laws of sums and products of integers that the kit's `lib.IntN` lacks. `Expressions` rests on these, and proves
-- every other identity.
use mathlib.Core.Path.{◌≡◌, sym, ◌∙◌, ap}
use Prim.Native.Nat.{ℕ, ◌*◌}
use lib.IntN.{ℤ, pos, neg_ℤ, ◌+ℤ◌, ◌*ℤ◌, +ℤ_assoc, +ℤ_comm, *ℤ_comm, *ℤ-one, one}
use Rattle.exact.proofs.Parts.{integers, pos_part, neg_part, sum_parts, product_parts, negation_parts}

pub +ℤ-left-comm : (a b c : ℤ) → a +ℤ (b +ℤ c) ≡ b +ℤ (a +ℤ c)
+ℤ-left-comm a b c = sym (+ℤ_assoc a b c) ∙ ap (λ (x : ℤ). x +ℤ c) (+ℤ_comm a b) ∙ +ℤ_assoc b a c

-- an equation of naturals times each part of an integer
by_parts : {m n : ℕ} (c : ℤ) → m ≡ n → (m * pos_part c ≡ n * pos_part c) × (m * neg_part c ≡ n * neg_part c)
by_parts c e = (ap (λ (x : ℕ). x * pos_part c) e, ap (λ (x : ℕ). x * neg_part c) e)

pub +ℤ-*ℤ : (a b c : ℤ) → (a +ℤ b) *ℤ c ≡ a *ℤ c +ℤ b *ℤ c
+ℤ-*ℤ a b c =
    omega (
      integers,
      product_parts (a +ℤ b) c,
      product_parts a c,
      product_parts b c,
      sum_parts (a *ℤ c)
          (b *ℤ c),
      by_parts c (sum_parts a b),
    )

pub *ℤ-+ℤ : (c a b : ℤ) → c *ℤ (a +ℤ b) ≡ c *ℤ a +ℤ c *ℤ b
*ℤ-+ℤ c a b =
    omega (
      integers,
      product_parts c (a +ℤ b),
      product_parts c a,
      product_parts c b,
      sum_parts (c *ℤ a)
          (c *ℤ b),
      by_parts c (sum_parts a b),
    )

pub neg_times : (a b : ℤ) → neg_ℤ a *ℤ b ≡ neg_ℤ (a *ℤ b)
neg_times a b =
    let n = negation_parts a in
    omega (
      integers,
      product_parts (neg_ℤ a) b,
      product_parts a b,
      negation_parts (a *ℤ b),
      by_parts b n.0,
      by_parts b
          n.1,
    )

pub times_neg : (a b : ℤ) → a *ℤ neg_ℤ b ≡ neg_ℤ (a *ℤ b)
times_neg a b = *ℤ_comm a (neg_ℤ b) ∙ neg_times b a ∙ ap neg_ℤ (*ℤ_comm b a)

pub *ℤ-assoc : (a b c : ℤ) → (a *ℤ b) *ℤ c ≡ a *ℤ (b *ℤ c)
*ℤ-assoc a b c =
    omega (
      integers,
      product_parts (a *ℤ b) c,
      product_parts a (b *ℤ c),
      by_parts c (product_parts a b),
      by_parts a
          (product_parts b c),
    )

pub *ℤ-left-comm : (a b c : ℤ) → a *ℤ (b *ℤ c) ≡ b *ℤ (a *ℤ c)
*ℤ-left-comm a b c = sym (*ℤ-assoc a b c) ∙ ap (λ (x : ℤ). x *ℤ c) (*ℤ_comm a b) ∙ *ℤ-assoc b a c

pub *ℤ-exchange : (a b c d : ℤ) → (a *ℤ b) *ℤ (c *ℤ d) ≡ (a *ℤ c) *ℤ (b *ℤ d)
*ℤ-exchange a b c d = *ℤ-assoc a b (c *ℤ d) ∙ ap (λ (x : ℤ). a *ℤ x) (*ℤ-left-comm b c d) ∙ sym (*ℤ-assoc a c (b *ℤ d))

pub one_times : (a : ℤ) → pos 1 *ℤ a ≡ a
unfolding one
one_times a = *ℤ_comm (pos 1) a ∙ *ℤ-one a

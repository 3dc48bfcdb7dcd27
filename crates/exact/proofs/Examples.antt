-- Examples of use, one or two of each kind. Nothing cites this file: it shows how the laws are called, and that they do
-- what they are for.
use mathlib.Core.Path.{◌≡◌, refl}
use mathlib.Core.Logic.{inl, inr}
use mathlib.Core.List.Forall₂
use mathlib.Core.List.{List, [], ◌∷◌}
use Prim.Native.Nat.{ℕ, ◌^◌, ◌≤◌}
use lib.Dec.{lit<}
use lib.IntN.{ℤ, pos, nat_abs, ◌+ℤ◌, ◌-ℤ◌, ◌*ℤ◌}
use lib.Signed.{◌≤ℤ◌, le_z_yes}
use mir.Syntax.{w32, w64}
use mir.Val.{SFits}
use Rattle.exact.specs.Rounding.{rounded}
use Rattle.exact.specs.WeightedSum.{weighted_sum, total}
use Rattle.exact.proofs.Parts.{integers}
use Rattle.exact.proofs.Expressions.{Expr, var, lit, ◌⊕◌, ◌⊖◌, ◌⊗◌, value, identity}
use Rattle.exact.proofs.Linear.{expression_parts}
use Rattle.exact.proofs.Sizes.{fits_by_size}
use Rattle.exact.proofs.RoundingLaws.{mean_range}

-- ---- identities

square_of_sum : (x y : ℤ) → (x +ℤ y) *ℤ (x +ℤ y) ≡ x *ℤ x +ℤ pos 2 *ℤ (x *ℤ y) +ℤ y *ℤ y
square_of_sum x y =
    identity ((var 0 ⊕ var 1) ⊗ (var 0 ⊕ var 1)) (var 0 ⊗ var 0 ⊕ lit (pos 2) ⊗ (var 0 ⊗ var 1) ⊕ var 1 ⊗ var 1)
    (x ∷ y ∷ []) refl

difference_of_squares : (x y : ℤ) → x *ℤ x -ℤ y *ℤ y ≡ (x -ℤ y) *ℤ (x +ℤ y)
difference_of_squares x y =
    identity (var 0 ⊗ var 0 ⊖ var 1 ⊗ var 1) ((var 0 ⊖ var 1) ⊗ (var 0 ⊕ var 1)) (x ∷ y ∷ []) refl

-- two of the identities by which exact refinement keeps the spline, in twelve variables: nine controls and the gaps x,
-- y, g between ordered shares

abbrev times : ℕ → Expr → Expr
times n e = lit (pos n) ⊗ e

-- the controls at a corner of a triangle: towards the next corner, the third, towards the corner before
record Corner : Type 0 where
  next : Expr
  third : Expr
  before : Expr

-- 36 times the exact value at the gaps x, y, g, for the largest share at P and the second at the next corner Q: A = x,
-- B = 2y, G = 3g
abbrev exact36 : Corner → Corner → Corner → Expr → Expr → Expr → Expr
exact36 P Q T x y g =
    x ⊗ x ⊗ times 12 (P.next ⊕ P.third ⊕ P.before)
    ⊕ times 4 (x ⊗ y) ⊗ (times 24 P.next ⊕ times 6 (P.third ⊕ P.before))
    ⊕ times 6 (x ⊗ g) ⊗ (times 24 P.next ⊕ times 12 P.third)
    ⊕ times 4 (y ⊗ y) ⊗ (times 12 P.next ⊕ times 3 (P.third ⊕ P.before) ⊕ times 9 (Q.next ⊕ Q.third))
    ⊕ times 12 (y ⊗ g) ⊗ (times 12 (P.next ⊕ Q.next) ⊕ times 6 (P.third ⊕ Q.third))
    ⊕ times 9 (g ⊗ g) ⊗ (times 8 (P.next ⊕ Q.next ⊕ T.next) ⊕ times 4 (P.third ⊕ Q.third ⊕ T.third))

-- 12 times a refined value: at a kept vertex, and at a new vertex along the halved edge and across it
abbrev kept : Expr → Expr → Expr → Expr
kept c d e = times 8 c ⊕ times 2 (d ⊕ e)

abbrev along : Expr → Expr → Expr
along b c = times 6 (b ⊕ c)

abbrev across : Expr → Expr → Expr → Expr
across a c d = times 6 a ⊕ times 3 (c ⊕ d)

abbrev P : Corner
P = record { next = var 0; third = var 1; before = var 2 }

abbrev Q : Corner
Q = record { next = var 3; third = var 4; before = var 5 }

abbrev R : Corner
R = record { next = var 6; third = var 7; before = var 8 }

-- the fine triangle at P: P kept, then the midpoints of P, Q and of R, P
abbrev kept_p : Corner
kept_p =
    record {
      next = kept (var 0) (var 1) (var 2);
      third = kept (var 1) (var 0) (var 2);
      before =
          kept (var 2) (var 0) (var 1);
    }

abbrev mid_pq : Corner
mid_pq =
    record {
      next = across (var 0) (var 1) (var 3);
      third = across (var 0) (var 2) (var 4);
      before =
          along (var 3) (var 4);
    }

abbrev mid_rp : Corner
mid_rp =
    record {
      next = along (var 0) (var 1);
      third = across (var 6) (var 7) (var 0);
      before =
          across (var 6) (var 8) (var 1);
    }

-- the gaps are x, y, g in the fine triangle, and 2x + 2y + 3g, y, g in the coarse one
abbrev corner_fine : Expr
corner_fine = exact36 kept_p mid_pq mid_rp (var 9) (var 10) (var 11)

abbrev corner_coarse : Expr
corner_coarse = times 3 (exact36 P Q R (times 2 (var 9 ⊕ var 10) ⊕ times 3 (var 11)) (var 10) (var 11))

corner_triangle : (ρ : List ℤ) → value ρ corner_fine ≡ value ρ corner_coarse
corner_triangle ρ = identity corner_fine corner_coarse ρ refl

-- the fine triangle in the middle: the midpoints of P, Q, of R, P and of Q, R. It is of the other kind, so its corners'
-- controls come in another order
abbrev middle_pq : Corner
middle_pq = record { next = mid_pq.next; third = mid_pq.before; before = mid_pq.third }

abbrev middle_rp : Corner
middle_rp = record { next = mid_rp.third; third = mid_rp.next; before = mid_rp.before }

abbrev middle_qr : Corner
middle_qr =
    record {
      next = across (var 3) (var 4) (var 6);
      third = along (var 6) (var 7);
      before =
          across (var 3) (var 5) (var 7);
    }

-- the gaps are x, y, g in the fine triangle, and y, x, y + 2g in the coarse one
abbrev middle_fine : Expr
middle_fine = exact36 middle_pq middle_rp middle_qr (var 9) (var 10) (var 11)

abbrev middle_coarse : Expr
middle_coarse = times 3 (exact36 P Q R (var 10) (var 9) (var 10 ⊕ times 2 (var 11)))

middle_triangle : (ρ : List ℤ) → value ρ middle_fine ≡ value ρ middle_coarse
middle_triangle ρ = identity middle_fine middle_coarse ρ refl

-- ---- sizes

-- a weighted sum of two numbers of the net range fits 64 bits, and a smaller one fits 32
wide_sum : (x y : ℤ) → nat_abs x ≤ 2 ^ 24 → nat_abs y ≤ 2 ^ 24 → SFits w64 (pos 37748736 *ℤ x -ℤ pos 37748736 *ℤ y)
wide_sum x y h k =
    fits_by_size w64 (x ∷ y ∷ []) (2 ^ 24 ∷ 2 ^ 24 ∷ []) (lit (pos 37748736) ⊗ var 0 ⊖ lit (pos 37748736) ⊗ var 1)
    (h, (k, tt)) tt

narrow_sum : (x y : ℤ) → nat_abs x ≤ 2 ^ 24 → nat_abs y ≤ 2 ^ 24 → SFits w32 (pos 36 *ℤ x +ℤ pos 36 *ℤ y)
narrow_sum x y h k =
    fits_by_size w32 (x ∷ y ∷ []) (2 ^ 24 ∷ 2 ^ 24 ∷ []) (lit (pos 36) ⊗ var 0 ⊕ lit (pos 36) ⊗ var 1) (h, (k, tt)) tt

-- ---- order

linear_fact : (a b c : ℤ) → a ≤ℤ b → b ≤ℤ c → (pos 3 *ℤ a -ℤ (b +ℤ pos 2)) ≤ℤ (pos 2 *ℤ c)
linear_fact a b c h k =
    let ρ = a ∷ b ∷ c ∷ [] in
    omega (
      integers,
      expression_parts ρ (lit (pos 3) ⊗ var 0 ⊖ (var 1 ⊕ lit (pos 2))),
      expression_parts ρ
          (lit (pos 2) ⊗ var 2),
    )

-- ---- a rounded mean, in the range of the values whose weight is not 0

mean_of_two : (m n x y z : ℤ) → m ≤ℤ x → x ≤ℤ n → m ≤ℤ y → y ≤ℤ n →
    (m ≤ℤ rounded (weighted_sum (pos 8 ∷ pos 4 ∷ pos 0 ∷ []) (x ∷ y ∷ z ∷ [])) 12)
    × (rounded (weighted_sum (pos 8 ∷ pos 4 ∷ pos 0 ∷ []) (x ∷ y ∷ z ∷ [])) 12 ≤ℤ n)
unfolding total
mean_of_two m n x y z a b c d =
    mean_range 12 (lit< tt) refl
    (Forall₂.cons (le_z_yes tt, inr (a, b))
    (Forall₂.cons (le_z_yes tt, inr (c, d)) (Forall₂.cons (le_z_yes tt, inl refl) Forall₂.nil)))

-- `exact::rounding::round_quotient` meets its contract: its sums and products stay within 64 bits, so they are exact,
-- and the quotient of them, which goes towards zero, is the definition's.
use mathlib.Core.Path.{◌≡◌, refl, sym, ◌∙◌, ap, subst}
use mathlib.Core.List.{List, [], ◌∷◌}
use Prim.Native.Nat.{ℕ, zero, suc, ◌+◌, ◌*◌, ◌/◌, ◌^◌, ◌<◌}
use native.Mathlib.Omega.{arith}
use lib.IntN.{ℤ, pos, negsuc, neg_ℤ, ◌+ℤ◌, ◌-ℤ◌, ◌*ℤ◌}
use lib.Dec.{T}
use lib.Pow.{pow_pos}
use lib.Signed.{quot_z, ◌≤ℤ◌, ◌<ℤ◌}
use mir.Syntax.{w64}
use mir.Val.{SFits, hbits, to_z}
use mir.Facts.{to_z-of_z, to_z_pos}
use Rattle.exact.specs.Rounding.{floor_quotient, rounded}
use Rattle.exact.proofs.Parts.{integers}
use Rattle.exact.proofs.Expressions.{Expr, var, lit, ◌⊕◌, ◌⊖◌, ◌⊗◌, value}
use Rattle.exact.proofs.Linear.{expression_parts}
use Rattle.exact.proofs.Sizes.{fits_of_size}
use Rattle.exact.proofs.SignedCode.{Leaf, of_number, of_unsigned, exacts, held, stays, reads_exact, less_taken, less_left}
use Rattle.exact.proofs.RoundingLaws.{rounded_size}
use Rattle.exact.proofs.rounding.round_quotient.Goals as goal
use Rattle.exact.proofs.rounding.round_quotient.Goals.{Else-n-lt0, Start, Then-n-lt0}

-- n, and d cast to an i64
abbrev leaves : Start → List (Leaf w64)
leaves c = of_number c.args.n c.ranges.n c.requires.2 ∷ of_unsigned c.args.d c.requires.1 tt ∷ []

abbrev twice : ℕ → Expr
twice i = lit (pos 2) ⊗ var i

-- the numerators: a half less below zero, and a half more from zero on
abbrev less : Expr
less = twice 0 ⊖ var 1

abbrev more : Expr
more = twice 0 ⊕ var 1

-- the quotients, of whole numbers
below : (n : ℤ) (d : ℕ) → n <ℤ pos 0 → quot_z (pos 2 *ℤ n -ℤ pos d) (pos (2 * d)) ≡ rounded n d
unfolding rounded floor_quotient
below (pos a) d t = absurd (omega integers)
below (negsuc a) d t =
    let numerator : pos 2 *ℤ negsuc a -ℤ pos d ≡ negsuc (2 * a + 1 + d) =
    omega (integers, expression_parts (negsuc a ∷ pos d ∷ []) (lit (pos 2) ⊗ var 0 ⊖ var 1)) in
    let size : suc (2 * a + 1 + d) ≡ 2 * suc a + d = omega arith in
    ap (λ (z : ℤ). quot_z z (pos (2 * d))) numerator ∙ ap (λ (m : ℕ). neg_ℤ (pos (m / (2 * d)))) size

above : (n : ℤ) (d : ℕ) → pos 0 ≤ℤ n → quot_z (pos 2 *ℤ n +ℤ pos d) (pos (2 * d)) ≡ rounded n d
unfolding rounded floor_quotient
above (pos a) d t = refl
above (negsuc a) d t = absurd t.le

-- bits that stand for a number above zero
above_zero : (b : ℕ) {n : ℕ} → to_z w64 b ≡ pos n → 0 < n → 0 < b
above_zero zero e h = absurd (omega (integers, to_z_pos w64 (pow_pos (hbits w64)), e, h))
above_zero (suc b) e h = omega arith

-- a division of the code whose exact quotient is the rounded number: its needs, and what it gives
record Divided (c : Start) (e : Expr) : Type 0 where
  divisor : 0 < held (leaves c) (twice 1)
  fits : SFits w64 (quot_z (to_z w64 (held (leaves c) e)) (to_z w64 (held (leaves c) (twice 1))))
  gives : quot_z (to_z w64 (held (leaves c) e)) (to_z w64 (held (leaves c) (twice 1))) ≡ rounded c.args.n c.args.d

divided : (c : Start) (e : Expr) → T (stays (leaves c) e) →
    quot_z (value (exacts (leaves c)) e) (pos (2 * c.args.d)) ≡ rounded c.args.n c.args.d → Divided c e
divided c e t q =
    let L = leaves c in
    let d = c.args.d in
    let over = reads_exact L (twice 1) tt in
    let gives = (λ i. quot_z (reads_exact L e t i) (over i)) ∙ q in
    let size = rounded_size c.args.n d (2 ^ 61) c.requires.0 (omega (arith, c.requires.0, c.requires.2)) in
    record {
      divisor = above_zero (held L (twice 1)) over (omega (arith, c.requires.0));
      fits = subst (SFits w64) (sym gives) (fits_of_size {w = w64} size tt);
      gives = gives;
    }

below_at : (c : Then-n-lt0) → Divided c.before less
below_at c =
    let s = c.before in
    divided s less tt (below s.args.n s.args.d
    (less_taken s.args.n (pos 0) (rw (to_z-of_z s.ranges.n) at c.if-n-lt0.true)))

above_at : (c : Else-n-lt0) → Divided c.before more
above_at c =
    let s = c.before in
    divided s more tt (above s.args.n s.args.d
    (less_left s.args.n (pos 0) (rw (to_z-of_z s.ranges.n) at c.if-n-lt0.false)))

pub returns-then-n-lt0 : goal.returns-then-n-lt0
returns-then-n-lt0 c = to_z-of_z (below_at c).fits ∙ (below_at c).gives

pub returns-else-n-lt0 : goal.returns-else-n-lt0
returns-else-n-lt0 c = to_z-of_z (above_at c).fits ∙ (above_at c).gives

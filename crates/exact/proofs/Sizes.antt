-- Sizes of integers by computation. From a bound for the size of each variable, `bound` computes one for an expression;
-- a closed test, answered by `tt`, then shows that the value fits a signed width: `fits_by_size w ρ ns a s tt` proves
-- `SFits w (value ρ a)` from `s : Sized ρ ns`. A size loses the least number of a width. Where the whole range counts,
-- go by `fits_between`.
use mathlib.Core.Path.{sym, subst}
use mathlib.Core.List.{List, [], ◌∷◌}
use Prim.Native.Nat.{ℕ, zero, suc, ◌+◌, ◌*◌, ◌^◌, ◌≤◌}
use native.Mathlib.Nat.{le_trans, le_refl, mul-le-mul, add-le-add}
use native.Mathlib.Omega.{arith}
use lib.Dec.{T, ltb, ltb→lt}
use lib.ListN.{get_or}
use lib.IntN.{ℤ, pos, neg_ℤ, nat_abs}
use lib.Signed.{nat_abs-le, ◌≤ℤ◌, ◌<ℤ◌}
use mir.Syntax.{Width}
use mir.Val.{SFits, hbits}
use Rattle.exact.proofs.Parts.{integers, mag_parts, size_parts, negation_parts}
use Rattle.exact.proofs.Order.{size_sum, size_difference, size_product}
use Rattle.exact.proofs.Expressions.{Op, plus, minus, times, Expr, var, lit, op, apply, value}

-- ---- a bound for an expression

-- what an operation makes of two bounds
abbrev pub reach : Op → ℕ → ℕ → ℕ
reach plus m n = m + n
reach minus m n = m + n
reach times m n = m * n

abbrev pub bound : List ℕ → Expr → ℕ
bound ns (var i) = get_or ns i 0
bound ns (lit z) = nat_abs z
bound ns (op o a b) = reach o (bound ns a) (bound ns b)

-- each variable is at most its bound in size
abbrev pub Sized : List ℤ → List ℕ → Type 0
Sized [] ns = Unit {0}
Sized (z ∷ ρ) [] = ⊥
Sized (z ∷ ρ) (n ∷ ns) = (nat_abs z ≤ n) × Sized ρ ns

pub reach_bound : (o : Op) (x y : ℤ) {m n : ℕ} → nat_abs x ≤ m → nat_abs y ≤ n → nat_abs (apply o x y) ≤ reach o m n
reach_bound plus x y h k = le_trans (size_sum x y) (add-le-add h k)
reach_bound minus x y h k = le_trans (size_difference x y) (add-le-add h k)
reach_bound times x y {m} {n} h k = subst (λ (s : ℕ). s ≤ m * n) (sym (size_product x y)) (mul-le-mul h k)

var_bound : (ρ : List ℤ) (ns : List ℕ) → Sized ρ ns → (i : ℕ) → nat_abs (get_or ρ i (pos 0)) ≤ get_or ns i 0
var_bound [] ns s i = omega arith
var_bound (z ∷ ρ) [] s i = absurd s
var_bound (z ∷ ρ) (n ∷ ns) s zero = s.0
var_bound (z ∷ ρ) (n ∷ ns) s (suc i) = var_bound ρ ns s.1 i

pub value_bound : (ρ : List ℤ) (ns : List ℕ) (a : Expr) → Sized ρ ns → nat_abs (value ρ a) ≤ bound ns a
value_bound ρ ns (var i) s = var_bound ρ ns s i
value_bound ρ ns (lit z) s = le_refl (nat_abs z)
value_bound ρ ns (op o a b) s = reach_bound o (value ρ a) (value ρ b) (value_bound ρ ns a s) (value_bound ρ ns b s)

-- ---- from a size, or from a range, to a signed width, and back

pub fits_of_size : {w : Width} {z : ℤ} {n : ℕ} → nat_abs z ≤ n → T (ltb n (2 ^ hbits w)) → SFits w z
fits_of_size {w} {z} {n} h t =
    record { sfits = omega (arith, mag_parts z, size_parts z, ltb→lt n (2 ^ hbits w) t) }

pub fits_by_size : (w : Width) (ρ : List ℤ) (ns : List ℕ) (a : Expr) → Sized ρ ns → T (ltb (bound ns a) (2 ^ hbits w)) →
    SFits w (value ρ a)
fits_by_size w ρ ns a s t = fits_of_size (value_bound ρ ns a s) t

pub size_of_fits : {w : Width} {z : ℤ} → SFits w z → nat_abs z ≤ 2 ^ hbits w
size_of_fits {w} {z} f = nat_abs-le z f.sfits

pub fits_between : {w : Width} {z : ℤ} → neg_ℤ (pos (2 ^ hbits w)) ≤ℤ z → z <ℤ pos (2 ^ hbits w) → SFits w z
fits_between {w} {z} l h =
    record { sfits = omega (integers, mag_parts z, size_parts z, negation_parts (pos (2 ^ hbits w))) }

pub fits_low : {w : Width} {z : ℤ} → SFits w z → neg_ℤ (pos (2 ^ hbits w)) ≤ℤ z
fits_low {w} {z} f = omega (integers, mag_parts z, negation_parts (pos (2 ^ hbits w)))

pub fits_high : {w : Width} {z : ℤ} → SFits w z → z <ℤ pos (2 ^ hbits w)
fits_high {w} {z} f = omega (integers, mag_parts z)

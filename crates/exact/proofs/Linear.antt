-- The parts of a whole expression, for `omega`. `expression_parts ρ e` in the list of `omega (integers, ..)` says what
-- the value of e is through the parts of its variables: one entry, where `Parts` takes one for each sum, difference and
-- product.
use mathlib.Core.Path.{◌≡◌, ap}
use mathlib.Core.List.{List}
use mathlib.Core.Bool.{Bool, true, false, not}
use Prim.Native.Nat.{ℕ, ◌+◌, ◌*◌}
use native.Mathlib.Omega.{arith}
use lib.ListN.{get_or}
use lib.IntN.{ℤ, pos}
use Rattle.exact.proofs.Parts.{pos_part, neg_part, sum_parts, difference_parts, product_parts}
use Rattle.exact.proofs.Expressions.{plus, minus, times, Expr, var, lit, op, value}

abbrev part : Bool → ℤ → ℕ
part true z = pos_part z
part false z = neg_part z

-- what counts for the value of an expression (true), and what counts against it (false)
abbrev pub side : List ℤ → Bool → Expr → ℕ
side ρ s (var i) = part s (get_or ρ i (pos 0))
side ρ s (lit z) = part s z
side ρ s (op plus a b) = side ρ s a + side ρ s b
side ρ s (op minus a b) = side ρ s a + side ρ (not s) b
side ρ s (op times a b) = side ρ true a * side ρ s b + side ρ false a * side ρ (not s) b

pub expression_parts : (ρ : List ℤ) (e : Expr) →
    pos_part (value ρ e) + side ρ false e ≡ neg_part (value ρ e) + side ρ true e
expression_parts ρ (var i) = omega arith
expression_parts ρ (lit z) = omega arith
expression_parts ρ (op plus a b) =
    omega (arith, sum_parts (value ρ a) (value ρ b), expression_parts ρ a, expression_parts ρ b)
expression_parts ρ (op minus a b) =
    omega (arith, difference_parts (value ρ a) (value ρ b), expression_parts ρ a, expression_parts ρ b)
expression_parts ρ (op times a b) =
    let p = expression_parts ρ a in
    let q = expression_parts ρ b in
    omega (
      arith,
      product_parts (value ρ a) (value ρ b),
      ap (λ (x : ℕ). x * pos_part (value ρ b)) p,
      ap (λ (x : ℕ). x * neg_part (value ρ b)) p,
      ap (λ (x : ℕ). side ρ true a * x) q,
      ap (λ (x : ℕ). side ρ false a * x) q,
    )

-- The proof of the cycle of calls {store_decimal}: below ten there is one digit, and from ten on the last digit comes
-- after the others.
use mathlib.Core.Path.{sym, ap, subst, ◌∙◌}
use mathlib.Core.List.{List, [], ◌∷◌, ◌++◌}
use Prim.Native.Nat.{ℕ, ◌+◌, ◌/◌, ◌%◌, ◌≤◌}
use native.Mathlib.Omega.{arith}
use lib.ListN.{length}
use Rattle.decimal.specs.Decimal.{digit, decimal}
use Rattle.decimal.proofs.DecimalLaws.{decimal_low, decimal_high}
use Rattle.decimal.proofs.StoringLaws.{stored_as, stored_then, room_first, room_then}
use Rattle.decimal.proofs.digits.+store_decimal.Goals as goal

-- room for the digits of n from ten on, one after the other
room : (n at : ℕ) (out : List ℕ) → 10 ≤ n → at + length (decimal n) ≤ length out →
    at + length (decimal (n / 10) ++ (digit (n % 10) ∷ [])) ≤ length out
room n at out h fits = subst (λ (l : List ℕ). at + length l ≤ length out) (decimal_high n h) fits

pub store_byte-requires : goal.store_byte-requires
store_byte-requires t c = omega (arith, ap length (decimal_low c.args.n c.if-n-lt10.true), c.requires)

pub store_decimal-after-requires : goal.store_decimal-after-requires
store_decimal-after-requires t c = (
  omega (arith, c.decreases, c.if-n-lt10.false),
  room_first _ (decimal (c.args.n / 10)) (digit (c.args.n % 10) ∷ [])
      (room c.args.n c.args.at c.args.out.now c.if-n-lt10.false c.requires),
)

pub store_byte-requires-else-n-lt10 : goal.store_byte-requires-else-n-lt10
store_byte-requires-else-n-lt10 t c =
    room_then c.store_decimal-after.ensures (digit (c.args.n % 10) ∷ [])
    (room c.args.n c.args.at c.args.out.now c.if-n-lt10.false c.requires)

pub returns-then-n-lt10 : goal.returns-then-n-lt10
returns-then-n-lt10 t c =
    stored_as c.store_byte.ensures
    (ap (λ (b : ℕ). b ∷ []) c.digit_byte.ensures ∙ sym (decimal_low c.args.n c.if-n-lt10.true))

pub returns-else-n-lt10 : goal.returns-else-n-lt10
returns-else-n-lt10 t c =
    stored_as (stored_then c.store_decimal-after.ensures c.store_byte-else-n-lt10.ensures)
    (ap (λ (b : ℕ). decimal (c.args.n / 10) ++ (b ∷ [])) c.digit_byte-else-n-lt10.ensures ∙ sym (decimal_high c.args.n c.if-n-lt10.false))

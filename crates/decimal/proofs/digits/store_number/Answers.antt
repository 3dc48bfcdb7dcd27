-- `decimal::digits::store_number` meets its contract: the number with its sign, and then the byte.
use mathlib.Core.Path.{◌≡◌, sym, ap, subst}
use mathlib.Core.List.{List, [], ◌∷◌, ◌++◌}
use Prim.Native.Nat.{ℕ, ◌+◌, ◌≤◌}
use lib.IntN.{ℤ}
use lib.ListN.{length}
use mir.Facts.{to_z-of_z}
use mir.Syntax.{w32}
use mir.Val.{to_z, of_z}
use Rattle.decimal.specs.Decimal.{signed_decimal}
use Rattle.decimal.proofs.StoringLaws.{stored_as, stored_then}
use Rattle.decimal.proofs.digits.store_number.Goals as goal
use Rattle.decimal.proofs.digits.store_number.Goals.{Start}

module _ (c : Start) where
  -- the number as it is handed on
  abbrev held : ℤ
  held = to_z w32 (of_z w32 c.args.z)

  abbrev end : List ℕ
  end = c.args.end ∷ []

  text : signed_decimal held ++ end ≡ signed_decimal c.args.z ++ end
  text = ap (λ (z : ℤ). signed_decimal z ++ end) (to_z-of_z c.ranges.z)

  room : c.args.at + length (signed_decimal held ++ end) ≤ length c.args.out.now
  room = subst (λ (l : List ℕ). c.args.at + length l ≤ length c.args.out.now) (sym text) c.requires

pub returns : goal.returns
returns c =
    let stored = c in
    stored_as (stored_then stored.store_signed-after.ensures c.store_byte.ensures)
    (text (goal.at.returns c).Start)

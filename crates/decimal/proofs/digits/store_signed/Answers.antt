-- `decimal::digits::store_signed` meets its contract: below zero the sign comes before the digits of the size.
use mathlib.Core.Path.{◌≡◌, sym, ap, subst, ◌∙◌}
use mathlib.Core.List.{List, [], ◌∷◌, ◌++◌}
use Prim.Native.Nat.{ℕ, ◌+◌, ◌≤◌}
use lib.IntN.{ℤ, pos, nat_abs}
use lib.ListN.{length}
use lib.Signed.{lt_z}
use mir.Facts.{to_z-of_z}
use Rattle.exact.proofs.SignedCode.{less_taken, less_left}
use Rattle.decimal.specs.Decimal.{decimal, signed_decimal}
use Rattle.decimal.proofs.DecimalLaws.{signed_below, signed_above}
use Rattle.decimal.proofs.StoringLaws.{stored_as, stored_then, room_first, room_then}
use Rattle.decimal.proofs.digits.store_signed.Goals as goal
use Rattle.decimal.proofs.digits.store_signed.Goals.{After-unsigned_abs-n, Else-z-lt0, Then-z-lt0}

module _ (c : After-unsigned_abs-n) where
  abbrev z : ℤ
  z = c.args.z

  -- the size that was found
  found : c.unsigned_abs-n.result ≡ nat_abs z
  found = c.unsigned_abs-n.ensures.value ∙ ap nat_abs (to_z-of_z c.ranges.z)

  -- the room, said of the text by its parts
  room : {text : List ℕ} → signed_decimal z ≡ text →
      c.args.at + length text ≤ length c.args.out.now
  room e =
      subst (λ (l : List ℕ). c.args.at + length l ≤ length c.args.out.now) e
      c.requires

below : (c : Then-z-lt0) → signed_decimal (z (goal.at.Then-z-lt0 c).After-unsigned_abs-n) ≡ (45 ∷ []) ++ decimal c.unsigned_abs-n.result
below c =
    let read = to_z-of_z c.ranges.z in
    signed_below (z (goal.at.Then-z-lt0 c).After-unsigned_abs-n) (less_taken _ _ (ap (λ (x : ℤ). lt_z x (pos 0)) (sym read) ∙ c.if-z-lt0.true))
    ∙ ap (λ (n : ℕ). (45 ∷ []) ++ decimal n) (sym (found (goal.at.Then-z-lt0 c).After-unsigned_abs-n))

above : (c : Else-z-lt0) → signed_decimal (z (goal.at.Else-z-lt0 c).After-unsigned_abs-n) ≡ decimal c.unsigned_abs-n.result
above c =
    let read = to_z-of_z c.ranges.z in
    signed_above (z (goal.at.Else-z-lt0 c).After-unsigned_abs-n) (less_left _ _ (ap (λ (x : ℤ). lt_z x (pos 0)) (sym read) ∙ c.if-z-lt0.false))
    ∙ ap decimal (sym (found (goal.at.Else-z-lt0 c).After-unsigned_abs-n))

pub store_byte-after-requires : goal.store_byte-after-requires
store_byte-after-requires c =
    let t = (goal.at.store_byte-after-requires c).Then-z-lt0 in
    room_first _ (45 ∷ []) (decimal t.unsigned_abs-n.result) (room (goal.at.store_byte-after-requires c).After-unsigned_abs-n (below t))

pub store_decimal-requires : goal.store_decimal-requires
store_decimal-requires c =
    let signed = c in
    let t = (goal.at.store_decimal-requires c).Then-z-lt0 in
    room_then signed.store_byte-after.ensures (decimal t.unsigned_abs-n.result) (room (goal.at.store_decimal-requires c).After-unsigned_abs-n (below t))

pub store_decimal-requires-else-z-lt0 : goal.store_decimal-requires-else-z-lt0
store_decimal-requires-else-z-lt0 c = room (goal.at.store_decimal-requires-else-z-lt0 c).After-unsigned_abs-n (above (goal.at.store_decimal-requires-else-z-lt0 c).Else-z-lt0)

pub returns-then-z-lt0 : goal.returns-then-z-lt0
returns-then-z-lt0 c =
    let signed = c in
    stored_as (stored_then signed.store_byte-after.ensures c.store_decimal.ensures) (sym (below (goal.at.returns-then-z-lt0 c).Then-z-lt0))

pub returns-else-z-lt0 : goal.returns-else-z-lt0
returns-else-z-lt0 c = stored_as c.store_decimal-else-z-lt0.ensures (sym (above (goal.at.returns-else-z-lt0 c).Else-z-lt0))

-- `listing_text::lines::store_point_line` meets its contract: five numbers, one after the other, each with the byte
-- that ends it.
use mathlib.Core.Path.{◌≡◌, ap, ◌∙◌}
use mathlib.Core.List.{List, ◌++◌}
use Prim.Native.Nat.{ℕ, ◌+◌, ◌≤◌}
use native.Mathlib.Omega.{arith}
use lib.IntN.{ℤ}
use lib.ListN.{length}
use mir.Facts.{to_z-of_z}
use mir.Syntax.{w32}
use mir.Val.{to_z, of_z}
use Rattle.decimal.specs.Decimal.{decimal, signed_decimal}
use Rattle.decimal.specs.Storing.{Stored}
use Rattle.decimal.proofs.StoringLaws.{stored_as, stored_then, room_first, room_then}
use Rattle.listing_text.specs.Listing.{point_line, space, line_end}
use Rattle.listing_text.proofs.LineLaws.{point_parts}
use Rattle.listing_text.proofs.lines.store_point_line.Goals as goal
use Rattle.listing_text.proofs.lines.store_point_line.Goals.{After-store_count-a, After-store_count-b, After-store_number-c, After-store_number-d, Start}

-- the parts as they are handed on, and the room for the first so many of them
module _ (c : Start) where
  abbrev x : ℤ
  x = to_z w32 (of_z w32 c.args.x)

  abbrev y : ℤ
  y = to_z w32 (of_z w32 c.args.y)

  abbrev z : ℤ
  z = to_z w32 (of_z w32 c.args.z)

  abbrev out : List ℕ
  out = c.args.out.now

  abbrev one : List ℕ
  one = decimal c.args.i ++ space

  abbrev two : List ℕ
  two = one ++ (decimal c.args.j ++ space)

  abbrev three : List ℕ
  three = two ++ (signed_decimal x ++ space)

  abbrev four : List ℕ
  four = three ++ (signed_decimal y ++ space)

  abbrev last : List ℕ
  last = signed_decimal z ++ line_end

  abbrev five : List ℕ
  five = four ++ last

  line : five ≡ point_line c.args.i c.args.j c.args.x c.args.y c.args.z
  line =
      point_parts c.args.i c.args.j x y z
      ∙ (λ t. point_line c.args.i c.args.j (to_z-of_z c.ranges.x t) (to_z-of_z c.ranges.y t)
      (to_z-of_z c.ranges.z t))

  room_five : 0 + length five ≤ length out
  room_five = omega (arith, ap length line, c.requires)

  room_four : 0 + length four ≤ length out
  room_four = room_first 0 four last room_five

  room_three : 0 + length three ≤ length out
  room_three = room_first 0 three (signed_decimal y ++ space) room_four

  room_two : 0 + length two ≤ length out
  room_two = room_first 0 two (signed_decimal x ++ space) room_three

-- what stands after each
module _ (c : After-store_count-b) where
  abbrev first : After-store_count-a
  first = (goal.at.After-store_count-b c).After-store_count-a

  abbrev start : Start
  start = first.before.before.before

  stored_two : Stored (out start) 0 (two start) c.store_count-b.new.out c.store_count-b.result
  stored_two = stored_then first.store_count-a.ensures c.store_count-b.ensures

module _ (c : After-store_number-c) where
  abbrev second : After-store_count-b
  second = (goal.at.After-store_number-c c).After-store_count-b

  stored_three : Stored (out (start second)) 0 (three (start second)) c.store_number-c.new.out
      c.store_number-c.result
  stored_three = stored_then (stored_two second) c.store_number-c.ensures

module _ (c : After-store_number-d) where
  abbrev third : After-store_number-c
  third = (goal.at.After-store_number-d c).After-store_number-c

  stored_four : Stored (out (start (second third))) 0 (four (start (second third))) c.store_number-d.new.out
      c.store_number-d.result
  stored_four = stored_then (stored_three third) c.store_number-d.ensures

pub store_count-a-requires : goal.store_count-a-requires
store_count-a-requires c =
    let start = (goal.at.store_count-a-requires c).Start in
    room_first 0 (one start) (decimal start.args.j ++ space) (room_two start)

pub store_count-b-requires : goal.store_count-b-requires
store_count-b-requires c =
    let first = c in
    let start = (goal.at.store_count-b-requires c).Start in
    room_then first.store_count-a.ensures (decimal start.args.j ++ space) (room_two start)

pub store_number-c-requires : goal.store_number-c-requires
store_number-c-requires c =
    let k = (goal.at.store_number-c-requires c).After-store_count-b in
    room_then (stored_two k) (signed_decimal (x (start k)) ++ space) (room_three (start k))

pub store_number-d-requires : goal.store_number-d-requires
store_number-d-requires c =
    let k = (goal.at.store_number-d-requires c).After-store_number-c in
    let s = start (second k) in
    room_then (stored_three k) (signed_decimal (y s) ++ space) (room_four s)

pub store_number-requires : goal.store_number-requires
store_number-requires c =
    let k = (goal.at.store_number-requires c).After-store_number-d in
    let s = start (second (third k)) in
    room_then (stored_four k) (last s) (room_five s)

pub returns : goal.returns
returns c =
    let k = (goal.at.returns c).After-store_number-d in
    stored_as (stored_then (stored_four k) c.store_number.ensures)
    (line (start (second (third k))))

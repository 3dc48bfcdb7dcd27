-- `listing_text::lines::store_head_line` meets its contract: the word, and then the two sides.
use mathlib.Core.Path.{ap}
use mathlib.Core.List.{List, ◌++◌}
use Prim.Native.Nat.{ℕ, ◌+◌, ◌≤◌}
use native.Mathlib.Omega.{arith}
use lib.ListN.{length}
use Rattle.decimal.specs.Decimal.{decimal}
use Rattle.decimal.specs.Storing.{Stored}
use Rattle.decimal.proofs.StoringLaws.{stored_as, stored_then, room_first, room_then}
use Rattle.listing_text.specs.Listing.{net_word, space, line_end}
use Rattle.listing_text.proofs.LineLaws.{head_parts}
use Rattle.listing_text.proofs.lines.store_head_line.Goals as goal
use Rattle.listing_text.proofs.lines.store_head_line.Goals.{After-store_count-b, After-store_text-a, Start}

-- the word, and its space
abbrev word_text : List ℕ
word_text = net_word ++ space

module _ (c : Start) where
  abbrev width : List ℕ
  width = decimal c.args.w ++ space

  abbrev height : List ℕ
  height = decimal c.args.h ++ line_end

  room : 0 + length (word_text ++ width ++ height) ≤ length c.args.out.now
  room = omega (arith, ap length (head_parts c.args.w c.args.h), c.requires)

  room_width : 0 + length (word_text ++ width) ≤ length c.args.out.now
  room_width = room_first 0 (word_text ++ width) height room

abbrev start : After-store_text-a → Start
start c = (goal.at.After-store_text-a c).Start

module _ (c : After-store_count-b) where
  abbrev word : After-store_text-a
  word = (goal.at.After-store_count-b c).After-store_text-a

  stored_width : Stored (start word).args.out.now 0 (word_text ++ width (start word))
      c.store_count-b.new.out c.store_count-b.result
  stored_width = stored_then word.store_text-a.ensures c.store_count-b.ensures

pub store_text-a-requires : goal.store_text-a-requires
store_text-a-requires c =
    let start = (goal.at.store_text-a-requires c).Start in
    room_first 0 word_text (width start) (room_width start)

pub store_count-b-requires : goal.store_count-b-requires
store_count-b-requires c =
    let word = (goal.at.store_count-b-requires c).After-store_text-a in
    room_then word.store_text-a.ensures (width (start word)) (room_width (start word))

pub store_count-requires : goal.store_count-requires
store_count-requires c =
    let k = (goal.at.store_count-requires c).After-store_count-b in
    room_then (stored_width k) (height (start (word k))) (room (start (word k)))

pub returns : goal.returns
returns c =
    let k = (goal.at.returns c).After-store_count-b in
    let s = start (word k) in
    stored_as (stored_then (stored_width k) c.store_count.ensures)
    (head_parts s.args.w s.args.h)

-- `listing_text::lines::list_refusal` meets its contract: the word, and then the number.
use mathlib.Core.Path.{ap}
use mathlib.Core.List.{List, ◌++◌}
use Prim.Native.Nat.{ℕ, ◌+◌, ◌≤◌}
use native.Mathlib.Nat.{lt_trans}
use native.Mathlib.Omega.{arith}
use lib.Dec.{lit<}
use lib.ListN.{length}
use Rattle.decimal.specs.Decimal.{decimal}
use Rattle.decimal.specs.Storing.{Stored}
use Rattle.decimal.proofs.StoringLaws.{stored_as, stored_then, stored_line, room_then}
use Rattle.listing_text.specs.Listing.{refused_word, space, line_end, refusal_line, longest_line}
use Rattle.listing_text.proofs.LineLaws.{refusal_parts, refusal_length}
use Rattle.listing_text.proofs.lines.list_refusal.Goals as goal
use Rattle.listing_text.proofs.lines.list_refusal.Goals.{Start}

module _ (c : Start) where
  abbrev number : List ℕ
  number = decimal c.args.n ++ line_end

  short : length (refusal_line c.args.n) ≤ longest_line
  short = refusal_length c.args.n (lt_trans c.ranges.n.fits (lit< tt))

  room : 0 + length ((refused_word ++ space) ++ number) ≤ length c.args.out.now
  room = omega (arith, ap length (refusal_parts c.args.n), short, c.requires)

pub store_count-requires : goal.store_count-requires
store_count-requires c =
    let word = c in
    let start = (goal.at.store_count-requires c).Start in
    room_then word.store_text-a.ensures (number start) (room start)

pub returns : goal.returns
returns c =
    let p = (let word = c in
    let start = (goal.at.returns c).Start in
    let line = refusal_line start.args.n in
    let stored : Stored start.args.out.now 0 line c.store_count.new.out
    c.store_count.result =
    stored_as (stored_then word.store_text-a.ensures c.store_count.ensures)
    (refusal_parts start.args.n) in
    stored_line stored (short start) start.requires) in record { out_after = p.0; value = p.1.0; upper_bound = p.1.1 }

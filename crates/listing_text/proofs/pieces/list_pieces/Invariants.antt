-- `listing_text::pieces::list_pieces` meets its contract: each iteration collects one piece more.
use Prim.Native.Nat.{◌-◌, ◌*◌, ◌≤◌}
use lib.ListN.{length}
use Rattle.decimal.specs.Storing.{Stored}
use Rattle.listing_text.specs.Listing.{pieces_text, longest_line}
use Rattle.listing_text.proofs.pieces.list_pieces.Given as goal

abbrev pub invariant-loop-next : goal.invariant-loop-next
invariant-loop-next l =
    (l.at ≤ longest_line * (l.next - l.n)) × (l.at ≤ length l.out)
    × Stored l.initial.out 0 (pieces_text l.net l.w l.h l.n l.next) l.out l.at

-- Each turn goes on to a later piece.
use Rattle.std.proofs.Common.{◌-◌, ◌≤◌, ◌≡◌, length}
use Rattle.listing.proofs.print_listing.Given as goal

abbrev pub invariant-loop-n : goal.invariant-loop-n
invariant-loop-n g l = (l.n ≤ l.pieces) × (length l.buffer ≡ 16384)

abbrev pub decreases-loop-n : goal.decreases-loop-n
decreases-loop-n g l = l.pieces - l.n

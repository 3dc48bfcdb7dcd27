-- `listing_text::pieces::add_piece` meets its contract: what is laid over the front of a part is stored where the part
-- begins.
use mathlib.Core.Path.{ap, ◌∙◌}
use mathlib.Core.List.{List, ◌++◌}
use Prim.Native.Nat.{ℕ, ◌-◌}
use native.Mathlib.Omega.{arith}
use lib.ListN.{length, take, drop}
use Rattle.listing_text.specs.Listing.{piece_text}
use Rattle.listing_text.proofs.PieceLaws.{stored_in_part}
use Rattle.listing_text.proofs.pieces.add_piece.Goals as goal

pub returns : goal.returns
returns c =
    let start = c in
    let out = start.args.out.now in
    let at = start.args.at in
    let piece = piece_text start.args.net.now start.args.w start.args.h start.args.n in
    let added = c.list_piece.ensures in record {
      stored = record {
        contents = ap (λ (l : List ℕ). take at out ++ (l ++ drop (length out - at) (drop at out))) added.out_after
            ∙ stored_in_part out piece at (omega (arith, added.value, added.upper_bound, start.requires.2));
        place = omega (arith, added.value);
      };
      upper_bound = omega (arith, added.upper_bound);
    }

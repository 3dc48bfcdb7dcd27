-- `listing_text::pieces::list_pieces` meets its contract: each iteration collects one piece more.
use mathlib.Core.Path.{◌≡◌, refl, ap}
use Prim.Native.Nat.{ℕ, ◌+◌, ◌*◌, ◌≤◌, ◌<◌}
use native.Mathlib.Nat.{le_refl}
use native.Mathlib.Omega.{arith}
use lib.ListN.{length}
use Rattle.decimal.proofs.StoringLaws.{stored_as, stored_then, stored_line}
use Rattle.listing_text.specs.Listing.{pieces_text}
use Rattle.listing_text.specs.Collected.{PiecesContract}
use Rattle.listing_text.proofs.PieceLaws.{pieces_none, pieces_more}
use Rattle.listing_text.proofs.pieces.list_pieces.Goals as goal
use Rattle.listing_text.proofs.pieces.list_pieces.Goals.{At-loop-next}

-- what stands where the loop is left before piece `next`, if a piece was collected
collected : (k : At-loop-next) (next : ℕ) → k.loop-next.next ≡ next → k.args.n < next → next ≤ 1 + k.args.w * k.args.h →
    PiecesContract k.args.net.now k.args.w k.args.h k.args.n k.args.out.now
    (record { count = k.loop-next.at; next = next }) k.loop-next.out
collected k next same f there =
    let a = k.args in
    let within : k.loop-next.at ≤ length a.out.now = omega (arith, k.loop-next.invariant.1, k.loop-next.auto.out) in
    let stored = stored_as k.loop-next.invariant.2 (ap (pieces_text a.net.now a.w a.h a.n) same) in
    let line = stored_line stored (omega (arith, stored.place, within)) (le_refl _) in
    record { further = f; there = there; fits = within; count = line.1.0; contents = line.0 }

pub loop-next-init : goal.loop-next-init
loop-next-init c =
    let none = pieces_none c.args.net.now c.args.w c.args.h c.args.n in
    (omega arith, omega arith, stored_as (record { contents = refl; place = refl }) none)

pub loop-next-preserved : goal.loop-next-preserved
loop-next-preserved c =
    let added = c.add_piece-at in
    let more = pieces_more c.args.net.now c.args.w c.args.h c.args.n c.loop-next.next c.loop-next.auto.next in (
      omega (arith, added.ensures.upper_bound),
      omega arith,
      stored_as (stored_then c.loop-next.invariant.2 added.ensures.stored) more,
    )

-- no line was sure to fit, so that a piece was collected
pub returns-then-last-at : goal.returns-then-last-at
returns-then-last-at c =
    collected (goal.at.returns-then-last-at c).At-loop-next c.loop-next.next refl
    (omega (arith, c.if-last-at.true, c.loop-next.invariant.0)) (omega arith)

pub returns : goal.returns
returns c =
    collected (goal.at.returns c).At-loop-next (1 + c.args.w * c.args.h)
    (omega (arith, c.loop-next-test.false, c.loop-next.auto.next-end, c.requires.1))
    (omega (arith, c.requires.1)) (omega arith)

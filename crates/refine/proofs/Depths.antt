-- What is known of sides and steps where 1 and 4 do not refuse.
use mathlib.Core.Path.{◌≡◌, sym}
use mathlib.Core.Bool.{false, ◌||◌}
use Prim.Native.Nat.{ℕ}
use lib.Dec.{ltb}
use borrow.Author.Tests.{ltb-false, le-ltb}
use Rattle.net.specs.Refusals.{bad_size}
use Rattle.net.proofs.Faults.{or_none, or_no}
use Rattle.net.proofs.Places.{good_size}
use Rattle.subdivision.specs.Refinement.{side_after}
use Rattle.steps.specs.Steps.{Depth}
use Rattle.refine.specs.Refusals.{too_deep}

pub good_depth : (w h k : ℕ) → bad_size w h ≡ false → too_deep w h k ≡ false → Depth w h k
good_depth w h k e f =
    let size = good_size w h e in
    let g = or_none (ltb 6 k) (ltb 1025 (side_after k w) || ltb 1025 (side_after k h)) f in
    let sides = or_none (ltb 1025 (side_after k w)) (ltb 1025 (side_after k h)) g.1 in
    record {
      few = ltb-false 6 k g.0;
      wide = size.wide;
      narrow = ltb-false 1025 (side_after k w) sides.0;
      high = size.high;
      low = ltb-false 1025 (side_after k h) sides.1;
    }

pub not_deep : {w h k : ℕ} → Depth w h k → too_deep w h k ≡ false
not_deep {w} {h} {k} g =
    sym (or_no (ltb 6 k) _ (le-ltb 6 k g.few)
    (or_no (ltb 1025 (side_after k w)) (ltb 1025 (side_after k h)) (le-ltb 1025 (side_after k w) g.narrow)
    (sym (le-ltb 1025 (side_after k h) g.low))))

-- `outline::bytes::bad_byte` meets its contract: the bytes of the net's triangles are the front of the outline.
use mathlib.Core.Path.{ap, ◌∙◌}
use Prim.Native.Nat.{ℕ}
use lib.ListN.{take}
use Rattle.outline.specs.Refusals.{any_above_one, bad_byte}
use Rattle.outline.proofs.bytes.bad_byte.Goals as goal

pub returns : goal.returns
unfolding bad_byte
returns c =
    let s = c in
    c.any_above_one.ensures
    ∙ ap (λ (n : ℕ). any_above_one (take n s.args.outline.now)) c.count_triangles-n.ensures

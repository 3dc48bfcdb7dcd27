-- `outline::search::one_root` meets its contract: the loop has counted the roots before t.
use mathlib.Core.Path.{◌≡◌, refl, sym}
use mathlib.Core.Bool.{Bool, true, false}
use Prim.Native.Nat.{◌≤◌}
use native.Mathlib.Omega.{arith}
use mir.Val.{bool_byte}
use Rattle.graphs.specs.Links.{bit}
use Rattle.outline.specs.Search.{is_root}
use Rattle.graphs.proofs.LinkLaws.{count_start, count_more}
use Rattle.outline.proofs.search.one_root.Goals as goal

-- a test that is added as a number
bit_small : (b : Bool) → (bool_byte b ≡ bit b) × (bit b ≤ 1)
bit_small true = (refl, omega arith)
bit_small false = (refl, omega arith)

pub loop-t-init : goal.loop-t-init
loop-t-init c = (sym (count_start (is_root c.args.outline.now c.args.links.now)), omega arith)

pub loop-t-preserved : goal.loop-t-preserved
loop-t-preserved c =
    let f = is_root c.args.outline.now c.args.links.now in
    let at = c.loop-t in (
      omega (arith, at.invariant.0, count_more at.t f, bit_small (f at.t)),
      omega (arith, at.invariant.1, bit_small (f at.t)),
    )

-- `fine_outline::rows::write_cell` meets its contract: each iteration stores one byte more.
use mathlib.Core.Path.{refl, sym, ◌∙◌}
use Prim.Native.Nat.{◌+◌}
use native.Mathlib.Nat.{mul-one}
use lib.ListN.{set}
use Rattle.exact.proofs.FillingLaws.{runs_none, runs_more}
use Rattle.fine_outline.proofs.rows.write_cell.Invariants.{byte_at}
use Rattle.fine_outline.proofs.rows.write_cell.Goals as goal

pub loop-n-init : goal.loop-n-init
loop-n-init c = runs_none _ _ _

pub loop-n-preserved : goal.loop-n-preserved
loop-n-preserved c =
    let at = c.loop-n in
    let a = c.args in
    (λ t. set (at.invariant t) (a.at + sym (mul-one at.n) t) (c.parent_byte-b.ensures t))
    ∙ runs_more a.fine.now a.at at.n 1 (byte_at a.up a.down a.s a.g) (λ m h. refl)

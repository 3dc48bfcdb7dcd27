-- `bezier::bezier::store_ordinates` meets its contract: each iteration stores one number more.
use mathlib.Core.Path.{◌∙◌}
use Prim.Native.Nat.{◌+◌, ◌*◌}
use lib.IntN.{pos}
use lib.ListN.{get_or, set}
use mir.Syntax.{w32}
use Rattle.exact.proofs.SignedCode.{reads_back}
use Rattle.bezier.proofs.Placing.{placed_none, placed_more}
use Rattle.bezier.proofs.bezier.store_ordinates.Goals as goal

pub loop-n-init : goal.loop-n-init
loop-n-init c = placed_none _ _ _

pub loop-n-preserved : goal.loop-n-preserved
loop-n-preserved c =
    let numbers = c.args.numbers in
    let x = c.args.x in
    let n = c.loop-n.n in
    (λ t. set (c.loop-n.invariant t) (3 * n + x) (reads_back w32 (get_or numbers n (pos 0)) c.number-1.given t))
    ∙ placed_more n x numbers c.args.out.now

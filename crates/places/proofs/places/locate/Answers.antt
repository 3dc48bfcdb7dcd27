-- `places::places::locate` meets its contract.
use mathlib.Core.Bool.{true, false}
use borrow.Author.Tests.{lt-ltb, le-ltb}
use Rattle.places.proofs.Cells.{placed}
use Rattle.places.proofs.places.locate.Goals as goal

pub returns-then-f-g-gt1024 : goal.returns-then-f-g-gt1024
returns-then-f-g-gt1024 c =
    let a = c.args in
    placed a.size.w a.size.h a.p a.q true c.cell_of-i.ensures c.cell_of-j.ensures
    (lt-ltb _ _ c.if-f-g-gt1024.true)

pub returns-else-f-g-gt1024 : goal.returns-else-f-g-gt1024
returns-else-f-g-gt1024 c =
    let a = c.args in
    placed a.size.w a.size.h a.p a.q false c.cell_of-i.ensures c.cell_of-j.ensures
    (le-ltb _ _ c.if-f-g-gt1024.false)

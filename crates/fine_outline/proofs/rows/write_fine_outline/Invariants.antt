-- `fine_outline::rows::write_fine_outline` meets its contract: each iteration stores one row more, and the rows are the
-- fine outline (`by_rows_lem`).
use mathlib.Core.Path.{◌≡◌}
use Rattle.exact.specs.Filling.{over, runs}
use Rattle.fine_outline.specs.Rows.{row_run}
use Rattle.fine_outline.proofs.rows.write_fine_outline.Given as goal

abbrev pub invariant-loop-r : goal.invariant-loop-r
invariant-loop-r l = l.fine ≡ over (runs l.r (row_run l.outline l.steps.w l.s)) l.initial.fine

-- `fine_outline::rows::write_row` meets its contract: each iteration stores the part of one cell more.
use mathlib.Core.Path.{◌≡◌}
use lib.Seq.{sets}
use Rattle.exact.specs.Filling.{runs}
use Rattle.fine_outline.specs.Rows.{part_run}
use Rattle.fine_outline.proofs.rows.write_row.Given as goal

abbrev pub invariant-loop-i : goal.invariant-loop-i
invariant-loop-i l = l.fine ≡ sets l.initial.fine l.at (runs l.i (part_run l.outline l.w l.s l.r))

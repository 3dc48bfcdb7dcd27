-- `coarse::coarse::coarse_row_beyond` meets its contract: what was found is whether a number of a vertex before i is
-- beyond the range.
use mathlib.Core.Path.{◌≡◌}
use Rattle.exact.specs.Filling.{runs}
use Rattle.net.specs.Refusals.{any_beyond}
use Rattle.coarse.proofs.CoarseLaws.{run_in_row}
use Rattle.coarse.proofs.coarse.coarse_row_beyond.Given as goal

abbrev pub invariant-loop-i : goal.invariant-loop-i
invariant-loop-i l =
    l.bad ≡ any_beyond (runs l.i (run_in_row l.net l.w l.j))

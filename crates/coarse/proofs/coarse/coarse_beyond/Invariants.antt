-- `coarse::coarse::coarse_beyond` meets its contract: what was found is whether a number of a row before j is beyond
-- the range.
use mathlib.Core.Path.{◌≡◌}
use Rattle.exact.specs.Filling.{runs}
use Rattle.net.specs.Refusals.{any_beyond}
use Rattle.steps.specs.RefinedNet.{row_run}
use Rattle.coarse.specs.Coarse.{coarse_side, coarse_fields}
use Rattle.coarse.proofs.coarse.coarse_beyond.Given as goal

abbrev pub invariant-loop-j : goal.invariant-loop-j
invariant-loop-j l =
    l.bad ≡ any_beyond (runs l.j (row_run (coarse_fields l.net l.w) (coarse_side l.w)))

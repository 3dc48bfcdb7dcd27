-- `coarse::coarse::store_coarse` meets its contract.
use mathlib.Core.Path.{◌≡◌}
use Rattle.exact.specs.Filling.{over, runs}
use Rattle.steps.specs.RefinedNet.{row_run}
use Rattle.coarse.specs.Coarse.{coarse_side, coarse_fields}
use Rattle.coarse.proofs.coarse.store_coarse.Given as goal

abbrev pub invariant-loop-j : goal.invariant-loop-j
invariant-loop-j l =
    l.coarse ≡ over (runs l.j (row_run (coarse_fields l.net l.w) (coarse_side l.w))) l.initial.coarse

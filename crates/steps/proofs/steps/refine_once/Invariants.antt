-- `steps::steps::refine_once` meets its contract.
use mathlib.Core.Path.{◌≡◌}
use Rattle.exact.specs.Filling.{over, runs}
use Rattle.subdivision.specs.Refinement.{refined_side}
use Rattle.steps.specs.RefinedNet.{refined_fields, row_run}
use Rattle.steps.proofs.steps.refine_once.Given as goal

abbrev pub invariant-loop-j : goal.invariant-loop-j
invariant-loop-j l =
    l.out ≡ over (runs l.j (row_run (refined_fields l.net l.w) (refined_side l.w))) l.initial.out

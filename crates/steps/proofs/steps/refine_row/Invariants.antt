-- `steps::steps::refine_row` meets its contract.
use mathlib.Core.Path.{◌≡◌}
use lib.Seq.{sets}
use Rattle.exact.specs.Filling.{runs}
use Rattle.steps.specs.RefinedNet.{refined_fields}
use Rattle.steps.specs.Steps.{pair_run}
use Rattle.steps.proofs.steps.refine_row.Given as goal

abbrev pub invariant-loop-m : goal.invariant-loop-m
invariant-loop-m l =
    l.out ≡ sets l.initial.out l.at (runs l.m (pair_run (refined_fields l.net l.w) l.w l.j))

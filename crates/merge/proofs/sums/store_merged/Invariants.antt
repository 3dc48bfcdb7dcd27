-- `merge::sums::store_merged` meets its contract.
use mathlib.Core.Path.{◌≡◌}
use Rattle.exact.specs.Filling.{over, runs}
use Rattle.subdivision.specs.Refinement.{refined_side}
use Rattle.steps.specs.RefinedNet.{row_run}
use Rattle.merge.specs.Merge.{merged_fields}
use Rattle.merge.proofs.sums.store_merged.Given as goal

abbrev pub invariant-loop-j : goal.invariant-loop-j
invariant-loop-j l =
    l.out ≡ over (runs l.j (row_run (merged_fields l.coarse l.details l.w) (refined_side l.w))) l.initial.out

-- `merge::sums::rows_beyond` meets its contract: what was found is whether a number before row j is beyond the range.
use mathlib.Core.Path.{◌≡◌}
use Rattle.exact.specs.Filling.{runs}
use Rattle.net.specs.Refusals.{any_beyond}
use Rattle.subdivision.specs.Refinement.{refined_side}
use Rattle.steps.specs.RefinedNet.{row_run}
use Rattle.merge.specs.Merge.{merged_fields}
use Rattle.merge.proofs.sums.rows_beyond.Given as goal

abbrev pub invariant-loop-j : goal.invariant-loop-j
invariant-loop-j l =
    l.bad ≡ any_beyond (runs l.j (row_run (merged_fields l.coarse l.details l.w) (refined_side l.w)))

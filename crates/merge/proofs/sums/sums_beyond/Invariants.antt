-- `merge::sums::sums_beyond` meets its contract: what was found is whether a sum before column i is beyond the range.
use mathlib.Core.Path.{◌≡◌}
use mathlib.Core.List.{List}
use Prim.Native.Nat.{ℕ}
use lib.IntN.{ℤ}
use Rattle.exact.specs.Filling.{runs}
use Rattle.net.specs.Net.{vertex_at}
use Rattle.net.specs.Refusals.{any_beyond}
use Rattle.steps.specs.RefinedNet.{vertex_run}
use Rattle.merge.specs.Merge.{row_sums}
use Rattle.merge.proofs.sums.sums_beyond.Given as goal

-- the sums of column i
abbrev pub sums_at : List ℤ → List ℤ → ℕ → ℕ → ℕ → List ℤ
sums_at row details w j i = vertex_run (row_sums row details w) (vertex_at i j)

abbrev pub invariant-loop-i : goal.invariant-loop-i
invariant-loop-i l =
    l.bad ≡ any_beyond (runs l.i (sums_at l.row l.details l.w l.j))

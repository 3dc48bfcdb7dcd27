-- `merge::sums::store_sums` meets its contract.
use mathlib.Core.Path.{◌≡◌}
use mathlib.Core.List.{List}
use Prim.Native.Nat.{ℕ}
use lib.IntN.{ℤ}
use lib.Seq.{sets}
use Rattle.exact.specs.Filling.{runs}
use Rattle.net.specs.Net.{vertex_at}
use Rattle.steps.specs.RefinedNet.{vertex_run}
use Rattle.merge.specs.Merge.{row_sums}
use Rattle.merge.proofs.sums.store_sums.Given as goal

-- the sums of column i
abbrev pub sums_at : List ℤ → List ℤ → ℕ → ℕ → ℕ → List ℤ
sums_at row details w j i = vertex_run (row_sums row details w) (vertex_at i j)

abbrev pub invariant-loop-i : goal.invariant-loop-i
invariant-loop-i l =
    l.out ≡ sets l.initial.out l.at (runs l.i (sums_at l.row l.details l.w l.j))

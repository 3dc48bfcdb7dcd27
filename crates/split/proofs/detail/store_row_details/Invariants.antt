-- `split::detail::store_row_details` meets its contract.
use mathlib.Core.Path.{◌≡◌}
use mathlib.Core.List.{List}
use Prim.Native.Nat.{ℕ}
use lib.IntN.{ℤ}
use lib.Seq.{sets}
use Rattle.exact.specs.Filling.{runs}
use Rattle.net.specs.Net.{vertex_at}
use Rattle.details.specs.Details.{detail_run}
use Rattle.split.specs.Split.{row_differences}
use Rattle.split.proofs.detail.store_row_details.Given as goal

-- the details of column i
abbrev pub details_at : List ℤ → List ℤ → ℕ → ℕ → ℕ → List ℤ
details_at net row w j i = detail_run (row_differences net row w) (vertex_at i j)

abbrev pub invariant-loop-i : goal.invariant-loop-i
invariant-loop-i l =
    l.details ≡ sets l.initial.details l.at (runs l.i (details_at l.net l.row l.w l.j))

-- `split::detail::store_differences` meets its contract.
use mathlib.Core.Path.{◌≡◌}
use mathlib.Core.List.{List}
use Prim.Native.Nat.{ℕ}
use lib.IntN.{ℤ}
use Rattle.exact.specs.Filling.{over, runs}
use Rattle.net.specs.Net.{field, grid_row}
use Rattle.details.specs.Details.{detail_run}
use Rattle.coarse.specs.Coarse.{coarse_side}
use Rattle.split.specs.Split.{detail_of}
use Rattle.split.proofs.detail.store_differences.Given as goal

-- the details of row j
abbrev pub details_on : List ℤ → List ℤ → ℕ → ℕ → List ℤ
details_on net coarse w = grid_row (detail_run (λ x. detail_of (field net w x) (field coarse (coarse_side w) x))) w

abbrev pub invariant-loop-j : goal.invariant-loop-j
invariant-loop-j l =
    l.details ≡ over (runs l.j (details_on l.net l.coarse l.w)) l.initial.details

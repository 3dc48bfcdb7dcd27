-- `hermite::nets::store_hermite` meets its contract.
use mathlib.Core.Path.{◌≡◌}
use Rattle.exact.specs.Filling.{over, runs}
use Rattle.hermite.proofs.HermiteLaws.{hermite_run}
use Rattle.hermite.proofs.nets.store_hermite.Given as goal

abbrev pub invariant-loop-n : goal.invariant-loop-n
invariant-loop-n l = l.out ≡ over (runs l.n (hermite_run l.given l.w)) l.initial.out

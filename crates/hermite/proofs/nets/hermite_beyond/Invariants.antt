-- `hermite::nets::hermite_beyond` meets its contract.
use mathlib.Core.Path.{◌≡◌}
use mathlib.Core.Bool.{false}
use Rattle.exact.specs.Filling.{runs}
use Rattle.net.specs.Refusals.{any_beyond}
use Rattle.hermite.proofs.HermiteLaws.{hermite_run}
use Rattle.hermite.proofs.nets.hermite_beyond.Given as goal

abbrev pub invariant-loop-n : goal.invariant-loop-n
invariant-loop-n l = any_beyond (runs l.n (hermite_run l.given l.w)) ≡ false

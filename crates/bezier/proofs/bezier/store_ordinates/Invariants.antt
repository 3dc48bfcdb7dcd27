-- `bezier::bezier::store_ordinates` meets its contract: each iteration stores one number more.
use mathlib.Core.Path.{◌≡◌}
use Rattle.bezier.specs.Weights.{placed}
use Rattle.bezier.proofs.bezier.store_ordinates.Given as goal

abbrev pub invariant-loop-n : goal.invariant-loop-n
invariant-loop-n l = l.out ≡ placed l.n l.x l.fn.numbers l.initial.out

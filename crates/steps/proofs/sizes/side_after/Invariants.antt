-- `steps::sizes::side_after` meets its contract.
use mathlib.Core.Path.{◌≡◌}
use Rattle.subdivision.specs.Refinement.{side_after}
use Rattle.steps.proofs.sizes.side_after.Given as goal

abbrev pub invariant-loop : goal.invariant-loop
invariant-loop l = l.side ≡ side_after l.counter l.n

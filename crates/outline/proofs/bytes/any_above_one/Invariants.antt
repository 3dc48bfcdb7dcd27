-- `outline::bytes::any_above_one` meets its contract: a byte above 1, if any, was found or is one of those that follow.
use mathlib.Core.Path.{◌≡◌}
use mathlib.Core.Bool.{◌||◌}
use lib.ListN.{drop}
use Rattle.outline.specs.Refusals.{any_above_one}
use Rattle.outline.proofs.bytes.any_above_one.Given as goal

abbrev pub invariant-loop-b : goal.invariant-loop-b
invariant-loop-b l = (l.bad || any_above_one (drop l.b-index l.bytes)) ≡ any_above_one l.bytes

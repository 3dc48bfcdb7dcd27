-- `net::storage::any_outside` meets its contract: what was found is whether a number so far is outside the limit.
use mathlib.Core.Path.{◌≡◌}
use lib.ListN.{take}
use Rattle.net.specs.Refusals.{any_outside}
use Rattle.net.proofs.storage.any_outside.Given as goal

abbrev pub invariant-loop-z : goal.invariant-loop-z
invariant-loop-z l = l.bad ≡ any_outside l.limit (take l.z-index l.numbers)

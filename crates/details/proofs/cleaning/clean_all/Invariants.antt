-- `details::cleaning::clean_all` meets its contract: the details so far are cleaned, the others are as they were.
use mathlib.Core.Path.{◌≡◌}
use mathlib.Core.List.{map}
use lib.ListN.{take}
use Rattle.exact.specs.Filling.{over}
use Rattle.details.specs.Cleaning.{cleaned}
use Rattle.details.proofs.cleaning.clean_all.Given as goal

abbrev pub invariant-loop-z : goal.invariant-loop-z
invariant-loop-z l =
    l.z-items ≡ over (map (cleaned l.t) (take l.z-index l.initial.z-items)) l.initial.z-items

-- `outline::search::one_root` meets its contract: the loop has counted the roots before t.
use mathlib.Core.Path.{◌≡◌}
use Prim.Native.Nat.{◌≤◌}
use Rattle.outline.specs.Search.{roots}
use Rattle.outline.proofs.search.one_root.Given as goal

abbrev pub invariant-loop-t : goal.invariant-loop-t
invariant-loop-t l = (l.count ≡ roots l.outline l.links l.t) × (l.count ≤ l.t)

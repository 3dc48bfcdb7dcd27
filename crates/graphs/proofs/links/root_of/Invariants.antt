-- `graphs::links::root_of` meets its contract: the root of r is the root of t, and `up` is the link of r.
use mathlib.Core.Path.{◌≡◌}
use Prim.Native.Nat.{ℕ, ◌<◌}
use lib.ListN.{length}
use Rattle.graphs.specs.Links.{link, Root}
use Rattle.graphs.proofs.links.root_of.Given as goal

abbrev pub invariant-loop-up : goal.invariant-loop-up
invariant-loop-up l =
    (l.r < length l.links) × (l.up ≡ link l.links l.r) × ((x : ℕ) → Root l.links l.r x → Root l.links l.t x)

abbrev pub decreases-loop-up : goal.decreases-loop-up
decreases-loop-up l =
    l.r

-- `graphs::links::link_self` meets its contract: each iteration stores one run of one number more.
use mathlib.Core.Path.{◌≡◌}
use mathlib.Core.List.{List, [], ◌∷◌}
use Prim.Native.Nat.{ℕ}
use Rattle.exact.specs.Filling.{over, runs}
use Rattle.graphs.proofs.links.link_self.Given as goal

abbrev pub own : ℕ → List ℕ
own t = t ∷ []

abbrev pub invariant-loop-t : goal.invariant-loop-t
invariant-loop-t l = l.links ≡ over (runs l.t own) l.initial.links

-- `surface::points::evaluate` meets its contract: each iteration stores one coordinate more.
use mathlib.Core.Bool.{Bool}
use mathlib.Core.Path.{◌≡◌}
use mathlib.Core.List.{List, [], ◌∷◌}
use Prim.Native.Nat.{ℕ}
use lib.IntN.{ℤ}
use Rattle.exact.specs.Filling.{over, runs}
use Rattle.surface.specs.Evaluation.{evaluated}
use Rattle.surface.proofs.points.evaluate.Given as goal

-- a coordinate, as a run
abbrev pub single : Bool → ℕ → ℕ → ℕ → List (List (List ℤ)) → ℕ → List ℤ
single ahead a b g c x = evaluated ahead a b g c x ∷ []

abbrev pub invariant-loop-i : goal.invariant-loop-i
invariant-loop-i l = l.value-items ≡ over (runs l.i (single l.ahead l.a l.b l.g l.c)) l.initial.value-items

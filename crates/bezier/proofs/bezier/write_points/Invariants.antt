-- `bezier::bezier::write_points` meets its contract: each iteration stores one coordinate more.
use mathlib.Core.Path.{◌≡◌}
use mathlib.Core.List.{List}
use Prim.Native.Nat.{ℕ}
use lib.IntN.{ℤ}
use Rattle.triangles.specs.Corners.{values_in}
use Rattle.bezier.specs.Weights.{points_of}
use Rattle.bezier.proofs.Placing.{passes}
use Rattle.bezier.proofs.bezier.write_points.Given as goal

-- the 19 points in coordinate x
abbrev pub points : List (List (List ℤ)) → ℕ → List ℤ
points controls x = points_of (values_in controls x)

abbrev pub invariant-loop-x : goal.invariant-loop-x
invariant-loop-x l = l.out ≡ passes l.x (points l.controls) l.initial.out

-- Numbers beyond 9wh do not matter: the refusals of the refined point are those of the net cut after its 9wh numbers.
use mathlib.Core.Path.{◌≡◌}
use mathlib.Core.Bool.{Bool}
use mathlib.Core.List.{List, ◌∷◌, ◌++◌}
use Prim.Native.Nat.{ℕ}
use lib.IntN.{ℤ}
use Rattle.net.specs.Refusals.{first_fault}
use Rattle.net.proofs.Beyond.{cut}
use Rattle.refine.specs.Refusals.{size_faults}
use Rattle.refine.proofs.CutNets.{cut_faults}
use Rattle.refined_points.specs.Refusals.{refined_point_refusal, off_grid}

pub cut_refined_point_refusal : (net : List ℤ) (w h : ℕ) (short : Bool) (k p q : ℕ) →
    refined_point_refusal net w h k p q short ≡ refined_point_refusal (cut net w h) w h k p q short
cut_refined_point_refusal net w h short k p q =
    λ t. first_fault (size_faults w h k ++ (off_grid w h k p q, 6) ∷ cut_faults net w h short t)

-- Numbers beyond 9wh do not matter: the refusals and the points of a seam are those of the net cut after its 9wh numbers.
use mathlib.Core.Path.{◌≡◌}
use mathlib.Core.Bool.{Bool}
use mathlib.Core.List.{List, ◌++◌}
use Prim.Native.Nat.{ℕ}
use lib.IntN.{ℤ}
use Rattle.net.specs.Refusals.{first_fault}
use Rattle.net.proofs.Beyond.{cut}
use Rattle.surface.specs.SurfacePoint.{surface_point}
use Rattle.subdivision.specs.Refinement.{side_after}
use Rattle.refine.proofs.CutNets.{cut_faults, cut_refined}
use Rattle.seam.specs.Refusals.{places_faults, seam_refusal}
use Rattle.seam.specs.Answers.{seam_points}

module _ (net : List ℤ) (w h k l p q p2 q2 : ℕ) where
  pub cut_seam_refusal : (short : Bool) →
      seam_refusal net w h k l p q p2 q2 short ≡ seam_refusal (cut net w h) w h k l p q p2 q2 short
  cut_seam_refusal short = λ t. first_fault (places_faults w h k l p q p2 q2 ++ cut_faults net w h short t)

  pub cut_seam_points : seam_points net w h k l p q p2 q2 ≡ seam_points (cut net w h) w h k l p q p2 q2
  cut_seam_points =
      λ t. surface_point (cut_refined net w h k t) (side_after k w) (side_after k h) p q
      ++ surface_point (cut_refined net w h l t) (side_after l w) (side_after l h) p2 q2

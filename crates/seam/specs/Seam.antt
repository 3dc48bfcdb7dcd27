-- The seam (the papers' term: the parting line of a mould, along which its two halves, refined to different depths, are
-- closed on each other): how far apart the two halves' points can be. `seam` in proofs/Seam.antt proves it.
use Rattle.std.specs.Prelude.{◌≡◌, refl, List, [], ◌∷◌, ℕ, ◌+◌, ◌*◌, ◌^◌, ◌≤◌, ◌<◌, ℤ, pos, nat_abs, ◌-ℤ◌}
use Rattle.std.proofs.Common.{ap, arith, lit<}
use Rattle.net.specs.Net.{number}
use Rattle.places.specs.Places.{OnGrid}
use Rattle.surface.specs.Answers.{point_answer}
use Rattle.subdivision.specs.Refinement.{side_after}
use Rattle.refine.specs.Answers.{refusal_of, refine_output}
use Rattle.refined_points.specs.DemandThree.{Claimed}

-- place (p, q) after k steps and place (p2, q2) after l steps are the same place of the starting net
abbrev pub SamePlace : ℕ → ℕ → ℕ → ℕ → ℕ → ℕ → Type 0
SamePlace k l p q p2 q2 = (p * 2 ^ l ≡ p2 * 2 ^ k) × (q * 2 ^ l ≡ q2 * 2 ^ k)

-- what is claimed of the answers a and b at these places: demand 3 of each, so both are points; in each coordinate they
-- differ by at most (k + l + 2)/2 units, said doubled; and for k = l they are equal
pub record SeamClaimed (net : List ℤ) (w h k l p q p2 q2 : ℕ) (a b : ℕ × List ℤ) : Type 0 where
  pub first : Claimed net w h k p q a
  pub second : Claimed net w h l p2 q2 b
  pub distance : (x : ℕ) → x < 3 → 2 * nat_abs (number a.1 x -ℤ number b.1 x) ≤ k + l + 2
  pub equal : k ≡ l → a ≡ b

-- of every net and every two depths that refining accepts, each with slices of its own, at every place of both grids
abbrev pub Seam : Type 0
Seam =
    (net : List ℤ) (w h k l : ℕ) (out scratch out2 scratch2 : List ℤ) → refusal_of net w h k out scratch ≡ 0 → refusal_of net w h l out2 scratch2 ≡ 0 →
    (p q p2 q2 : ℕ) → OnGrid 1024 (side_after k w) (side_after k h) p q → SamePlace k l p q p2 q2 →
    SeamClaimed net w h k l p q p2 q2 (point_answer (refine_output net w h k out scratch) (side_after k w) (side_after k h) p q)
    (point_answer (refine_output net w h l out2 scratch2) (side_after l w) (side_after l h) p2 q2)

-- worked case: not claimed are points that differ by 3 in y after one step and after two, or by 1 after one step each
too_far : (net : List ℤ) → (SeamClaimed net 2 2 1 2 6 10 12 20 (0, pos 3 ∷ pos 5 ∷ pos 7 ∷ []) (0, pos 3 ∷ pos 8 ∷ pos 7 ∷ []) → ⊥)
    × (SeamClaimed net 2 2 1 1 6 10 6 10 (0, pos 3 ∷ pos 5 ∷ pos 7 ∷ []) (0, pos 3 ∷ pos 6 ∷ pos 7 ∷ []) → ⊥)
too_far net = ((λ c. omega (arith, c.distance 1 (lit< tt))), (λ c. omega (arith, ap (λ (o : ℕ × List ℤ). nat_abs (number o.1 1)) (c.equal refl))))

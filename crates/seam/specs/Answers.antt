-- The number and the six values for each case of the answer, and what the call answers.
use Rattle.std.specs.Prelude.{◌≡◌, refl, Bool, true, false, cond, ◌||◌, List, [], ◌∷◌, ◌++◌, ℕ, ℤ, pos, negsuc, length, take, drop, replicate, Result, Ok, Err}
use Rattle.exact.specs.Rounding.{rounded, floor_quotient}
use Rattle.exact.specs.Filling.{runs}
use Rattle.net.specs.Net.{control_point, control_triangle, grid, squares}
use Rattle.net.specs.Refusals.{accepted, net_beyond}
use Rattle.net.specs.Results.{refusal_number}
use Rattle.net.specs.declared.refusals.Refusal.{Refusal}
use Rattle.net.specs.declared.refusals.Refusal.TheVariants as refusal
use Rattle.spline.specs.Spline.{spline}
use Rattle.surface.specs.SurfacePoint.{coordinate}
use Rattle.surface.specs.declared.answers.Point.{Point}
use Rattle.subdivision.specs.Refinement.{exact_refinement, refinement}
use Rattle.steps.specs.RefinedNet.{stored, refined_net}
use Rattle.refine.specs.Refusals.{too_short}
use Rattle.refined_points.specs.Answers.{refined_surface_point}
use Rattle.seam.specs.Refusals.{seam_refusal}
use Rattle.seam.specs.Seam.{SeamClaimed}

-- the number, and x, y, z of the point after k steps and then of the point after l steps; none where it is refused
abbrev pub seam_outcome : Result (Point × Point) Refusal → ℕ × List ℤ
seam_outcome (Ok (a, b)) = (0, a.x ∷ a.y ∷ a.z ∷ b.x ∷ b.y ∷ b.z ∷ [])
seam_outcome (Err r) = (refusal_number r, [])

-- the first fault, where `other` is whether another lent output is too short
abbrev pub seam_refusal_at : List ℤ → ℕ → ℕ → ℕ → ℕ → ℕ → ℕ → ℕ → ℕ → Bool → List ℤ → List ℤ → List ℤ → List ℤ → ℕ
seam_refusal_at net w h k l p q p2 q2 other out scratch out2 scratch2 =
    seam_refusal net w h k l p q p2 q2
    ((other || too_short w h k (length out) (length scratch)) || too_short w h l (length out2) (length scratch2))

-- the two points: of the net refined by k steps and of the net refined by l steps
abbrev pub seam_points : List ℤ → ℕ → ℕ → ℕ → ℕ → ℕ → ℕ → ℕ → ℕ → List ℤ
seam_points net w h k l p q p2 q2 = refined_surface_point net w h k p q ++ refined_surface_point net w h l p2 q2

abbrev pub seam_answer : List ℤ → ℕ → ℕ → ℕ → ℕ → ℕ → ℕ → ℕ → ℕ → Bool → List ℤ → List ℤ → List ℤ → List ℤ → ℕ × List ℤ
seam_answer net w h k l p q p2 q2 other out scratch out2 scratch2 = (
  seam_refusal_at net w h k l p q p2 q2 other out scratch out2 scratch2,
  cond (accepted (seam_refusal_at net w h k l p q p2 q2 other out scratch out2 scratch2))
      (seam_points net w h k l p q p2 q2) [],
)

-- the theorem of an answer's number and its six numbers, the first three after k steps and the next after l
abbrev pub SeamHolds : List ℤ → ℕ → ℕ → ℕ → ℕ → ℕ → ℕ → ℕ → ℕ → ℕ → List ℤ → Type 0
SeamHolds net w h k l p q p2 q2 n six = SeamClaimed net w h k l p q p2 q2 (n, take 3 six) (n, take 3 (drop 3 six))

-- worked cases: outcomes of answers; of the net of 2 by 3 whose numbers are the squares, the points after no step and
-- after one at the same place, which differ by 1 in each coordinate, and with the depths exchanged; each output too
-- short by a number, and another output that is too short
outcomes :
    (seam_outcome (Ok (record { x = pos 1; y = pos 2; z = negsuc 2 }, record { x = pos 4; y = negsuc 4; z = pos 6 }))
    ≡ (0, pos 1 ∷ pos 2 ∷ negsuc 2 ∷ pos 4 ∷ negsuc 4 ∷ pos 6 ∷ []))
    × (seam_outcome (Err refusal.Depth) ≡ (4, []))
outcomes = (refl, refl)

abbrev answer_of : ℕ → ℕ → ℕ → ℕ → ℕ → ℕ → Bool → ℕ → ℕ → ℕ × List ℤ
answer_of k l p q p2 q2 other room room2 =
    seam_answer (squares 54) 2 3 k l p q p2 q2 other (replicate room (pos 0)) [] (replicate room2 (pos 0)) []

answers :
    (answer_of 0 1 38 213 76 426 false 54 135 ≡ (0, pos 58 ∷ pos 67 ∷ pos 78 ∷ pos 59 ∷ pos 68 ∷ pos 79 ∷ []))
    × (answer_of 1 0 76 426 38 213 false 135 54 ≡ (0, pos 59 ∷ pos 68 ∷ pos 79 ∷ pos 58 ∷ pos 67 ∷ pos 78 ∷ []))
    × (answer_of 0 1 38 213 76 426 false 53 135 ≡ (5, []))
    × (answer_of 0 1 38 213 76 426 false 54 134 ≡ (5, []))
    × (answer_of 0 1 38 213 76 426 true 54 135 ≡ (5, []))
unfolding net_beyond coordinate spline refined_net stored grid runs refinement exact_refinement rounded floor_quotient control_triangle control_point
answers = (refl, refl, refl, refl, refl)

-- of the net of 2 by 2, two steps and three need a scratch of 81 and of 225 numbers
abbrev scratches : ℕ → ℕ → ℕ
scratches m n =
    seam_refusal_at (squares 36) 2 2 2 3 0 0 0 0 false (replicate 225 (pos 0)) (replicate m (pos 0)) (replicate 729 (pos 0))
    (replicate n (pos 0))

scratch_lengths : (scratches 81 225 ≡ 0) × (scratches 80 225 ≡ 5) × (scratches 81 224 ≡ 5)
unfolding net_beyond
scratch_lengths = (refl, refl, refl)

-- of six numbers, the first three and the next are the two points
two_points : (net : List ℤ) →
    SeamHolds net 2 3 0 1 38 213 76 426 0 (pos 58 ∷ pos 67 ∷ pos 78 ∷ pos 59 ∷ pos 68 ∷ pos 79 ∷ []) →
    SeamClaimed net 2 3 0 1 38 213 76 426 (0, pos 58 ∷ pos 67 ∷ pos 78 ∷ []) (0, pos 59 ∷ pos 68 ∷ pos 79 ∷ [])
two_points net c = c

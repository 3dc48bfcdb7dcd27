-- What a Bézier net answers and leaves in lent memory.
use Rattle.std.specs.Prelude.{◌≡◌, refl, Bool, true, false, List, [], ◌∷◌, ◌++◌, ℕ, ℤ, pos, length, replicate, Ok, Err}
use Rattle.exact.specs.Filling.{over, runs}
use Rattle.net.specs.Net.{triangle_at, numbers, control_point, control_triangle}
use Rattle.net.specs.Refusals.{accepted, output_after}
use Rattle.net.specs.Results.{call_outcome}
use Rattle.net.specs.declared.refusals.Refusal.TheVariants as refusal
use Rattle.bezier.specs.BezierNet.{bezier_points, bezier_numbers}
use Rattle.bezier.specs.Refusals.{bezier_refusal}

-- what a Bézier net answers: the first fault, and that it is carried out exactly where there is none
abbrev pub bezier_answer : List ℤ → ℕ → ℕ → ℕ → ℕ → Bool → ℕ → ℕ × Bool
bezier_answer net w h i j down room =
    (bezier_refusal net w h i j down room, accepted (bezier_refusal net w h i j down room))

-- the Bézier net laid over the front of the lent output, which a refusal leaves as it was
unfoldable pub bezier_output : List ℤ → ℕ → ℕ → ℕ → ℕ → Bool → List ℤ → List ℤ
bezier_output net w h i j down out =
    output_after (bezier_refusal net w h i j down (length out)) (bezier_numbers net w (triangle_at i j down)) out

-- worked cases: outcomes of results; of a net of 5s, accepted with room for one number more, and refused
outcomes :
    (call_outcome {A = Unit {0}} (Ok tt) ≡ (0, true))
    × (call_outcome {A = Unit {0}} (Err refusal.Place) ≡ (6, false))
outcomes = (refl, refl)

abbrev fives : List ℤ
fives = replicate (numbers 2 2) (pos 5)

answers : (bezier_answer fives 2 2 0 0 true 58 ≡ (0, true)) × (bezier_answer fives 2 2 0 0 true 56 ≡ (5, false))
answers = (refl, refl)

outputs :
    (bezier_output fives 2 2 0 0 true (replicate 58 (pos 7)) ≡ replicate 57 (pos 180) ++ pos 7 ∷ [])
    × (bezier_output fives 2 2 0 0 true (replicate 56 (pos 7)) ≡ replicate 56 (pos 7))
unfolding bezier_output bezier_points over runs control_triangle control_point
outputs = (refl, refl)

-- What the calls answer and leave in lent memory.
use Rattle.std.specs.Prelude.{◌≡◌, refl, Bool, true, false, cond, List, [], ◌∷◌, ◌++◌, ℕ, ℤ, pos, length, replicate, Ok, Err}
use Rattle.exact.specs.Filling.{over, runs, UnchangedFrom}
use Rattle.net.specs.Net.{numbers, control_point, control_triangle, grid, squares}
use Rattle.net.specs.Refusals.{net_beyond, accepted, output_after}
use Rattle.net.specs.Results.{call_outcome}
use Rattle.net.specs.declared.refusals.Refusal.TheVariants as refusal
use Rattle.steps.specs.RefinedNet.{stored, refined_net, scratch_need}
use Rattle.refine.specs.Refusals.{too_short, refine_refusal}

-- the first fault of refining into a lent output and with a lent scratch
abbrev pub refusal_of : List ℤ → ℕ → ℕ → ℕ → List ℤ → List ℤ → ℕ
refusal_of net w h k out scratch = refine_refusal net w h k (too_short w h k (length out) (length scratch))

-- what refining answers, and what it leaves in the output
abbrev pub refine_answer : List ℤ → ℕ → ℕ → ℕ → List ℤ → List ℤ → ℕ × Bool
refine_answer net w h k out scratch = (refusal_of net w h k out scratch, accepted (refusal_of net w h k out scratch))

abbrev pub refine_output : List ℤ → ℕ → ℕ → ℕ → List ℤ → List ℤ → List ℤ
refine_output net w h k out scratch = output_after (refusal_of net w h k out scratch) (refined_net net w h k) out

-- 'its first numbers up to that size are free afterwards, the rest unchanged': so many numbers of the scratch are free,
-- none where k is below 2 or the call is refused
abbrev pub free_scratch : ℕ → ℕ → ℕ → ℕ → ℕ
free_scratch refusal k w h = cond (accepted refusal) (scratch_need k w h) 0

-- the scratch before the call and after it
abbrev pub RefineScratch : List ℤ → ℕ → ℕ → ℕ → List ℤ → List ℤ → List ℤ → Type 0
RefineScratch net w h k out scratch after =
    UnchangedFrom (free_scratch (refusal_of net w h k out scratch) k w h) scratch after

-- worked cases: outcomes of results; the scratch that two steps of 2 by 2 leave free, a refusal and one step; the
-- lengths of the output and the scratch that two steps need, not exchanged; and, of the net of 2 by 3 whose numbers are
-- the squares, no step with room for a number more, and refused
outcomes :
    (call_outcome {A = Unit {0}} (Ok tt) ≡ (0, true))
    × (call_outcome {A = Unit {0}} (Err refusal.Depth) ≡ (4, false))
outcomes = (refl, refl)

free : (free_scratch 0 2 2 2 ≡ numbers 3 3) × (free_scratch 5 2 2 2 ≡ 0) × (free_scratch 0 1 2 2 ≡ 0)
free = (refl, refl, refl)

lengths :
    (refusal_of (squares 36) 2 2 2 (replicate 225 (pos 0)) (replicate 81 (pos 0)) ≡ 0)
    × (refusal_of (squares 36) 2 2 2 (replicate 81 (pos 0)) (replicate 225 (pos 0)) ≡ 5)
unfolding net_beyond
lengths = (refl, refl)

answers :
    (refine_answer (squares 54) 2 3 0 (replicate 55 (pos 7)) [] ≡ (0, true))
    × (refine_answer (squares 54) 2 3 0 (replicate 53 (pos 7)) [] ≡ (5, false))
unfolding net_beyond
answers = (refl, refl)

outputs :
    (refine_output (squares 54) 2 3 0 (replicate 55 (pos 7)) [] ≡ squares 54 ++ pos 7 ∷ [])
    × (refine_output (squares 54) 2 3 0 (replicate 53 (pos 7)) [] ≡ replicate 53 (pos 7))
unfolding net_beyond over refined_net stored grid runs control_triangle control_point
outputs = (refl, refl)

-- Document 02, a: what the calls with an outline answer, and what the Bézier net leaves in lent memory. The results
-- are those of the plain calls: 'Points on the door are computed as before'.
use Rattle.std.specs.Prelude.{◌≡◌, refl, Bool, true, false, cond, List, [], ◌∷◌, ℕ, ℤ, pos, Float, length, replicate}
use Rattle.exact.specs.Filling.{over}
use Rattle.net.specs.Net.{triangle_at, numbers, squares}
use Rattle.net.specs.Refusals.{accepted, answer_by, output_after}
use Rattle.outline.specs.Refusals.{bad_byte}
use Rattle.door.specs.Door.{on_door}
use Rattle.bezier.specs.BezierNet.{bezier_numbers}
use Rattle.surface.specs.SurfacePoint.{surface_point}
use Rattle.surface.specs.Answers.{view_point}
use Rattle.outlined_points.specs.Refusals.{triangle_by, outlined_point_refusal, outlined_bezier_refusal}

-- what a surface point answers, where `short` is whether an output lent for it is too short, and where none is lent
abbrev pub outlined_point_answer_with : List ℤ → ℕ → ℕ → List ℕ → ℕ → ℕ → Bool → ℕ × List ℤ
outlined_point_answer_with net w h outline p q short = (
  outlined_point_refusal net w h outline p q short,
  cond (accepted (outlined_point_refusal net w h outline p q short)) (surface_point net w h p q) [],
)

unfoldable pub outlined_point_answer : List ℤ → ℕ → ℕ → List ℕ → ℕ → ℕ → ℕ × List ℤ
outlined_point_answer net w h outline p q = outlined_point_answer_with net w h outline p q false

-- and a viewer's point
abbrev pub outlined_view_answer_with : List ℤ → ℕ → ℕ → List ℕ → ℕ → ℕ → Bool → ℕ × List Float
outlined_view_answer_with net w h outline p q short = (
  outlined_point_refusal net w h outline p q short,
  cond (accepted (outlined_point_refusal net w h outline p q short)) (view_point net w h p q) [],
)

unfoldable pub outlined_view_answer : List ℤ → ℕ → ℕ → List ℕ → ℕ → ℕ → ℕ × List Float
outlined_view_answer net w h outline p q = outlined_view_answer_with net w h outline p q false

-- what a Bézier net answers, and the Bézier net laid over the front of the lent output, which a refusal leaves as it
-- was
abbrev pub outlined_bezier_answer : List ℤ → ℕ → ℕ → List ℕ → ℕ → ℕ → ℕ → ℕ → ℕ × Bool
outlined_bezier_answer net w h outline i j down room = answer_by (outlined_bezier_refusal net w h outline i j down room)

unfoldable pub outlined_bezier_output : List ℤ → ℕ → ℕ → List ℕ → ℕ → ℕ → ℕ → List ℤ → List ℤ
outlined_bezier_output net w h outline i j down out =
    output_after (outlined_bezier_refusal net w h outline i j down (length out)) (bezier_numbers net w (triangle_by i j down))
    out

-- worked cases: of the net of 3 by 2 whose numbers are the squares and whose up triangle of cell (1, 0) alone is
-- present, a place in it, the same place with its numbers exchanged, a place off the door, and an output that is too
-- short; the Bézier net of that triangle and of a missing one
abbrev net32 : List ℤ
net32 = squares (numbers 3 2)

abbrev one_up : List ℕ
one_up = 0 ∷ 0 ∷ 1 ∷ 0 ∷ []

points :
    (outlined_point_answer net32 3 2 one_up 1500 300 ≡ (0, surface_point net32 3 2 1500 300))
    × (outlined_point_answer net32 3 2 one_up 300 1500 ≡ (6, []))
    × (outlined_point_answer net32 3 2 one_up 700 600 ≡ (15, []))
    × (outlined_point_answer_with net32 3 2 one_up 1500 300 true ≡ (5, []))
    × (outlined_view_answer net32 3 2 one_up 1500 300 ≡ (0, view_point net32 3 2 1500 300))
    × (outlined_view_answer net32 3 2 one_up 700 600 ≡ (15, []))
    × (outlined_view_answer_with net32 3 2 one_up 1500 300 true ≡ (5, []))
unfolding outlined_point_answer outlined_view_answer bad_byte on_door
points = (refl, refl, refl, refl, refl, refl, refl)

abbrev sevens : List ℤ
sevens = replicate 58 (pos 7)

answers :
    (outlined_bezier_answer net32 3 2 one_up 1 0 0 58 ≡ (0, true))
    × (outlined_bezier_answer net32 3 2 one_up 1 0 1 58 ≡ (15, false))
    × (outlined_bezier_answer net32 3 2 one_up 1 0 0 56 ≡ (5, false))
unfolding bad_byte
answers = (refl, refl, refl)

outputs :
    (outlined_bezier_output net32 3 2 one_up 1 0 0 sevens ≡ over (bezier_numbers net32 3 (triangle_at 1 0 false)) sevens)
    × (outlined_bezier_output net32 3 2 one_up 1 0 1 sevens ≡ sevens)
unfolding outlined_bezier_output bad_byte
outputs = (refl, refl)

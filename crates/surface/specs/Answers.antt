-- Document 01's number and values for each case of each answer, and what the calls answer and leave in lent memory.
use Rattle.std.specs.Prelude.{◌≡◌, refl, Bool, true, false, cond, List, [], ◌∷◌, map, ℕ, ℤ, pos, negsuc, Float, Result, Ok, Err}
use Rattle.std.specs.Float.{fin, binary64}
use Rattle.std.specs.Float.Ieee.{of_int, div}
use Rattle.exact.specs.Rounding.{rounded, floor_quotient}
use Rattle.net.specs.Net.{numbers, control_point, control_triangle, squares}
use Rattle.net.specs.Refusals.{accepted}
use Rattle.net.specs.Results.{refusal_number}
use Rattle.net.specs.declared.refusals.Refusal.{Refusal}
use Rattle.net.specs.declared.refusals.Refusal.TheVariants as refusal
use Rattle.spline.specs.Spline.{spline}
use Rattle.surface.specs.SurfacePoint.{coordinate, surface_point}
use Rattle.surface.specs.Refusals.{point_refusal_with}
use Rattle.surface.specs.declared.answers.Point.{Point}
use Rattle.surface.specs.declared.answers.ViewPoint.{ViewPoint}

-- the number and the values: x, y, z of a point, and none where it is refused
abbrev pub point_outcome : Result Point Refusal → ℕ × List ℤ
point_outcome (Ok p) = (0, p.x ∷ p.y ∷ p.z ∷ [])
point_outcome (Err r) = (refusal_number r, [])

abbrev pub view_outcome : Result ViewPoint Refusal → ℕ × List Float
view_outcome (Ok p) = (0, p.x ∷ p.y ∷ p.z ∷ [])
view_outcome (Err r) = (refusal_number r, [])

-- what a surface point answers, where `short` is whether an output lent for it is too short
abbrev pub point_answer_with : List ℤ → ℕ → ℕ → ℕ → ℕ → Bool → ℕ × List ℤ
point_answer_with net w h p q short = (
  point_refusal_with net w h p q short,
  cond (accepted (point_refusal_with net w h p q short)) (surface_point net w h p q) [],
)

-- where no output is lent
unfoldable pub point_answer : List ℤ → ℕ → ℕ → ℕ → ℕ → ℕ × List ℤ
point_answer net w h p q = point_answer_with net w h p q false

-- 'each coordinate is converted and divided by 1024, one operation each': to the double of the whole number, over the
-- double 1024
abbrev pub millimetres : ℤ → Float
millimetres z = div binary64 (of_int binary64 z) (of_int binary64 (pos 1024))

-- of a point, and of it for the viewer
abbrev pub InMillimetres : Point → ViewPoint → Type 0
InMillimetres p v = (v.x ≡ millimetres p.x) × (v.y ≡ millimetres p.y) × (v.z ≡ millimetres p.z)

-- a viewer's point: x, y, z in millimetres
abbrev pub view_point : List ℤ → ℕ → ℕ → ℕ → ℕ → List Float
view_point net w h p q = map millimetres (surface_point net w h p q)

-- what a viewer's point answers, with and without an output
abbrev pub view_answer_with : List ℤ → ℕ → ℕ → ℕ → ℕ → Bool → ℕ × List Float
view_answer_with net w h p q short = (
  point_refusal_with net w h p q short,
  cond (accepted (point_refusal_with net w h p q short)) (view_point net w h p q) [],
)

unfoldable pub view_answer : List ℤ → ℕ → ℕ → ℕ → ℕ → ℕ × List Float
view_answer net w h p q = view_answer_with net w h p q false

-- worked cases: 1,536 units are 1.5 mm, and -1 is -2 to the power -10 mm; outcomes of answers; of the net of 3 by 2
-- whose numbers are the squares, an accepted place, a refused one and an output that is too short
millimetres_of : (millimetres (pos 1536) ≡ fin false 3 (negsuc 0)) × (millimetres (negsuc 0) ≡ fin true 1 (negsuc 9))
unfolding div of_int
millimetres_of = (refl, refl)

outcomes :
    (point_outcome (Ok (record { x = pos 1; y = pos 2; z = negsuc 2 })) ≡ (0, pos 1 ∷ pos 2 ∷ negsuc 2 ∷ []))
    × (point_outcome (Err refusal.Range) ≡ (3, []))
    × (view_outcome (Err refusal.Place) ≡ (6, []))
outcomes = (refl, refl, refl)

viewed :
    view_outcome (Ok (record { x = millimetres (pos 1); y = millimetres (pos 2); z = millimetres (pos 3) }))
    ≡ (0, millimetres (pos 1) ∷ millimetres (pos 2) ∷ millimetres (pos 3) ∷ [])
viewed = refl

abbrev net32 : List ℤ
net32 = squares (numbers 3 2)

answers :
    (point_answer net32 3 2 1500 300 ≡ (0, pos 701 ∷ pos 751 ∷ pos 803 ∷ []))
    × (point_answer net32 3 2 300 1500 ≡ (6, []))
    × (view_answer net32 3 2 1500 300 ≡ (0, map millimetres (pos 701 ∷ pos 751 ∷ pos 803 ∷ [])))
    × (view_answer net32 3 2 300 1500 ≡ (6, []))
    × (point_answer_with net32 3 2 1500 300 true ≡ (5, []))
    × (view_answer_with net32 3 2 1500 300 true ≡ (5, []))
unfolding point_answer view_answer coordinate spline rounded floor_quotient control_triangle control_point
answers = (refl, refl, refl, refl, refl, refl)

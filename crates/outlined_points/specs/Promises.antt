-- Points and Bézier nets with an outline, of the definitions: the statements, each with the name of its proof.
use Rattle.std.specs.Prelude.{◌≡◌, Bool, List, ℕ, ◌≤◌, eqb, ℤ}
use Rattle.outline.specs.Promises.{Full}
use Rattle.bezier.specs.Answers.{bezier_answer, bezier_output}
use Rattle.surface.specs.Answers.{point_answer_with, view_answer_with, point_answer, view_answer}
use Rattle.outlined_points.specs.Answers.{outlined_point_answer, outlined_point_answer_with, outlined_view_answer, outlined_view_answer_with, outlined_bezier_answer, outlined_bezier_output}

-- with an outline whose triangles are all present the answers are the plain ones: of a surface point (`full_point`), of
-- a viewer's point (`full_view`), and of a Bézier net (`full_bezier`)
abbrev pub FullOutlinePoints : Type 0
FullOutlinePoints =
    (net : List ℤ) (w h : ℕ) (outline : List ℕ) (p q : ℕ) → Full outline w h →
    (outlined_point_answer net w h outline p q ≡ point_answer net w h p q)
    × ((short : Bool) → outlined_point_answer_with net w h outline p q short ≡ point_answer_with net w h p q short)

abbrev pub FullOutlineViews : Type 0
FullOutlineViews =
    (net : List ℤ) (w h : ℕ) (outline : List ℕ) (p q : ℕ) → Full outline w h →
    (outlined_view_answer net w h outline p q ≡ view_answer net w h p q)
    × ((short : Bool) → outlined_view_answer_with net w h outline p q short ≡ view_answer_with net w h p q short)

abbrev pub FullOutlineBezier : Type 0
FullOutlineBezier =
    (net : List ℤ) (w h : ℕ) (outline : List ℕ) (i j down : ℕ) → Full outline w h → down ≤ 1 →
    ((room : ℕ) → outlined_bezier_answer net w h outline i j down room ≡ bezier_answer net w h i j (eqb down 1) room)
    × ((out : List ℤ) → outlined_bezier_output net w h outline i j down out ≡ bezier_output net w h i j (eqb down 1) out)

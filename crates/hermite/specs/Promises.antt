-- Document 02 c: what the net through given points has of them, of every accepted answer: the statements, each with the
-- name of its proof.
use Rattle.std.specs.Prelude.{◌≡◌, refl, false, List, ℕ, ◌*◌, ◌≤◌, ◌<◌, ℤ, pos, ◌*ℤ◌, length, take}
use Rattle.exact.specs.Rounding.{rounded, floor_quotient}
use Rattle.net.specs.Net.{one, two, Vertex, vertex_at, Triangle, Field, field, numbers}
use Rattle.net.specs.Refusals.{AcceptedNet}
use Rattle.places.specs.Places.{Order}
use Rattle.spline.specs.Spline.{spline}
use Rattle.derivatives.specs.Pieces.{Meets, Expansion, HasDerivative}
use Rattle.surface.specs.SurfacePoint.{surface_point}
use Rattle.surface.specs.Answers.{point_answer}
use Rattle.subdivision.specs.Refinement.{refined_side, exact_refinement, refinement, refinements}
use Rattle.steps.specs.RefinedNet.{numbers_after}
use Rattle.refine.specs.Refusals.{too_deep}
use Rattle.refine.specs.Answers.{refusal_of, refine_output}
use Rattle.hermite.specs.Given.{point_of, given_p, given_t1, given_t2}
use Rattle.hermite.specs.HermiteNet.{hermite_control}
use Rattle.hermite.specs.Answers.{given_refusal_of, given_output}

-- the answer is a net that is taken (`given_accepted`)
abbrev pub GivenAccepted : Type 0
GivenAccepted =
    (given : List ℤ) (w h : ℕ) (out : List ℤ) → given_refusal_of given w h out ≡ 0 →
    AcceptedNet (given_output given w h out) w h

-- 'The surface point at each vertex must then be exactly p': at place (1024i, 1024j) it is answered and is p
-- (`points_found`); and the exact spline there is p at every edge count D, times 36·D² (`spline_found`)
abbrev pub PointsFound : Type 0
PointsFound =
    (given : List ℤ) (w h : ℕ) (out : List ℤ) → given_refusal_of given w h out ≡ 0 → (i j : ℕ) → i < w → j < h →
    point_answer (given_output given w h out) w h (1024 * i) (1024 * j) ≡ (0, point_of given w (vertex_at i j))

abbrev pub SplineFound : Type 0
SplineFound =
    (given : List ℤ) (w h : ℕ) (out : List ℤ) → given_refusal_of given w h out ≡ 0 → (i j : ℕ) → i < w → j < h →
    (D x : ℕ) → 0 < D → x < 3 →
    spline (field (given_output given w h out) w x) w h D (D * i) (D * j)
    ≡ pos (36 * (D * D)) *ℤ given_p given w x (vertex_at i j)

-- 'where one refinement of document 01 is accepted, the surface point there after it must be p too': where 4 does not
-- refuse it, refining the answer once, into any output that is long enough, is accepted, and the surface point of what
-- it leaves there at place (2048i, 2048j) is answered and is p (`refined_found`)
abbrev pub RefinedFound : Type 0
RefinedFound =
    (given : List ℤ) (w h : ℕ) (out : List ℤ) → given_refusal_of given w h out ≡ 0 → too_deep w h 1 ≡ false →
    (fine scratch : List ℤ) → numbers_after 1 w h ≤ length fine → (i j : ℕ) → i < w → j < h →
    (let net = given_output given w h out in
    (refusal_of net w h 1 fine scratch ≡ 0)
    × (point_answer (refine_output net w h 1 fine scratch) (refined_side w) (refined_side h) (2048 * i) (2048 * j)
    ≡ (0, point_of given w (vertex_at i j))))

-- 'Each quadratic piece of the exact spline that meets the vertex has the derivatives 2 times t1 along e1 and 2 times
-- t2 along e2 there', and the value p (`tangents_found`)
abbrev pub TangentsFound : Type 0
TangentsFound =
    (given : List ℤ) (w h : ℕ) (out : List ℤ) → given_refusal_of given w h out ≡ 0 → (i j : ℕ) → i < w → j < h →
    (x : ℕ) → x < 3 → (t : Triangle) (o : Order) → Meets w h (vertex_at i j) t o →
    (let v = vertex_at i j in
    let F = field (given_output given w h out) w x in
    let p = given_p given w x v in
    Expansion F t o v one (pos 36 *ℤ p) (pos 36 *ℤ (pos 2 *ℤ given_t1 given w x v))
    × Expansion F t o v two (pos 36 *ℤ p) (pos 36 *ℤ (pos 2 *ℤ given_t2 given w x v)))

-- ---- no other net

-- a stored net has the given points: its surface points at all vertices, the rounded ones, are p
abbrev pub ThroughPoints : List ℤ → List ℤ → ℕ → ℕ → Type 0
ThroughPoints given net w h =
    (i j : ℕ) → i < w → j < h → surface_point net w h (1024 * i) (1024 * j) ≡ point_of given w (vertex_at i j)

-- a field has the derivatives 2·t1 along e1 and 2·t2 along e2 at a vertex: in some piece that meets it
pub record HasTangents (F : Field) (w h : ℕ) (v : Vertex) (t1 t2 : ℤ) : Type 0 where
  pub triangle : Triangle
  pub order : Order
  pub meets : Meets w h v triangle order
  pub first : HasDerivative F triangle order v one (pos 2 *ℤ t1)
  pub second : HasDerivative F triangle order v two (pos 2 *ℤ t2)

-- and a stored net has the given ones, at all vertices and in each coordinate
abbrev pub WithTangents : List ℤ → List ℤ → ℕ → ℕ → Type 0
WithTangents given net w h =
    (i j : ℕ) → i < w → j < h → (x : ℕ) → x < 3 →
    HasTangents (field net w x) w h (vertex_at i j) (given_t1 given w x (vertex_at i j)) (given_t2 given w x (vertex_at i j))

-- the answer has them (`answer_has`)
abbrev pub AnswerHas : Type 0
AnswerHas =
    (given : List ℤ) (w h : ℕ) (out : List ℤ) → given_refusal_of given w h out ≡ 0 →
    ThroughPoints given (given_output given w h out) w h × WithTangents given (given_output given w h out) w h

-- 'no other net has these points and derivatives at its vertices': a stored net of this size that has them has the same
-- 9wh numbers (`only_net`)
abbrev pub OnlyNet : Type 0
OnlyNet =
    (given : List ℤ) (w h : ℕ) (out : List ℤ) → given_refusal_of given w h out ≡ 0 → (net : List ℤ) →
    numbers w h ≤ length net → ThroughPoints given net w h → WithTangents given net w h →
    take (numbers w h) net ≡ take (numbers w h) (given_output given w h out)

-- ---- what is not claimed

-- that p is found after two refinements: where p is 0 and t1 and t2 are 1 at every vertex, the point of vertex (0, 0)
-- is 1 after them
abbrev ones : Field
ones v = hermite_control (pos 0) (pos 1) (pos 1)

not_after_two : rounded (spline (refinements 2 ones) 5 5 1024 0 0) 37748736 ≡ pos 1
unfolding spline refinement exact_refinement rounded floor_quotient
not_after_two = refl

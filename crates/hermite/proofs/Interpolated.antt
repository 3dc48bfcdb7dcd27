-- What the net through given points has of them: it is accepted, its points and derivatives at the vertices are the
-- given ones, the points also after one refinement, and no other net has them.
use mathlib.Core.Path.{◌≡◌, refl, sym, ap, subst, ◌∙◌}
use mathlib.Core.Bool.{false}
use mathlib.Core.List.{List, [], ◌∷◌, ◌++◌}
use Prim.Native.Nat.{ℕ, zero, suc, ◌+◌, ◌-◌, ◌*◌, ◌≤◌, ◌<◌}
use native.Mathlib.Omega.{arith}
use lib.Dec.{lit<, ltb}
use lib.IntN.{ℤ, pos, ◌+ℤ◌, ◌-ℤ◌, ◌*ℤ◌}
use lib.ListN.{length, take}
use borrow.Author.Tests.{le-ltb}
use Rattle.exact.specs.Rounding.{rounded}
use Rattle.exact.specs.Filling.{over}
use Rattle.exact.proofs.Expressions.{var, lit, ◌⊕◌, ◌⊖◌, ◌⊗◌, identity}
use Rattle.exact.proofs.FillingLaws.{take_over}
use Rattle.net.specs.Net.{Index, one, two, Vertex, vertex_at, Triangle, field, numbers, number, control_point}
use Rattle.net.specs.Refusals.{any_beyond, AcceptedNet}
use Rattle.net.proofs.Accepted.{accepted_over}
use Rattle.net.proofs.Faults.{accepted_answer, clear_none, or_no, when_accepted}
use Rattle.net.proofs.Places.{GoodSize, good_size}
use Rattle.places.specs.Places.{Order, OnGrid}
use Rattle.derivatives.specs.Pieces.{Meets, Expansion, HasDerivative}
use Rattle.derivatives.specs.Promises.{control_sum}
use Rattle.derivatives.proofs.Vertices.{expansion_once, vertex_expansion, vertex_met, spline_at_vertex}
use Rattle.surface.specs.SurfacePoint.{coordinate, surface_point}
use Rattle.surface.specs.Refusals.{point_refusal}
use Rattle.surface.specs.Answers.{point_answer}
use Rattle.surface.proofs.Accepted.{point_not_refused}
use Rattle.subdivision.specs.Refinement.{refined_side, kept_control, refinements}
use Rattle.subdivision.proofs.Children.{kept_refined}
use Rattle.steps.specs.RefinedNet.{stored, refined_net, numbers_after, scratch_need}
use Rattle.steps.proofs.StoredNets.{stored_length, stored_field, stored_same, stored_beyond, stored_by_number, no_step}
use Rattle.refine.specs.Refusals.{too_deep, too_short, size_faults, net_faults}
use Rattle.refine.specs.Answers.{refusal_of}
use Rattle.refine.proofs.Depths.{good_depth}
use Rattle.steps.proofs.RefinedNets.{refined_accepted}
use Rattle.hermite.specs.Given.{vectors_at, point_of, given_p, given_t1, given_t2}
use Rattle.hermite.specs.HermiteNet.{hermite_fields, hermite_net}
use Rattle.hermite.specs.Answers.{given_refusal_of, given_output}
use Rattle.hermite.specs.Promises.{GivenAccepted, PointsFound, SplineFound, RefinedFound, TangentsFound, HasTangents, AnswerHas, OnlyNet}
use Rattle.hermite.proofs.ControlLaws.{sum_of, NearThird, hermite_sum, third_near, third_whole, kept_third, only_controls}
use Rattle.hermite.proofs.HermiteLaws.{fitting}

-- ---- the surface point at a vertex, of any stored net: nearest to a third of the sum of the controls there

vertex_coordinate : (net : List ℤ) (w h i j x : ℕ) → 2 ≤ w → 2 ≤ h → i < w → j < h →
    NearThird (coordinate net w h (1024 * i) (1024 * j) x) (control_sum (field net w x) (vertex_at i j))
unfolding coordinate
vertex_coordinate net w h i j x wide high a b =
    let sum = control_sum (field net w x) (vertex_at i j) in
    subst (λ (z : ℤ). NearThird (rounded z 37748736) sum)
    (sym (spline_at_vertex (field net w x) w h 1024 i j (lit< tt) wide high a b)) (third_near sum)

-- three coordinates that are those of p are p
point_by : (given net : List ℤ) (w m n p q : ℕ) (v : Vertex) →
    ((x : ℕ) → x < 3 → coordinate net m n p q x ≡ given_p given w x v) → surface_point net m n p q ≡ point_of given w v
unfolding vectors_at control_point
point_by given net w m n p q v e = λ t. e 0 (lit< tt) t ∷ e 1 (lit< tt) t ∷ e 2 (lit< tt) t ∷ []

-- and the way back
coordinate_by : (given net : List ℤ) (w m n p q : ℕ) (v : Vertex) → surface_point net m n p q ≡ point_of given w v →
    (x : ℕ) → x < 3 → coordinate net m n p q x ≡ given_p given w x v
coordinate_by given net w m n p q v e zero c = ap (λ (l : List ℤ). number l 0) e
coordinate_by given net w m n p q v e (suc zero) c = ap (λ (l : List ℤ). number l 1) e
coordinate_by given net w m n p q v e (suc (suc zero)) c = ap (λ (l : List ℤ). number l 2) e
coordinate_by given net w m n p q v e (suc (suc (suc x))) c = absurd (omega (arith, c))

-- a point of an accepted net is answered
answered_point : (net : List ℤ) (w h : ℕ) → AcceptedNet net w h → (p q : ℕ) → OnGrid 1024 w h p q → {l : List ℤ} →
    surface_point net w h p q ≡ l → point_answer net w h p q ≡ (0, l)
unfolding point_answer
answered_point net w h a p q g e =
    sym (accepted_answer (point_refusal net w h p q) (surface_point net w h p q) (point_not_refused net w h a p q g) (sym e))

module _ (given : List ℤ) (w h : ℕ) (out : List ℤ) (e : given_refusal_of given w h out ≡ 0) where
  -- ---- the answer as a net

  abbrev answer : List ℤ
  answer = given_output given w h out

  stands : over (hermite_net given w h) out ≡ answer
  stands = when_accepted (given_refusal_of given w h out) (over (hermite_net given w h) out) out e

  accepted : AcceptedNet answer w h
  unfolding hermite_net
  accepted =
      let F = hermite_fields given w in
      let f = fitting given w h (length out) e in
      subst (λ (l : List ℤ). AcceptedNet l w h) stands
      (accepted_over (stored F w h) out w h (stored_length F w h) f.0.enough.size
      (ap any_beyond (stored_by_number F w h) ∙ sym (stored_beyond F w h) ∙ f.0.fine) f.1)

  size : GoodSize w h
  size = good_size w h accepted.size

  module _ (i j : ℕ) (a : i < w) (b : j < h) where
    abbrev v : Vertex
    v = vertex_at i j

    -- its controls at a vertex are p + t1, p + t2 and p - t1 - t2
    controls : (x : ℕ) → x < 3 → (k : Index) → field answer w x v k ≡ hermite_fields given w x v k
    unfolding hermite_net
    controls x c k =
        ap (λ (l : List ℤ). field l w x v k) (sym stands) ∙ stored_field (hermite_fields given w) w h out i j a b k x c

    control_sum_lem : (x : ℕ) → x < 3 → control_sum (field answer w x) v ≡ pos 3 *ℤ given_p given w x v
    control_sum_lem x c =
        (λ t. sum_of (λ k. controls x c k t))
        ∙ hermite_sum (given_p given w x v) (given_t1 given w x v) (given_t2 given w x v)

    -- ---- points

    coordinates : (x : ℕ) → x < 3 → coordinate answer w h (1024 * i) (1024 * j) x ≡ given_p given w x v
    coordinates x c =
        third_whole (given_p given w x v) (coordinate answer w h (1024 * i) (1024 * j) x)
        (subst (NearThird (coordinate answer w h (1024 * i) (1024 * j) x)) (control_sum_lem x c)
        (vertex_coordinate answer w h i j x size.wide size.high a b))

    points : surface_point answer w h (1024 * i) (1024 * j) ≡ point_of given w v
    points = point_by given answer w w h (1024 * i) (1024 * j) v coordinates

    -- ---- derivatives

    -- along ek, where ck is p + s
    tangent : (x : ℕ) → x < 3 → (t : Triangle) (o : Order) → Meets w h v t o → (k : Index) (s : ℤ) →
        hermite_fields given w x v k ≡ given_p given w x v +ℤ s →
        Expansion (field answer w x) t o v k (pos 36 *ℤ given_p given w x v) (pos 36 *ℤ (pos 2 *ℤ s))
    tangent x c t o m k s f =
        let p = given_p given w x v in
        let first : pos 12 *ℤ control_sum (field answer w x) v ≡ pos 36 *ℤ p =
        ap (λ (z : ℤ). pos 12 *ℤ z) (control_sum_lem x c)
        ∙ identity (lit (pos 12) ⊗ (lit (pos 3) ⊗ var 0)) (lit (pos 36) ⊗ var 0) (p ∷ []) refl in
        let second : pos 24 *ℤ (pos 3 *ℤ field answer w x v k -ℤ control_sum (field answer w x) v) ≡ pos 36 *ℤ (pos 2 *ℤ s) =
        (λ u. pos 24 *ℤ (pos 3 *ℤ (controls x c k ∙ f) u -ℤ control_sum_lem x c u))
        ∙ identity (lit (pos 24) ⊗ (lit (pos 3) ⊗ (var 0 ⊕ var 1) ⊖ lit (pos 3) ⊗ var 0))
        (lit (pos 36) ⊗ (lit (pos 2) ⊗ var 1)) (p ∷ s ∷ []) refl in
        subst (λ (z : ℤ). Expansion (field answer w x) t o v k z (pos 36 *ℤ (pos 2 *ℤ s))) first
        (subst (λ (z : ℤ). Expansion (field answer w x) t o v k (pos 12 *ℤ control_sum (field answer w x) v) z) second
        (vertex_expansion (field answer w x) v t o k m.at_p))

    some_tangents : (x : ℕ) → x < 3 →
        HasTangents (field answer w x) w h v (given_t1 given w x v) (given_t2 given w x v)
    some_tangents x c =
        let met = vertex_met w h i j size.wide size.high a b in
        let t = met.0 in
        let o = met.1 in
        record {
          triangle = t;
          order = o;
          meets = met.2;
          first = record { value = _; expansion = tangent x c t o met.2 one (given_t1 given w x v) refl };
          second = record { value = _; expansion = tangent x c t o met.2 two (given_t2 given w x v) refl };
        }

pub given_accepted : GivenAccepted
given_accepted = accepted

pub points_found : PointsFound
points_found given w h out e i j a b =
    answered_point (given_output given w h out) w h (accepted given w h out e) (1024 * i) (1024 * j)
    (omega (arith, a), omega (arith, b)) (points given w h out e i j a b)

pub spline_found : SplineFound
spline_found given w h out e i j a b D x d c =
    let s = size given w h out e in
    let p = given_p given w x (vertex_at i j) in
    spline_at_vertex (field (given_output given w h out) w x) w h D i j d s.wide s.high a b
    ∙ ap (λ (z : ℤ). pos (12 * (D * D)) *ℤ z) (control_sum_lem given w h out e i j a b x c)
    ∙ identity (lit (pos 12) ⊗ (var 0 ⊗ var 0) ⊗ (lit (pos 3) ⊗ var 1)) (lit (pos 36) ⊗ (var 0 ⊗ var 0) ⊗ var 1)
    (pos D ∷ p ∷ []) refl

pub tangents_found : TangentsFound
tangents_found given w h out e i j a b x c t o m =
    let v = vertex_at i j in (
      tangent given w h out e i j a b x c t o m one (given_t1 given w x v) refl,
      tangent given w h out e i j a b x c t o m two (given_t2 given w x v) refl,
    )

pub answer_has : AnswerHas
answer_has given w h out e = (points given w h out e, some_tangents given w h out e)

-- ---- after one refinement

-- refining the answer once is accepted
once_accepted : (net : List ℤ) (w h : ℕ) → AcceptedNet net w h → too_deep w h 1 ≡ false → (fine scratch : List ℤ) →
    numbers_after 1 w h ≤ length fine → refusal_of net w h 1 fine scratch ≡ 0
once_accepted net w h a d fine scratch room =
    let short = too_short w h 1 (length fine) (length scratch) in
    let long : short ≡ false =
    sym (or_no (ltb (length fine) (numbers_after 1 w h)) (ltb (length scratch) (scratch_need 1 w h))
    (le-ltb (length fine) (numbers_after 1 w h) room) (sym (le-ltb (length scratch) 0 (omega arith)))) in
    clear_none (size_faults w h 1 ++ net_faults net w h short)
    (a.size, (d, (a.long, (long, (a.in_range, tt)))))

-- the controls at a kept vertex of what is left in the output, from those of the net
kept_controls : (net fine : List ℤ) (w h i j : ℕ) → i < w → j < h → (x : ℕ) → x < 3 → (k : Index) →
    field (over (refined_net net w h 1) fine) (refined_side w) x (vertex_at (2 * i) (2 * j)) k
    ≡ rounded (kept_control (field net w x (vertex_at i j)) k) 12
unfolding refined_net
kept_controls net fine w h i j a b x c k =
    stored_field (λ y. refinements 1 (field net w y)) (refined_side w) (refined_side h) fine (2 * i) (2 * j)
    (omega (arith, a)) (omega (arith, b)) k x c
    ∙ kept_refined (field net w x) i j k

pub refined_found : RefinedFound
refined_found given w h out e d fine scratch room i j a b =
    let net = given_output given w h out in
    let m = refined_side w in
    let n = refined_side h in
    let v = vertex_at i j in
    let taken = accepted given w h out e in
    let s = size given w h out e in
    let none = once_accepted net w h taken d fine scratch room in
    let left = over (refined_net net w h 1) fine in
    let coordinates : (x : ℕ) → x < 3 → coordinate left m n (2048 * i) (2048 * j) x ≡ given_p given w x v =
    λ x c.
    let p = given_p given w x v in
    let t1 = given_t1 given w x v in
    let t2 = given_t2 given w x v in
    let r = coordinate left m n (1024 * (2 * i)) (1024 * (2 * j)) x in
    (λ t. coordinate left m n (doubled i t) (doubled j t) x)
    ∙ kept_third p t1 t2 r
    (subst (NearThird r)
    ((λ t. sum_of (λ k. kept_controls net fine w h i j a b x c k t))
    ∙ (λ t. sum_of (λ k. rounded (kept_control (λ l. controls given w h out e i j a b x c l t) k) 12)))
    (vertex_coordinate left m n (2 * i) (2 * j) x (omega (arith, s.wide)) (omega (arith, s.high)) (omega (arith, a))
    (omega (arith, b)))) in
    let answer : point_answer left m n (2048 * i) (2048 * j) ≡ (0, point_of given w v) =
    answered_point left m n (refined_accepted net fine (good_depth w h 1 taken.size d) taken room) (2048 * i) (2048 * j)
    (omega (arith, a), omega (arith, b)) (point_by given left w m n (2048 * i) (2048 * j) v coordinates) in (
      none,
      ap (λ (l : List ℤ). point_answer l m n (2048 * i) (2048 * j))
          (sym (when_accepted (refusal_of net w h 1 fine scratch) left fine none))
          ∙ answer,
    )
  where
    doubled : (i : ℕ) → 2048 * i ≡ 1024 * (2 * i)
    doubled i = omega arith

-- ---- no other net

-- the controls of a stored net at a vertex that has the point and the derivatives
only_here : (given net : List ℤ) (w h i j : ℕ) → 2 ≤ w → 2 ≤ h → i < w → j < h → (x : ℕ) → x < 3 →
    surface_point net w h (1024 * i) (1024 * j) ≡ point_of given w (vertex_at i j) →
    HasTangents (field net w x) w h (vertex_at i j) (given_t1 given w x (vertex_at i j)) (given_t2 given w x (vertex_at i j)) →
    (k : Index) → field net w x (vertex_at i j) k ≡ hermite_fields given w x (vertex_at i j) k
only_here given net w h i j wide high a b x c point tangents =
    let v = vertex_at i j in
    let F = field net w x in
    let t = tangents.triangle in
    let o = tangents.order in
    let slope : (k : Index) (s : ℤ) → HasDerivative F t o v k s → pos 24 *ℤ (pos 3 *ℤ F v k -ℤ control_sum F v) ≡ pos 36 *ℤ s =
    λ k s d.
    (expansion_once F t o v k (pos 12 *ℤ control_sum F v) (pos 24 *ℤ (pos 3 *ℤ F v k -ℤ control_sum F v)) d.value
    (pos 36 *ℤ s) (vertex_expansion F v t o k tangents.meets.at_p) d.expansion).1 in
    only_controls (given_p given w x v) (given_t1 given w x v) (given_t2 given w x v) (F v)
    (subst (λ (r : ℤ). NearThird r (control_sum F v)) (coordinate_by given net w w h (1024 * i) (1024 * j) v point x c)
    (vertex_coordinate net w h i j x wide high a b))
    (slope one (pos 2 *ℤ given_t1 given w x v) tangents.first)
    (slope two (pos 2 *ℤ given_t2 given w x v) tangents.second)

pub only_net : OnlyNet
unfolding hermite_net refined_net
only_net given w h out e net long through tangents =
    let F = hermite_fields given w in
    let s = size given w h out e in
    let result = stored F w h in
    sym (no_step net w h long)
    ∙ stored_same (field net w) F w h
    (λ x c i j a b k. only_here given net w h i j s.wide s.high a b x c (through i j a b) (tangents i j a b x c) k)
    ∙ sym (take_over result out)
    ∙ ap (λ (n : ℕ). take n (over result out)) (stored_length F w h)
    ∙ ap (take (numbers w h)) (stands given w h out e)

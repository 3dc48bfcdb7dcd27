-- `surface::points::surface_point_with` meets its contract.
use mathlib.Core.Bool.{Bool}
use mathlib.Core.List.{List, [], ◌∷◌}
use mathlib.Core.Path.{◌≡◌, refl, sym, subst, ◌∙◌, subst₂, ap}
use Prim.Native.Nat.{ℕ, ◌≤◌}
use lib.IntN.{ℤ}
use Rattle.net.specs.Net.{one, two, three, triangle_at, Index, Triangle}
use Rattle.net.proofs.Faults.{cond_false}
use Rattle.net.proofs.Places.{below_three}
use Rattle.places.specs.Located.{InOrder}
use Rattle.places.specs.Places.{chosen, share, order_of, corner_p, corner_q, corner_t}
use Rattle.triangles.specs.Corners.{InNet, corner_controls, reordered_controls}
use Rattle.triangles.specs.Refusals.{triangle_beyond}
use Rattle.triangles.proofs.CornerForm.{arranged, arranged_corners}
use Rattle.surface.specs.Evaluation.{Evaluable, evaluated}
use Rattle.surface.proofs.SurfacePoints.{GoodPlace, good_place, range_refusal, accepted_point, share_small, in_order_of, evaluable, evaluated_coordinate, in_net_place}
use Rattle.surface.proofs.points.surface_point_with.Goals as goal
use Rattle.surface.proofs.points.surface_point_with.Goals.{After-load_corner-t, After-locate-at, After-put_in_order-o, After-triangle_beyond, In_ok-place_refusal}

-- where 1, 6 and 2 do not refuse
module _ (c : In_ok-place_refusal) where
  abbrev net : List ℤ
  net = c.args.net.now

  abbrev w : ℕ
  w = c.args.w

  abbrev h : ℕ
  h = c.args.h

  abbrev p : ℕ
  p = c.args.p

  abbrev q : ℕ
  q = c.args.q

  abbrev short : Bool
  short = c.args.short

  good : GoodPlace net w h p q
  good = good_place net w h p q (sym c.in_ok-place_refusal.ensures)

-- the cell, the kind and the shares that were found are those of the place
module _ (c : After-locate-at) where
  abbrev at : In_ok-place_refusal
  at = (goal.at.After-locate-at c).In_ok-place_refusal

  abbrev found : Triangle
  found = triangle_at c.locate-at.result.i c.locate-at.result.j c.locate-at.result.down

  abbrev place : Triangle
  place = chosen 1024 (w at) (h at) (p at) (q at)

  found_place : found ≡ place
  found_place = λ t. triangle_at (c.locate-at.ensures.column t) (c.locate-at.ensures.row t) (c.locate-at.ensures.kind t)

  lies : InNet (net at) (w at) c.locate-at.result.i c.locate-at.result.j
  lies =
      subst₂ (InNet (net at) (w at)) (sym c.locate-at.ensures.column) (sym c.locate-at.ensures.row)
      (in_net_place (net at) (w at) (h at) (p at) (q at) (good at).size (good at).place (good at).long)

-- what each later call gave, said of the place
beyond : (c : After-triangle_beyond) →
    c.triangle_beyond.result ≡ triangle_beyond (net (at (goal.at.After-triangle_beyond c).After-locate-at)) (w (at (goal.at.After-triangle_beyond c).After-locate-at)) (place (goal.at.After-triangle_beyond c).After-locate-at)
beyond c =
    c.triangle_beyond.ensures
    ∙ ap (triangle_beyond (net (at (goal.at.After-triangle_beyond c).After-locate-at)) (w (at (goal.at.After-triangle_beyond c).After-locate-at))) (found_place (goal.at.After-triangle_beyond c).After-locate-at)

loaded : (c : After-locate-at) → corner_controls (net (at c)) (w (at c)) (found c) ≡ corner_controls (net (at c)) (w (at c)) (place c)
loaded c = ap (corner_controls (net (at c)) (w (at c))) (found_place c)

abbrev shares_of : In_ok-place_refusal → Index → ℕ
shares_of e = share 1024 (w e) (h e) (p e) (q e)

in_order_lem : (c : After-put_in_order-o) →
    (let o = c.put_in_order-o.result in
    let s = shares_of (at (goal.at.After-put_in_order-o c).After-locate-at) in
    InOrder (order_of s) s o.p o.q o.t o.ahead o.a o.b o.g)
in_order_lem c =
    let l = (goal.at.After-put_in_order-o c).After-locate-at in
    let found = l.locate-at.ensures in
    in_order_of (shares_of (at l)) found.share_1 found.share_2 found.share_3 c.put_in_order-o.ensures

-- the control triangles of P, Q and T are those of the triangle, reordered and arranged
arranged_is : (c : After-load_corner-t) →
    (let o = c.put_in_order-o.result in
    let l = (goal.at.After-load_corner-t c).After-locate-at in
    c.load_corner-p.result ∷ c.load_corner-q.result ∷ c.load_corner-t.result ∷ []
    ≡ arranged o.p o.q o.t
    (reordered_controls l.locate-at.result.down (corner_controls (net (at l)) (w (at l)) (found l))))
arranged_is c =
    let o = c.put_in_order-o.result in
    let l = (goal.at.After-load_corner-t c).After-locate-at in
    arranged_corners (reordered_controls l.locate-at.result.down (corner_controls (net (at l)) (w (at l)) (found l)))
    o.p o.q o.t
    c.load_corner-p.ensures c.load_corner-q.ensures c.load_corner-t.ensures

pub triangle_beyond-requires : goal.triangle_beyond-requires
triangle_beyond-requires c = lies c

pub put_in_order-o-requires : goal.put_in_order-o-requires
put_in_order-o-requires c =
    let l = (goal.at.put_in_order-o-requires c).After-locate-at in
    let e = at l in
    let small = share_small (w e) (h e) (p e) (q e) (good e).size (good e).place in (
      subst (λ (n : ℕ). n ≤ 1024) (sym l.locate-at.ensures.share_1) (small one),
      subst (λ (n : ℕ). n ≤ 1024) (sym l.locate-at.ensures.share_2) (small two),
      subst (λ (n : ℕ). n ≤ 1024) (sym l.locate-at.ensures.share_3) (small three),
    )

-- P, Q and T are numbers of corners
pub load_corner-p-requires : goal.load_corner-p-requires
load_corner-p-requires c =
    let l = (goal.at.load_corner-p-requires c).After-locate-at in
    (lies l, below_three (corner_p (order_of (shares_of (at l)))) (in_order_lem c).first_corner)

pub load_corner-q-requires : goal.load_corner-q-requires
load_corner-q-requires c =
    let l = (goal.at.load_corner-q-requires c).After-locate-at in
    (lies l, below_three (corner_q (order_of (shares_of (at l)))) (in_order_lem (goal.at.load_corner-q-requires c).After-put_in_order-o).second_corner)

pub load_corner-t-requires : goal.load_corner-t-requires
load_corner-t-requires c =
    let l = (goal.at.load_corner-t-requires c).After-locate-at in
    (lies l, below_three (corner_t (order_of (shares_of (at l)))) (in_order_lem (goal.at.load_corner-t-requires c).After-put_in_order-o).last_corner)

pub evaluate-requires : goal.evaluate-requires
evaluate-requires c =
    let o = (goal.at.evaluate-requires c).After-put_in_order-o in
    let f = c in
    let l = (goal.at.evaluate-requires c).After-locate-at in
    let e = at l in
    subst (Evaluable _ _ _) (sym (arranged_is c))
    (evaluable (net e) (w e) (h e) (p e) (q e) (good e) (sym (beyond (goal.at.evaluate-requires c).After-triangle_beyond) ∙ f.if-triangle_beyond.false) l.locate-at.ensures.kind (loaded l) (in_order_lem o))

pub returns : goal.returns
returns c =
    let t = arranged_is (goal.at.returns c).After-load_corner-t in
    let o = (goal.at.returns c).After-put_in_order-o in
    let f = o.put_in_order-o.result in
    let v = c in
    let l = (goal.at.returns c).After-locate-at in
    let kind = l.locate-at.ensures.kind in
    let e = at l in
    accepted_point (net e) (w e) (h e) (p e) (q e) (short e)
    (range_refusal (net e) (w e) (h e) (p e) (q e) (short e) (good e) l.if-short.false
    (cond_false _ 3 0 (sym (beyond (goal.at.returns c).After-triangle_beyond) ∙ v.if-triangle_beyond.false) refl))
    (c.evaluate.ensures.x_value ∙ ap (λ (l : List (List (List ℤ))). evaluated f.ahead f.a f.b f.g l 0) t ∙ evaluated_coordinate (net e) (w e) (h e) (p e) (q e) 0 kind (loaded l) (in_order_lem o))
    (c.evaluate.ensures.y_value ∙ ap (λ (l : List (List (List ℤ))). evaluated f.ahead f.a f.b f.g l 1) t ∙ evaluated_coordinate (net e) (w e) (h e) (p e) (q e) 1 kind (loaded l) (in_order_lem o))
    (c.evaluate.ensures.z_value ∙ ap (λ (l : List (List (List ℤ))). evaluated f.ahead f.a f.b f.g l 2) t ∙ evaluated_coordinate (net e) (w e) (h e) (p e) (q e) 2 kind (loaded l) (in_order_lem o))

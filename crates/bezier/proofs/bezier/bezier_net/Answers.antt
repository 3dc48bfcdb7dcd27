-- `bezier::bezier::bezier_net` meets its contract.
use mathlib.Core.List.{List}
use mathlib.Core.Bool.{Bool}
use mathlib.Core.Path.{◌≡◌, sym, ap, ◌∙◌, subst}
use Prim.Native.Nat.{ℕ, ◌<◌}
use lib.ListN.{length}
use lib.IntN.{ℤ}
use Rattle.exact.specs.WeightedSum.{Within}
use Rattle.exact.specs.Filling.{over, runs}
use Rattle.net.specs.Net.{Triangle, triangle_at}
use Rattle.net.proofs.Results.{refusal_there}
use Rattle.triangles.specs.Corners.{values_in}
use Rattle.bezier.specs.Weights.{points_of, three_at}
use Rattle.bezier.specs.Refusals.{bezier_refusal}
use Rattle.bezier.proofs.BezierNets.{GoodTriangle, good_triangle, formed, formed_within, reordered_values, points_of_net, accepted_bezier, refused_bezier}
use Rattle.bezier.proofs.bezier.bezier_net.Goals as goal
use Rattle.bezier.proofs.bezier.bezier_net.Goals.{After-reorder_controls-c, In_ok-bezier_refusal}

-- where nothing is refused
module _ (c : In_ok-bezier_refusal) where
  abbrev net : List ℤ
  net = c.args.net.now

  abbrev w : ℕ
  w = c.args.w

  abbrev h : ℕ
  h = c.args.h

  abbrev i : ℕ
  i = c.args.i

  abbrev j : ℕ
  j = c.args.j

  abbrev down : Bool
  down = c.args.down

  abbrev out : List ℤ
  out = c.args.out.now

  none : bezier_refusal net w h i j down (length out) ≡ 0
  none = sym c.in_ok-bezier_refusal.ensures

  good : GoodTriangle net w i j down (length out)
  good = good_triangle net w h i j down (length out) none

  abbrev triangle : Triangle
  triangle = triangle_at i j down

  within : (x : ℕ) → x < 3 → Within 16777216 (formed net w triangle x)
  within = formed_within net w i j down good.lies good.range

-- what the reordered control triangles hold
module _ (c : After-reorder_controls-c) where
  abbrev at : In_ok-bezier_refusal
  at = (goal.at.After-reorder_controls-c c).In_ok-bezier_refusal

  value : (x : ℕ) → values_in c.reorder_controls-c.result x ≡ formed (net at) (w at) (triangle at) x
  value =
      reordered_values (net at) (w at) (triangle at) c.load_triangle.ensures c.reorder_controls-c.ensures

  small : (x : ℕ) → x < 3 → Within 16777216 (values_in c.reorder_controls-c.result x)
  small x k = subst (Within 16777216) (sym (value x)) (within at x k)

  points : (x : ℕ) → points_of (values_in c.reorder_controls-c.result x) ≡ points_of (formed (net at) (w at) (triangle at) x)
  points x = ap points_of (value x)

pub returns-in_err-bezier_refusal-clause-out_after : goal.returns-in_err-bezier_refusal-clause-out_after
returns-in_err-bezier_refusal-clause-out_after c =
    (refused_bezier _ _ _ _ _ _ _ c.in_err-bezier_refusal.ensures (refusal_there _)).1

pub load_triangle-requires : goal.load_triangle-requires
load_triangle-requires c = (good c).lies

pub write_points-requires : goal.write_points-requires
write_points-requires c = (small (goal.at.write_points-requires c).After-reorder_controls-c, (good (at (goal.at.write_points-requires c).After-reorder_controls-c)).room_enough)

pub returns : goal.returns
returns c =
    let p = (let t = (goal.at.returns c).After-reorder_controls-c in
    let e = at t in
    let x = points t 0 in
    let y = points t 1 in
    let z = points t 2 in
    accepted_bezier (net e) (w e) (h e) (i e) (j e) (down e) (out e) (none e)
    (c.write_points.ensures
    ∙ (λ k. over (runs 19 (three_at (x k) (y k) (z k))) (out e))
    ∙ ap (λ (l : List ℤ). over l (out e)) (points_of_net (net e) (w e) (triangle e)))) in record { result_value = p.0; out_after = p.1 }

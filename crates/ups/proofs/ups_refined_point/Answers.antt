-- `ups::ups_refined_point` meets its contract.
use mathlib.Core.Path.{◌≡◌, refl, sym, ap, ◌∙◌}
use mathlib.Core.Bool.{Bool, cond}
use mathlib.Core.List.{List, [], ◌∷◌}
use Prim.Native.Nat.{ℕ, ◌≤◌}
use lib.Dec.{ltb}
use lib.IntN.{ℤ}
use lib.ListN.{length}
use borrow.Author.Tests.{ltb-false}
use Rattle.exact.specs.Filling.{over}
use Rattle.net.specs.Refusals.{accepted}
use Rattle.net.proofs.Faults.{answered}
use Rattle.surface.specs.Answers.{point_outcome}
use Rattle.steps.specs.RefinedNet.{refined_net}
use Rattle.refined_points.specs.Answers.{refusal_at, refined_surface_point}
use Rattle.refined_points.proofs.RefinedPoints.{point_accepted}
use Rattle.ups.proofs.Exports.{stored_point, left_exported, claimed_exported}
use Rattle.ups.proofs.ups_refined_point.Goals as goal
use Rattle.ups.proofs.ups_refined_point.Goals.{After-refined_point_with, In-Ok, Start}

abbrev short : Start → Bool
short s = ltb (length s.args.point.now) 3

abbrev refusal : Start → ℕ
refusal s =
    refusal_at s.args.net.now s.args.w s.args.h s.args.k s.args.p s.args.q (short s)
    s.args.out.now s.args.scratch.now

abbrev result : Start → List ℤ
result s = refined_net s.args.net.now s.args.w s.args.h s.args.k

abbrev values : Start → List ℤ
values s = refined_surface_point s.args.net.now s.args.w s.args.h s.args.k s.args.p s.args.q

-- there is room for the point where nothing is refused
room : (s : Start) → refusal s ≡ 0 → 3 ≤ length s.args.point.now
room s none =
    ltb-false (length s.args.point.now) 3
    (point_accepted s.args.net.now s.args.w s.args.h s.args.k s.args.p s.args.q (short s)
    (length s.args.out.now) (length s.args.scratch.now) none).2

-- the outcome of an answer with a point
module _ (c : In-Ok) where
  abbrev call : After-refined_point_with
  call = (goal.at.In-Ok c).After-refined_point_with

  abbrev start : Start
  start = (goal.at.In-Ok c).Start

  given : (let point = c.in-Ok.at in (refusal start ≡ 0)
      × (point.x ∷ point.y ∷ point.z ∷ [] ≡ values start))
  given = answered (refusal start) (values start) c.in-Ok.ensures.answer

pub returns-in-Ok : goal.returns-in-Ok
returns-in-Ok c =
    let a = (goal.at.returns-in-Ok c).In-Ok in
    let s = start a in
    let k = call a in
    let point = a.in-Ok.at in
    let fits = c.struct_told-1.given in
    let left =
    left_exported (refusal s) s.args.k s.args.w s.args.h (result s) s.args.out.now
    s.args.scratch.now k.refined_point_with.new.out
    k.refined_point_with.new.scratch (sym (given a).0)
    (k.refined_point_with.ensures.output, k.refined_point_with.ensures.scratch_free) in
    let out = s.args.point.now in
    let stored =
    stored_point point.x point.y point.z out fits.0.1 fits.1.0.1 fits.1.1.0.1
    (room s (given a).0) c.store_point.ensures
    ∙ ap (λ (l : List ℤ). over l out) (given a).1 in
    let claim =
    claimed_exported s.args.net.now s.args.w s.args.h s.args.k s.args.p s.args.q (values s) out
    (a.in-Ok.ensures.demand_three (given a).0)
    (λ t. (0, (given a).1 t)) refl stored in record {
      value = left.0;
      out_after = left.1.0;
      unchanged_from = left.1.1;
      point_after = stored;
      claimed = λ none. claim;
    }

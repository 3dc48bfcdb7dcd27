-- `ups::ups_refined_point_outlined` meets its contract.
use mathlib.Core.Path.{◌≡◌, refl, sym, ap, ◌∙◌}
use mathlib.Core.Bool.{Bool, cond}
use mathlib.Core.List.{List, [], ◌∷◌}
use Prim.Native.Nat.{ℕ, ◌≤◌}
use lib.Dec.{ltb}
use lib.IntN.{ℤ}
use lib.ListN.{length}
use borrow.Author.Tests.{ltb-false}
use Rattle.exact.specs.Filling.{over}
use Rattle.net.specs.Refusals.{Fault, accepted}
use Rattle.net.proofs.Faults.{answered}
use Rattle.surface.specs.Answers.{point_outcome}
use Rattle.refined_points.specs.Answers.{refined_surface_point}
use Rattle.outlined_refine.specs.Answers.{OutlinedLeft}
use Rattle.outlined_refined_points.specs.Answers.{point_faults_of, outlined_refusal_at}
use Rattle.outlined_refined_points.proofs.CallLaws.{point_fits}
use Rattle.ups.proofs.Exports.{stored_point, outlined_left, claimed_exported}
use Rattle.ups.proofs.ups_refined_point_outlined.Goals as goal
use Rattle.ups.proofs.ups_refined_point_outlined.Goals.{After-refined_point_outlined_with, In-Ok, Start}

-- what the call answered and left
module _ (k : After-refined_point_outlined_with) where
  abbrev start : Start
  start = (goal.at.After-refined_point_outlined_with k).Start

  abbrev point : List ℤ
  point = start.args.point.now

  abbrev short : Bool
  short = ltb (length point) 3

  abbrev before : List Fault
  before =
      let a = start.args in
      point_faults_of a.net.now a.w a.h a.k a.outline.now a.p a.q short a.out.now
      a.scratch.now a.fine.now a.search.now

  abbrev refusal : ℕ
  refusal =
      let a = start.args in
      outlined_refusal_at a.net.now a.w a.h a.k a.outline.now a.p a.q short a.out.now
      a.scratch.now a.fine.now a.search.now

  abbrev values : List ℤ
  values =
      let a = start.args in
      refined_surface_point a.net.now a.w a.h a.k a.p a.q

  left : {n : ℕ} → n ≡ refusal → (let a = start.args in
      let after = k.refined_point_outlined_with.new in
      (n ≡ refusal)
      × OutlinedLeft n before a.net.now a.w a.h a.k a.outline.now a.out.now a.scratch.now
      a.fine.now a.search.now after.out after.scratch after.fine after.search)
  left e =
      let a = start.args in
      let after = k.refined_point_outlined_with.new in
      outlined_left refusal before a.net.now a.w a.h a.k a.outline.now a.out.now a.scratch.now
      a.fine.now a.search.now after.out after.scratch after.fine after.search e
      k.refined_point_outlined_with.ensures.left

  -- there is room for the point where nothing is refused
  room : refusal ≡ 0 → 3 ≤ length point
  room none =
      let a = start.args in
      ltb-false (length point) 3
      (point_fits a.net.now a.w a.h a.k a.outline.now a.p a.q short a.out.now
      a.scratch.now a.fine.now a.search.now none)

-- of an answer with a point
module _ (c : In-Ok) where
  abbrev call : After-refined_point_outlined_with
  call = (goal.at.In-Ok c).After-refined_point_outlined_with

  given : (let at = c.in-Ok.at in (refusal call ≡ 0) × (at.x ∷ at.y ∷ at.z ∷ [] ≡ values call))
  given = answered (refusal call) (values call) c.in-Ok.ensures.answer

pub returns-in-Ok : goal.returns-in-Ok
returns-in-Ok c =
    let a = (goal.at.returns-in-Ok c).In-Ok in
    let k = call a in
    let s = start k in
    let at = a.in-Ok.at in
    let fits = c.struct_told-1.given in
    let stored =
    stored_point at.x at.y at.z (point k) fits.0.1 fits.1.0.1 fits.1.1.0.1
    (room k (given a).0) c.store_point.ensures
    ∙ ap (λ (l : List ℤ). over l (point k)) (given a).1 in
    let claim =
    claimed_exported s.args.net.now s.args.w s.args.h s.args.k s.args.p s.args.q (values k)
    (point k) (a.in-Ok.ensures.demand_three (given a).0)
    (λ t. (0, (given a).1 t)) refl stored in
    let l = left k (sym (given a).0) in record {
      value = l.0;
      outlined_left = l.1;
      point_after = stored;
      claimed = λ none. claim;
    }

-- `ups::ups_surface_point_outlined` meets its contract.
use mathlib.Core.Path.{◌≡◌, sym, ap, ◌∙◌}
use mathlib.Core.Bool.{cond}
use mathlib.Core.List.{List, [], ◌∷◌}
use Prim.Native.Nat.{ℕ, ◌≤◌}
use lib.IntN.{ℤ}
use lib.ListN.{length}
use Rattle.net.specs.Refusals.{accepted}
use Rattle.net.proofs.Faults.{answered}
use Rattle.surface.specs.Answers.{point_outcome}
use Rattle.surface.specs.SurfacePoint.{surface_point}
use Rattle.ups.specs.Exports.{outlined_point_export}
use Rattle.ups.proofs.Exports.{outlined_point_room, stored_point, point_exported}
use Rattle.ups.proofs.ups_surface_point_outlined.Goals as goal
use Rattle.ups.proofs.ups_surface_point_outlined.Goals.{After-surface_point_outlined_with, In-Ok, Start}

-- what the call answered
module _ (c : After-surface_point_outlined_with) where
  abbrev start : Start
  start = (goal.at.After-surface_point_outlined_with c).Start

  abbrev out : List ℤ
  out = start.args.out.now

  abbrev refusal : ℕ
  refusal =
      outlined_point_export start.args.net.now start.args.w start.args.h start.args.outline.now
      start.args.p start.args.q (length out)

  abbrev point : List ℤ
  point = surface_point start.args.net.now start.args.w start.args.h start.args.p start.args.q

-- of an answer with a point
module _ (c : In-Ok) where
  abbrev call : After-surface_point_outlined_with
  call = (goal.at.In-Ok c).After-surface_point_outlined_with

  answer : (let at = c.in-Ok.point in
      ◌≡◌ {A = ℕ × List ℤ} (0, at.x ∷ at.y ∷ at.z ∷ []) (refusal call, cond (accepted (refusal call)) (point call) []))
  answer = c.in-Ok.ensures

  fits : 3 ≤ length (out call)
  fits =
      let a = (start call).args in
      outlined_point_room a.net.now a.w a.h a.outline.now a.p a.q (length (out call))
      (answered (refusal call) (point call) answer).0

pub returns-in-Ok : goal.returns-in-Ok
returns-in-Ok c =
    let p = (let a = (goal.at.returns-in-Ok c).In-Ok in
    let at = a.in-Ok.point in
    let held = c.struct_told-1.given in
    point_exported (refusal (call a)) (point (call a)) (out (call a)) (answer a)
    (stored_point at.x at.y at.z (out (call a)) held.0.1 held.1.0.1 held.1.1.0.1 (fits a)
    c.store_point.ensures)) in record { value = p.0; out_after = p.1 }

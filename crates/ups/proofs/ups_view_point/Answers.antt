-- `ups::ups_view_point` meets its contract: what was answered stands over the front of the output.
use mathlib.Core.Path.{◌≡◌, ◌∙◌}
use mathlib.Core.List.{List, [], ◌∷◌}
use Prim.Native.Nat.{ℕ, ◌≤◌}
use lib.ListN.{length}
use Rattle.exact.proofs.FillingLaws.{sets_over}
use Rattle.net.proofs.Faults.{answered}
use Rattle.surface.specs.Answers.{view_point}
use Rattle.ups.specs.Exports.{point_export}
use Rattle.ups.proofs.Exports.{point_room, point_exported}
use Rattle.ups.proofs.ups_view_point.Goals as goal
use Rattle.ups.proofs.ups_view_point.Goals.{In-Ok}

pub returns-in-Ok-clause-out_after : goal.returns-in-Ok-clause-out_after
returns-in-Ok-clause-out_after c =
    let k = (goal.at.returns-in-Ok-clause-out_after c).In-Ok in
    let a = c.args in
    let at = k.in-Ok.point in
    let refusal = point_export a.net.now a.w a.h a.p a.q (length a.out.now) in
    let view = view_point a.net.now a.w a.h a.p a.q in
    let fits = point_room a.net.now a.w a.h a.p a.q (length a.out.now) (answered refusal view k.in-Ok.ensures).0 in
    (point_exported refusal view a.out.now k.in-Ok.ensures
    (c.store_point.ensures ∙ sets_over (at.x ∷ at.y ∷ at.z ∷ []) a.out.now fits)).1

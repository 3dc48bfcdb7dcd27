-- `outlined_refined_points::faults::refusal_before` meets its contract: past 1, 4 and 6, where 2, 13 or 15 is there, 5
-- does not matter.
use mathlib.Core.Path.{sym, ◌∙◌}
use mathlib.Core.Bool.{◌||◌}
use mathlib.Core.List.{[], ◌∷◌, ◌++◌}
use lib.Dec.{lit<}
use Rattle.std.proofs.lemmas.Result.{err_from_is_err_and}
use Rattle.net.proofs.Faults.{none_clear, fault_after}
use Rattle.net.proofs.Results.{refused_before}
use Rattle.outline.specs.Refusals.{outlined_faults}
use Rattle.refine.specs.Refusals.{size_faults}
use Rattle.refined_points.specs.Refusals.{off_grid}
use Rattle.outlined_refine.specs.Refusals.{outlined_short}
use Rattle.outlined_refined_points.specs.Refusals.{off_door}
use Rattle.outlined_refined_points.proofs.faults.refusal_before.Goals as goal

pub returns-in_err-door_refusal : goal.returns-in_err-door_refusal
returns-in_err-door_refusal c =
    let a = c.args in
    let sizes = size_faults a.w a.h a.k in
    let given = outlined_faults a.net.now a.w a.h a.outline.now ++ (off_door a.k a.outline.now a.w a.h a.p a.q, 15) ∷ [] in
    let lent = (a.short || outlined_short a.w a.h a.k a.room a.scratch a.fine a.search, 5) ∷ [] in
    let size = none_clear sizes (lit< tt, (lit< tt, tt)) (sym c.in_ok-size_refusal.ensures) in
    let p = err_from_is_err_and c.from_residual-in_err-door_refusal.result c.from_residual-in_err-door_refusal.ensures.1 in
    rw (p.1, p.2)
    (refused_before _ given lent c.in_err-door_refusal.ensures
    ∙ fault_after (sizes ++ (off_grid a.w a.h a.k a.p a.q, 6) ∷ []) (given ++ lent)
    (size.0, (size.1.0, (sym c.if-off_grid.ensures, tt))))

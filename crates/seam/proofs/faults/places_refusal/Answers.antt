-- `seam::faults::places_refusal` meets its contract: where 1 or 4 is there, 6 does not matter.
use mathlib.Core.List.{[], ◌∷◌}
use Rattle.std.proofs.lemmas.Result.{err_from_is_err_and}
use Rattle.net.proofs.Results.{refused_before}
use Rattle.seam.specs.Refusals.{depth_faults, no_seam_place}
use Rattle.seam.proofs.faults.places_refusal.Goals as goal

pub returns-in_err-depth_refusal : goal.returns-in_err-depth_refusal
returns-in_err-depth_refusal c =
    let a = c.args in
    let p = err_from_is_err_and c.from_residual.result c.from_residual.ensures.1 in
    rw (p.1, p.2)
    (refused_before _ (depth_faults a.w a.h a.k a.l) ((no_seam_place a.w a.h a.k a.l a.p a.q a.p2 a.q2, 6) ∷ [])
    c.in_err-depth_refusal.ensures)

-- `ups::ups_bezier_net_outlined` meets its contract.
use mathlib.Core.Path.{◌∙◌}
use Rattle.net.proofs.Results.{refused_is}
use Rattle.ups.proofs.Exports.{outlined_bezier_outcome}
use Rattle.ups.proofs.ups_bezier_net_outlined.Goals as goal

pub returns : goal.returns
returns c =
    let a = c.args in
    let outcome = c.bezier_net_outlined.ensures in
    let p = outlined_bezier_outcome a.net.now a.w a.h a.outline.now a.i a.j a.down a.out.now
    (c.number_of.ensures ∙ refused_is _ outcome.result_value) outcome.out_after in
    record { value = p.0; out_after = p.1 }

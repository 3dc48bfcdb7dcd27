-- `ups::ups_bezier_net` meets its contract.
use mathlib.Core.Path.{◌∙◌}
use borrow.Author.Tests.{le-ltb}
use Rattle.net.proofs.Results.{refused_is}
use Rattle.ups.proofs.Exports.{bezier_outcome_lem}
use Rattle.ups.proofs.ups_bezier_net.Goals as goal

pub returns : goal.returns
returns c =
    let a = c.args in
    let outcome = c.bezier_net.ensures in
    let p = bezier_outcome_lem a.net.now a.w a.h a.i a.j a.down a.out.now (le-ltb _ _ c.if-down-gt1.false)
    (c.number_of.ensures ∙ refused_is _ outcome.result_value) outcome.out_after in
    record { value = p.0; out_after = p.1 }

-- `outlined_points::bezier_nets::bezier_net_outlined` meets its contract.
use mathlib.Core.Path.{refl}
use Rattle.net.proofs.Results.{refusal_there}
use Rattle.outlined_points.proofs.Answers.{refused_net, plain_net}
use Rattle.outlined_points.proofs.bezier_nets.bezier_net_outlined.Goals as goal

pub returns-in_err-bezier_refusal-clause-out_after : goal.returns-in_err-bezier_refusal-clause-out_after
returns-in_err-bezier_refusal-clause-out_after c =
    let a = c.args in
    (refused_net a.net.now a.w a.h a.outline.now a.i a.j a.down a.out.now c.in_err-bezier_refusal.ensures
    (refusal_there _)).1

pub returns : goal.returns
returns c =
    let a = c.args in
    let p = plain_net a.net.now a.w a.h a.outline.now a.i a.j a.down a.out.now c.in_ok-bezier_refusal.ensures refl
    c.bezier_net.ensures.result_value c.bezier_net.ensures.out_after in
    record { result_value = p.0; out_after = p.1 }

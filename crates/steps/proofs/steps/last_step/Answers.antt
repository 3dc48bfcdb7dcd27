-- `steps::steps::last_step` meets its contract.
use mathlib.Core.Path.{sym, subst}
use Prim.Native.Nat.{ℕ}
use Rattle.steps.specs.Steps.{StepReady}
use Rattle.steps.proofs.Sides.{wide_ready, high_ready, shallower}
use Rattle.steps.proofs.StepLaws.{last_ready}
use Rattle.steps.proofs.steps.last_step.Goals as goal

pub side_after-m-requires : goal.side_after-m-requires
side_after-m-requires c =
    let r = wide_ready c.args.steps.depth in
    (r.0, r.1, (shallower c.args.steps.depth).few)

pub side_after-n-requires : goal.side_after-n-requires
side_after-n-requires c =
    let r = high_ready c.args.steps.depth in
    (r.0, r.1, (shallower c.args.steps.depth).few)

pub refine_once-requires : goal.refine_once-requires
refine_once-requires c =
    let s = c in
    subst (λ (n : ℕ × ℕ). StepReady s.args.net.now n.0 n.1 s.args.out.now)
    (λ t. (sym c.side_after-m.ensures t, sym c.side_after-n.ensures t))
    (last_ready s.args.net.now s.args.out.now s.args.steps.depth s.requires.0 s.requires.1 s.requires.2)

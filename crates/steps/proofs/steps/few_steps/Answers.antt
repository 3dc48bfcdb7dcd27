-- `steps::steps::few_steps` meets its contract.
use mathlib.Core.Path.{◌≡◌, ap, ◌∙◌}
use mathlib.Core.List.{List}
use Prim.Native.Nat.{◌≤◌, ◌-◌}
use native.Mathlib.Omega.{arith}
use lib.IntN.{ℤ}
use lib.ListN.{length, take}
use borrow.Author.Tests.{ltb-false}
use Rattle.exact.specs.Filling.{over}
use Rattle.net.specs.Net.{numbers}
use Rattle.steps.proofs.StepLaws.{copied}
use Rattle.steps.proofs.steps.few_steps.Goals as goal
use Rattle.steps.proofs.steps.few_steps.Goals.{Start}

long : (s : Start) → numbers s.args.steps.w s.args.steps.h ≤ length s.args.net.now
long s = ltb-false _ _ s.requires.1.long

pub returns-then-steps-eq0 : goal.returns-then-steps-eq0
returns-then-steps-eq0 c =
    let s = (goal.at.returns-then-steps-eq0 c).Start in
    let whole : numbers s.args.steps.w s.args.steps.h - 0 ≡ numbers s.args.steps.w s.args.steps.h = omega arith in
    c.copy_over.ensures
    ∙ (λ t. over (take (whole t) s.args.net.now) s.args.out.now)
    ∙ ap (λ (l : List ℤ). over l s.args.out.now)
    (copied s.args.net.now s.args.steps.w s.args.steps.h s.args.steps.k c.if-steps-eq0.true
    (long s))

-- `steps::steps::refine_steps`, which calls itself with one step less, meets its contract.
use mathlib.Core.List.{List}
use mathlib.Core.Path.{sym, subst, ◌∙◌}
use Prim.Native.Nat.{◌-◌, ◌≤◌}
use native.Mathlib.Omega.{arith}
use lib.IntN.{ℤ}
use Rattle.exact.specs.Filling.{over}
use Rattle.net.specs.Refusals.{AcceptedNet}
use Rattle.subdivision.specs.Refinement.{side_after}
use Rattle.steps.specs.RefinedNet.{refined_net}
use Rattle.steps.proofs.Sides.{shallower}
use Rattle.steps.proofs.RefinedNets.{refined_accepted}
use Rattle.steps.proofs.StepLaws.{scratch_needed, scratch_before, output_after_lem, scratch_after_lem}
use Rattle.steps.proofs.steps.+refine_steps.Goals as goal

pub refine_steps-requires : goal.refine_steps-requires
refine_steps-requires t c =
    let s = c.requires in
    let two : 2 ≤ c.args.steps.k = c.if-steps-lt2.false in
    let needed = scratch_needed c.args.steps.k c.args.steps.w c.args.steps.h two in (
      omega (arith, c.decreases, two),
      (s.0, omega (arith, needed, s.2), omega (arith, scratch_before c.args.steps.depth, s.1)),
    )

pub last_step-requires : goal.last_step-requires
last_step-requires t c =
    let s = c.requires in
    let a = c.args in
    let two : 2 ≤ a.steps.k = c.if-steps-lt2.false in
    let needed = scratch_needed a.steps.k a.steps.w a.steps.h two in
    let before = c.refine_steps.ensures in
    let given = refined_accepted a.net.now a.scratch.now (shallower a.steps.depth) s.0 (omega (arith, needed, s.2)) in (
      omega arith,
      subst (λ (l : List ℤ). AcceptedNet l (side_after (a.steps.k - 1) a.steps.w) (side_after (a.steps.k - 1) a.steps.h))
          (sym before.out_after) given,
      omega (arith, s.1, before.unchanged_from.0),
    )

pub returns-else-steps-lt2-clause-out_after : goal.returns-else-steps-lt2-clause-out_after
returns-else-steps-lt2-clause-out_after t c =
    let a = c.args in
    let before = c.refine_steps.ensures in
    let mid = c.refine_steps.new.scratch in
    c.last_step.ensures
    ∙ (λ t. over (refined_net (before.out_after t) (side_after (a.steps.k - 1) a.steps.w) (side_after (a.steps.k - 1) a.steps.h) 1) mid)
    ∙ output_after_lem a.net.now a.out.now a.scratch.now mid a.steps.depth (omega arith) before.unchanged_from

pub returns-else-steps-lt2-clause-unchanged_from : goal.returns-else-steps-lt2-clause-unchanged_from
returns-else-steps-lt2-clause-unchanged_from t c =
    let a = c.args in
    scratch_after_lem a.net.now a.scratch.now a.steps.w a.steps.h a.steps.k c.if-steps-lt2.false c.requires.2 c.refine_steps.ensures.out_after

pub invariant_of-before : goal.invariant_of-before
invariant_of-before t c = record { sized = c.args.steps.sized; depth = shallower c.args.steps.depth }

-- `steps::steps::refine_row` meets its contract.
use mathlib.Core.Path.{◌≡◌, ap, ◌∙◌}
use Prim.Native.Nat.{ℕ, ◌+◌, ◌-◌, ◌*◌}
use native.Mathlib.Nat.{mul_comm}
use native.Mathlib.Omega.{arith}
use lib.Seq.{sets}
use Rattle.exact.specs.Filling.{runs}
use Rattle.exact.proofs.FillingLaws.{runs_none, runs_more}
use Rattle.net.specs.Net.{stride}
use Rattle.steps.specs.RefinedNet.{refined_fields}
use Rattle.steps.specs.Steps.{pair_run}
use Rattle.steps.proofs.PairedRows.{pair_length, pairs_row}
use Rattle.steps.proofs.steps.refine_row.Goals as goal

pub loop-m-init : goal.loop-m-init
loop-m-init c = runs_none _ _ _

pub loop-m-preserved : goal.loop-m-preserved
loop-m-preserved c =
    let k = c in
    let a = k.args in
    let m = k.loop-m.m in
    let pairs = pair_run (refined_fields a.net.now a.w) a.w a.j in
    c.store_pair.ensures
    ∙ (λ t. sets (k.loop-m.invariant t) (a.at + mul_comm (2 * stride) m t) (pairs m))
    ∙ runs_more a.out.now a.at m (2 * stride) pairs
    (λ i h. pair_length (refined_fields a.net.now a.w) a.w a.j i (omega (arith, h, k.loop-m-test.true)))

pub returns : goal.returns
returns c =
    let s = c in
    let a = s.args in
    let last : a.w - 1 + 1 ≡ a.w = omega (arith, s.requires.depth.wide) in
    let all : c.loop-m.m ≡ a.w - 1 + 1 = omega (arith, last) in
    c.loop-m.invariant
    ∙ ap (λ (n : ℕ). sets a.out.now a.at (runs n (pair_run (refined_fields a.net.now a.w) a.w a.j))) all
    ∙ ap (sets a.out.now a.at) (pairs_row (refined_fields a.net.now a.w) a.w a.j (a.w - 1) last)

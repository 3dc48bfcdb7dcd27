-- `graphs::links::link_self` meets its contract: each iteration stores one run of one number more.
use mathlib.Core.Path.{◌≡◌, refl, sym, ◌∙◌, ap}
use mathlib.Core.List.{List}
use Prim.Native.Nat.{ℕ}
use native.Mathlib.Nat.{mul-one}
use native.Mathlib.Omega.{arith}
use lib.ListN.{length, set}
use lib.Seq.{sets}
use Rattle.exact.specs.Filling.{over, runs}
use Rattle.exact.proofs.FillingLaws.{over_none, over_more}
use Rattle.graphs.proofs.LinkLaws.{own_over}
use Rattle.graphs.proofs.links.link_self.Invariants.{own}
use Rattle.graphs.proofs.links.link_self.Goals as goal

pub loop-t-init : goal.loop-t-init
loop-t-init c = over_none _ _

pub loop-t-preserved : goal.loop-t-preserved
loop-t-preserved c =
    let old = c.args.links.now in
    let t = c.loop-t.t in
    ap (λ (l : List ℕ). set l t t) c.loop-t.invariant
    ∙ ap (λ (at : ℕ). sets (over (runs t own) old) at (own t)) (sym (mul-one t))
    ∙ over_more old t 1 own (λ k h. refl) (omega arith)

pub returns : goal.returns
returns c =
    let old = c.args.links.now in
    let all : c.loop-t.t ≡ length old = omega arith in
    c.loop-t.invariant ∙ ap (λ (n : ℕ). over (runs n own) old) all ∙ own_over (length old) old refl

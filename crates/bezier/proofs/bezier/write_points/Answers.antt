-- `bezier::bezier::write_points` meets its contract: each iteration stores one coordinate more.
use mathlib.Core.Path.{◌≡◌, ap, ◌∙◌}
use Prim.Native.Nat.{ℕ}
use native.Mathlib.Omega.{arith}
use Rattle.bezier.specs.Weights.{placed}
use Rattle.bezier.proofs.Placing.{passes, passes_none, passes_more, passes_points}
use Rattle.bezier.proofs.bezier.write_points.Invariants.{points}
use Rattle.bezier.proofs.bezier.write_points.Goals as goal

pub loop-x-init : goal.loop-x-init
loop-x-init c = passes_none _ _

pub loop-x-preserved : goal.loop-x-preserved
loop-x-preserved c =
    let a = c.args in
    let x = c.loop-x.x in
    let f = points a.controls in
    c.write_coordinate.ensures ∙ ap (placed 19 x (f x)) c.loop-x.invariant ∙ passes_more x f a.out.now

pub returns : goal.returns
returns c =
    let start = c in
    let f = points start.args.controls in
    let all : c.loop-x.x ≡ 3 = omega arith in
    c.loop-x.invariant
    ∙ ap (λ (x : ℕ). passes x f start.args.out.now) all
    ∙ passes_points f start.args.out.now start.requires.1

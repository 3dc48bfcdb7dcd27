-- `hermite::nets::hermite_beyond` meets its contract.
use mathlib.Core.Path.{◌≡◌, refl, sym, ap, ◌∙◌}
use mathlib.Core.List.{List}
use Prim.Native.Nat.{ℕ, ◌*◌}
use native.Mathlib.Omega.{arith}
use lib.IntN.{ℤ}
use Rattle.exact.specs.Filling.{runs}
use Rattle.net.specs.Refusals.{net_limit, any_beyond, controls_beyond}
use Rattle.net.proofs.Ranges.{any_more, any_in_runs}
use Rattle.hermite.specs.Sums.{nine_of}
use Rattle.hermite.proofs.HermiteLaws.{hermite_run, hermite_tested, triangle_tested}
use Rattle.hermite.proofs.nets.hermite_beyond.Goals as goal
use Rattle.hermite.proofs.nets.hermite_beyond.Goals.{After-triangle_beyond}

pub loop-n-init : goal.loop-n-init
unfolding runs
loop-n-init c = refl

-- the test of vertex n, of the numbers of that vertex
tested : (c : After-triangle_beyond) →
    c.triangle_beyond.result
    ≡ any_beyond (hermite_run c.args.given.now c.args.w
    c.loop-n.n)
tested c =
    let k = c in
    let a = k.args in
    c.triangle_beyond.ensures ∙ ap (λ (l : List (List ℤ)). controls_beyond (nine_of l)) c.controls_at.ensures
    ∙ triangle_tested a.given.now a.w a.h k.loop-n.n k.loop-n-test.true

pub returns-then-triangle_beyond : goal.returns-then-triangle_beyond
returns-then-triangle_beyond c =
    let k = (goal.at.returns-then-triangle_beyond c).After-triangle_beyond in
    let a = k.args in
    any_in_runs net_limit (a.w * a.h) (hermite_run a.given.now a.w)
    k.loop-n.n k.loop-n-test.true (sym (tested k) ∙ c.if-triangle_beyond.true)
    ∙ sym (hermite_tested a.given.now a.w a.h)

pub loop-n-preserved : goal.loop-n-preserved
loop-n-preserved c =
    let k = (goal.at.loop-n-preserved c).After-triangle_beyond in
    let a = k.args in
    any_more net_limit k.loop-n.n (hermite_run a.given.now a.w)
    k.loop-n.invariant (sym (tested k) ∙ c.if-triangle_beyond.false)

pub returns : goal.returns
returns c =
    let a = c.args in
    let all : c.loop-n.n ≡ a.w * a.h = omega arith in
    sym (hermite_tested a.given.now a.w a.h
    ∙ ap (λ (n : ℕ). any_beyond (runs n (hermite_run a.given.now a.w))) (sym all) ∙ c.loop-n.invariant)

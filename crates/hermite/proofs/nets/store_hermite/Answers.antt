-- `hermite::nets::store_hermite` meets its contract.
use mathlib.Core.List.{List}
use mathlib.Core.Path.{◌≡◌, refl, sym, ap, ◌∙◌}
use Prim.Native.Nat.{ℕ, ◌+◌, ◌*◌, ◌≤◌}
use native.Mathlib.Nat.{mul_comm}
use native.Mathlib.Omega.{arith}
use lib.IntN.{ℤ}
use lib.ListN.{length}
use lib.Seq.{sets}
use Rattle.exact.specs.Filling.{over, runs}
use Rattle.exact.proofs.FillingLaws.{over_none, over_more}
use Rattle.net.specs.Net.{stride, vertex_of}
use Rattle.net.specs.Refusals.{controls_beyond}
use Rattle.steps.proofs.RefinedVertices.{stored_triangle}
use Rattle.hermite.specs.HermiteNet.{hermite_fields}
use Rattle.hermite.specs.Sums.{nine_of}
use Rattle.hermite.proofs.HermiteLaws.{hermite_run, hermite_by_number, triangle_there, triangle_in_range}
use Rattle.hermite.proofs.nets.store_hermite.Goals as goal

pub loop-n-init : goal.loop-n-init
loop-n-init c = over_none _ _

pub narrow_triangle-c-requires : goal.narrow_triangle-c-requires
narrow_triangle-c-requires c =
    let k = c in
    let s = c in
    let a = s.args in
    ap (λ (l : List (List ℤ)). controls_beyond (nine_of l)) c.controls_at.ensures
    ∙ triangle_in_range a.given.now a.w a.h k.loop-n.n k.loop-n-test.true s.requires.0.fine

pub loop-n-preserved : goal.loop-n-preserved
loop-n-preserved c =
    let e = c in
    let k = c in
    let s = c in
    let a = s.args in
    let n = k.loop-n.n in
    let F = hermite_fields a.given.now a.w in
    let fits : (n + 1) * stride ≤ length a.out.now = omega (arith, s.requires.1, k.loop-n-test.true) in
    c.store_triangle.ensures
    ∙ stored_triangle F (vertex_of a.w n) k.loop-n.out (stride * n)
    (e.narrow_triangle-c.ensures ∙ ap nine_of e.controls_at.ensures
    ∙ triangle_there a.given.now a.w a.h n k.loop-n-test.true)
    ∙ (λ t. sets (k.loop-n.invariant t) (mul_comm stride n t) (hermite_run a.given.now a.w n))
    ∙ over_more a.out.now n stride (hermite_run a.given.now a.w) (λ m h. refl) fits

pub returns : goal.returns
returns c =
    let a = c.args in
    let all : c.loop-n.n ≡ a.w * a.h = omega arith in
    c.loop-n.invariant
    ∙ ap (λ (n : ℕ). over (runs n (hermite_run a.given.now a.w)) a.out.now) all
    ∙ ap (λ (l : List ℤ). over l a.out.now) (sym (hermite_by_number a.given.now a.w a.h))

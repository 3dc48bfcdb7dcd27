-- `steps::steps::refine_once` meets its contract.
use mathlib.Core.Path.{◌≡◌, refl, ap, ◌∙◌}
use Prim.Native.Nat.{ℕ, ◌+◌, ◌*◌, ◌≤◌}
use native.Mathlib.Nat.{mul_assoc, mul_comm, mul-le-mul, le_refl}
use native.Mathlib.Omega.{arith}
use lib.ListN.{length}
use lib.Seq.{sets}
use Rattle.exact.specs.Filling.{over, runs}
use Rattle.exact.proofs.FillingLaws.{over_none, over_more}
use Rattle.net.specs.Net.{stride, grid}
use Rattle.net.proofs.Grids.{row_length}
use Rattle.subdivision.specs.Refinement.{refined_side}
use Rattle.steps.specs.RefinedNet.{refined_fields, vertex_run, row_run, stored, refined_net}
use Rattle.steps.proofs.steps.refine_once.Goals as goal

pub loop-j-init : goal.loop-j-init
loop-j-init c = over_none _ _

pub loop-j-preserved : goal.loop-j-preserved
loop-j-preserved c =
    let s = c in
    let j = c.loop-j.j in
    let wide = refined_side s.args.w in
    let F = refined_fields s.args.net.now s.args.w in
    let place : stride * (j * wide) ≡ j * (wide * stride) = omega (arith, mul_assoc j wide stride) in
    let below : (j + 1) * (wide * stride) ≤ refined_side s.args.h * (wide * stride) =
    mul-le-mul (omega arith) (le_refl (wide * stride)) in
    let fits : (j + 1) * (wide * stride) ≤ length s.args.out.now =
    omega (
      arith,
      below,
      s.requires.2,
      mul_assoc (refined_side s.args.h) wide stride,
      mul_comm
          (refined_side s.args.h) wide,
    ) in
    c.refine_row.ensures
    ∙ (λ t. sets (c.loop-j.invariant t) (place t) (row_run F wide j))
    ∙ over_more s.args.out.now j (wide * stride) (row_run F wide)
    (λ m h. row_length stride (vertex_run F) (λ v. refl) wide m) fits

pub returns : goal.returns
unfolding refined_net stored grid
returns c =
    let s = c in
    let all : c.loop-j.j ≡ refined_side s.args.h = omega arith in
    c.loop-j.invariant ∙ ap
    (λ (n : ℕ). over (runs n (row_run (refined_fields s.args.net.now s.args.w) (refined_side s.args.w)))
    s.args.out.now) all

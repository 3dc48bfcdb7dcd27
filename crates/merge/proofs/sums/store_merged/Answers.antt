-- `merge::sums::store_merged` meets its contract.
use mathlib.Core.Path.{◌≡◌, refl, ap, ◌∙◌}
use Prim.Native.Nat.{ℕ, ◌+◌, ◌*◌, ◌≤◌}
use native.Mathlib.Nat.{mul_assoc, mul_comm, mul-le-mul, le_refl}
use native.Mathlib.Omega.{arith}
use lib.ListN.{length}
use lib.Seq.{sets}
use Rattle.exact.specs.Filling.{over, runs}
use Rattle.exact.proofs.FillingLaws.{over_none, over_more}
use Rattle.net.specs.Net.{stride, grid}
use Rattle.net.proofs.Grids.{row_length}
use Rattle.subdivision.specs.Refinement.{refined_side}
use Rattle.steps.specs.RefinedNet.{vertex_run, row_run, stored}
use Rattle.merge.specs.Merge.{merged_fields, merged_net}
use Rattle.merge.proofs.sums.store_merged.Goals as goal

pub loop-j-init : goal.loop-j-init
loop-j-init c = over_none _ _

pub loop-j-preserved : goal.loop-j-preserved
loop-j-preserved c =
    let a = c.args in
    let j = c.loop-j.j in
    let m = refined_side a.w in
    let n = refined_side a.h in
    let F = merged_fields a.coarse.now a.details.now a.w in
    let place : stride * (j * m) ≡ j * (m * stride) = omega (arith, mul_assoc j m stride) in
    let below : (j + 1) * (m * stride) ≤ n * (m * stride) = mul-le-mul (omega (arith, c.loop-j-test.true)) (le_refl (m * stride)) in
    let fits : (j + 1) * (m * stride) ≤ length a.out.now =
    omega (arith, below, c.requires.1, mul_assoc n m stride, mul_comm n m) in
    c.store_merged_row.ensures
    ∙ (λ t. sets (c.loop-j.invariant t) (place t) (row_run F m j))
    ∙ over_more a.out.now j (m * stride) (row_run F m) (λ i h. row_length stride (vertex_run F) (λ v. refl) m i) fits

pub returns : goal.returns
unfolding merged_net stored grid
returns c =
    let a = c.args in
    let all : c.loop-j.j ≡ refined_side a.h = omega arith in
    c.loop-j.invariant
    ∙ ap (λ (n : ℕ). over (runs n (row_run (merged_fields a.coarse.now a.details.now a.w) (refined_side a.w))) a.out.now) all

-- `split::detail::store_differences` meets its contract.
use mathlib.Core.Path.{◌≡◌, refl, ap, ◌∙◌}
use Prim.Native.Nat.{ℕ, ◌+◌, ◌*◌, ◌≤◌}
use native.Mathlib.Nat.{mul_assoc, mul_comm, mul-le-mul, le_refl}
use native.Mathlib.Omega.{arith}
use lib.ListN.{length}
use lib.Seq.{sets}
use Rattle.exact.specs.Filling.{over, runs}
use Rattle.exact.proofs.FillingLaws.{over_none, over_more}
use Rattle.net.specs.Net.{Field, field, grid}
use Rattle.net.proofs.Grids.{row_length}
use Rattle.details.specs.Details.{detail_stride, detail_run, stored_details}
use Rattle.coarse.specs.Coarse.{coarse_side}
use Rattle.split.specs.Split.{detail_of}
use Rattle.split.proofs.detail.store_differences.Invariants.{details_on}
use Rattle.split.proofs.detail.store_differences.Goals as goal

pub loop-j-init : goal.loop-j-init
loop-j-init c = over_none _ _

pub loop-j-preserved : goal.loop-j-preserved
loop-j-preserved c =
    let a = c.args in
    let j = c.loop-j.j in
    let D : ℕ → Field = λ x. detail_of (field a.net.now a.w x) (field a.coarse.now (coarse_side a.w) x) in
    let long = a.w * detail_stride in
    let place : detail_stride * (j * a.w) ≡ j * long = omega (arith, mul_assoc j a.w detail_stride) in
    let below : (j + 1) * long ≤ a.h * long = mul-le-mul (omega (arith, c.loop-j-test.true)) (le_refl long) in
    let fits : (j + 1) * long ≤ length a.details.now =
    omega (arith, below, c.requires.3, mul_assoc a.h a.w detail_stride, mul_comm a.h a.w) in
    c.store_difference_row.ensures
    ∙ (λ t. sets (c.loop-j.invariant t) (place t) (details_on a.net.now a.coarse.now a.w j))
    ∙ over_more a.details.now j long (details_on a.net.now a.coarse.now a.w)
    (λ i h. row_length detail_stride (detail_run D) (λ v. refl) a.w i) fits

pub returns : goal.returns
unfolding stored_details grid
returns c =
    let a = c.args in
    let all : c.loop-j.j ≡ a.h = omega arith in
    c.loop-j.invariant
    ∙ ap (λ (n : ℕ). over (runs n (details_on a.net.now a.coarse.now a.w)) a.details.now) all

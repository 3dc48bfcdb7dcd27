-- `coarse::coarse::store_coarse` meets its contract.
use mathlib.Core.List.{List}
use mathlib.Core.Path.{◌≡◌, refl, sym, ap, ◌∙◌}
use Prim.Native.Nat.{ℕ, ◌+◌, ◌*◌, ◌≤◌, ◌<◌}
use native.Mathlib.Nat.{mul_assoc, mul_comm, mul-le-mul, le_refl}
use native.Mathlib.Omega.{arith}
use lib.IntN.{ℤ}
use lib.ListN.{length}
use lib.Seq.{sets}
use Rattle.exact.specs.Filling.{over, runs}
use Rattle.exact.proofs.FillingLaws.{over_none, over_more}
use Rattle.net.specs.Net.{stride, numbers}
use Rattle.net.proofs.Grids.{row_length}
use Rattle.steps.specs.RefinedNet.{vertex_run, row_run}
use Rattle.coarse.specs.Coarse.{coarse_side, coarse_fields}
use Rattle.coarse.proofs.CoarseLaws.{coarse_by_rows}
use Rattle.coarse.proofs.coarse.store_coarse.Goals as goal

-- row j, stored where the rows before it end
next_row : (net : List ℤ) (w h j : ℕ) (old out : List ℤ) → j < coarse_side h →
    numbers (coarse_side w) (coarse_side h) ≤ length old →
    (let row = row_run (coarse_fields net w) (coarse_side w) in
    out ≡ over (runs j row) old → sets out (stride * (j * coarse_side w)) (row j) ≡ over (runs (j + 1) row) old)
next_row net w h j old out below roomy e =
    let wide = coarse_side w in
    let high = coarse_side h in
    let F = coarse_fields net w in
    let place : stride * (j * wide) ≡ j * (wide * stride) = omega (arith, mul_assoc j wide stride) in
    let ends : (j + 1) * (wide * stride) ≤ high * (wide * stride) =
    mul-le-mul (omega (arith, below)) (le_refl (wide * stride)) in
    let fits : (j + 1) * (wide * stride) ≤ length old =
    omega (arith, ends, roomy, mul_assoc high wide stride, mul_comm high wide) in
    (λ t. sets (e t) (place t) (row_run F wide j))
    ∙ over_more old j (wide * stride) (row_run F wide) (λ m h. row_length stride (vertex_run F) (λ v. refl) wide m) fits

pub loop-j-init : goal.loop-j-init
loop-j-init c = over_none _ _

pub loop-j-preserved : goal.loop-j-preserved
loop-j-preserved c =
    let a = c.args in
    let at = c.loop-j in
    c.store_coarse_row.ensures
    ∙ next_row a.net.now a.w a.h at.j a.coarse.now at.coarse c.loop-j-test.true c.requires.1 at.invariant

pub returns : goal.returns
returns c =
    let a = c.args in
    let row = row_run (coarse_fields a.net.now a.w) (coarse_side a.w) in
    let all : c.loop-j.j ≡ coarse_side a.h = omega arith in
    c.loop-j.invariant
    ∙ ap (λ (n : ℕ). over (runs n row) a.coarse.now) all
    ∙ ap (λ (l : List ℤ). over l a.coarse.now) (sym (coarse_by_rows a.net.now a.w a.h))

-- `merge::sums::store_sums` meets its contract.
use mathlib.Core.Path.{refl, ◌∙◌}
use Prim.Native.Nat.{◌+◌, ◌*◌}
use native.Mathlib.Nat.{mul_comm}
use lib.Seq.{sets}
use Rattle.exact.proofs.FillingLaws.{runs_none, runs_more}
use Rattle.net.specs.Net.{vertex_at, stride}
use Rattle.steps.specs.RefinedNet.{vertex_run}
use Rattle.steps.proofs.RefinedVertices.{stored_triangle}
use Rattle.merge.specs.Merge.{row_sums}
use Rattle.merge.proofs.sums.store_sums.Invariants.{sums_at}
use Rattle.merge.proofs.sums.store_sums.Goals as goal

pub loop-i-init : goal.loop-i-init
loop-i-init c = runs_none _ _ _

pub loop-i-preserved : goal.loop-i-preserved
loop-i-preserved c =
    let a = c.args in
    let i = c.loop-i.i in
    let at = stride * (a.j * a.w) in
    let F = row_sums a.row.now a.details.now a.w in
    c.store_triangle.ensures
    ∙ stored_triangle F (vertex_at i a.j) c.loop-i.out (at + stride * i) c.vertex_sums-c.ensures
    ∙ (λ t. sets (c.loop-i.invariant t) (at + mul_comm stride i t) (vertex_run F (vertex_at i a.j)))
    ∙ runs_more a.out.now at i stride (sums_at a.row.now a.details.now a.w a.j) (λ m h. refl)

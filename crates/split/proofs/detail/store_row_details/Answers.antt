-- `split::detail::store_row_details` meets its contract.
use mathlib.Core.Path.{refl, ◌∙◌}
use Prim.Native.Nat.{◌+◌, ◌*◌}
use native.Mathlib.Nat.{mul_comm}
use lib.Seq.{sets}
use Rattle.exact.proofs.FillingLaws.{runs_none, runs_more}
use Rattle.net.specs.Net.{vertex_at}
use Rattle.details.specs.Details.{detail_stride, detail_run}
use Rattle.details.proofs.DetailLaws.{stored_details_lem}
use Rattle.split.specs.Split.{row_differences}
use Rattle.split.proofs.detail.store_row_details.Invariants.{details_at}
use Rattle.split.proofs.detail.store_row_details.Goals as goal

pub loop-i-init : goal.loop-i-init
loop-i-init c = runs_none _ _ _

pub loop-i-preserved : goal.loop-i-preserved
loop-i-preserved c =
    let a = c.args in
    let i = c.loop-i.i in
    let at = detail_stride * (a.j * a.w) in
    let D = row_differences a.net.now a.row.now a.w in
    c.store_details.ensures
    ∙ stored_details_lem D (vertex_at i a.j) c.loop-i.details (at + detail_stride * i) c.vertex_differences-d.ensures
    ∙ (λ t. sets (c.loop-i.invariant t) (at + mul_comm detail_stride i t) (detail_run D (vertex_at i a.j)))
    ∙ runs_more a.details.now at i detail_stride (details_at a.net.now a.row.now a.w a.j) (λ m h. refl)

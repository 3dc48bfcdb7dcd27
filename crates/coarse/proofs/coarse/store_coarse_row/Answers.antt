-- `coarse::coarse::store_coarse_row` meets its contract.
use mathlib.Core.Path.{◌≡◌, refl, ◌∙◌}
use Prim.Native.Nat.{◌+◌, ◌*◌}
use native.Mathlib.Omega.{arith}
use lib.Seq.{sets}
use Rattle.exact.proofs.FillingLaws.{runs_none, runs_more}
use Rattle.net.specs.Net.{vertex_at, stride}
use Rattle.steps.proofs.RefinedVertices.{stored_triangle}
use Rattle.coarse.specs.Coarse.{coarse_side, coarse_fields, coarse_controls}
use Rattle.coarse.proofs.CoarseLaws.{run_in_row, kept_vertex}
use Rattle.coarse.proofs.coarse.store_coarse_row.Goals as goal

pub loop-i-init : goal.loop-i-init
loop-i-init c = runs_none _ _ _

pub coarse_vertex-requires : goal.coarse_vertex-requires
coarse_vertex-requires c =
    let a = c.args in
    kept_vertex a.net.now a.w a.h c.loop-i.i a.j c.requires.0 c.loop-i-test.true c.requires.1

pub loop-i-preserved : goal.loop-i-preserved
unfolding coarse_controls
loop-i-preserved c =
    let a = c.args in
    let i = c.loop-i.i in
    let wide = coarse_side a.w in
    let from = stride * (a.j * wide) in
    let place : stride * (a.j * wide + i) ≡ from + i * stride = omega arith in
    c.store_triangle.ensures
    ∙ stored_triangle (coarse_fields a.net.now a.w) (vertex_at i a.j) c.loop-i.coarse
    (stride * (a.j * wide + i)) c.coarse_vertex.ensures
    ∙ (λ t. sets (c.loop-i.invariant t) (place t) (run_in_row a.net.now a.w a.j i))
    ∙ runs_more a.coarse.now from i stride (run_in_row a.net.now a.w a.j) (λ m h. refl)

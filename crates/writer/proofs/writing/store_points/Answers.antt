-- `writer::writing::store_points` meets its contract: each iteration stores one control point more.
use mathlib.Core.Path.{refl, ◌∙◌}
use Prim.Native.Nat.{◌+◌, ◌*◌}
use native.Mathlib.Nat.{mul_comm}
use lib.Seq.{sets}
use Rattle.exact.proofs.FillingLaws.{runs_none, runs_more}
use Rattle.net.specs.Net.{point_stride}
use Rattle.words.specs.NetFile.{word_bytes, point_bytes, head_size, point_size}
use Rattle.writer.proofs.writing.store_points.Goals as goal

pub loop-i-init : goal.loop-i-init
loop-i-init c = runs_none _ _ _

pub loop-i-preserved : goal.loop-i-preserved
unfolding point_bytes word_bytes
loop-i-preserved c =
    let net = c.args.net.now in
    let i = c.loop-i.i in
    c.store_numbers.ensures
    ∙ (λ t. sets (c.loop-i.invariant t) (head_size + mul_comm point_size i t) (point_bytes net (point_stride * i)))
    ∙ runs_more c.args.out.now 8 i point_size (λ j. point_bytes net (point_stride * j)) (λ j h. refl)

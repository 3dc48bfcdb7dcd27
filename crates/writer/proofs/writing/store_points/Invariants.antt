-- `writer::writing::store_points` meets its contract: each iteration stores one control point more.
use mathlib.Core.Path.{◌≡◌}
use Prim.Native.Nat.{◌*◌}
use lib.Seq.{sets}
use Rattle.exact.specs.Filling.{runs}
use Rattle.net.specs.Net.{point_stride}
use Rattle.words.specs.NetFile.{point_bytes, head_size}
use Rattle.writer.proofs.writing.store_points.Given as goal

abbrev pub invariant-loop-i : goal.invariant-loop-i
invariant-loop-i l =
    l.out ≡ sets l.initial.out head_size (runs l.i (λ j. point_bytes l.net (point_stride * j)))

-- `reader::reading::load_points` meets its contract: each iteration stores one control point more.
use mathlib.Core.Path.{refl, ap, ◌∙◌}
use Prim.Native.Nat.{◌+◌, ◌*◌, ◌≤◌}
use native.Mathlib.Omega.{arith}
use native.Mathlib.Nat.{mul_comm}
use lib.ListN.{length}
use lib.Seq.{sets}
use borrow.Author.Rules.{rules}
use Rattle.exact.proofs.FillingLaws.{over_none, over_more}
use Rattle.net.specs.Net.{point_stride}
use Rattle.words.specs.NetFile.{first_point, from_point, head_size, point_size}
use Rattle.reader.proofs.Parsing.{part_from}
use Rattle.reader.proofs.reading.load_points.Goals as goal

pub loop-i-init : goal.loop-i-init
loop-i-init c = (refl, over_none _ _)

pub loop-i-preserved : goal.loop-i-preserved
unfolding first_point
loop-i-preserved c =
    let file = c.args.file.now in
    let old = c.args.net.now in
    let i = c.loop-i.i in
    let inv = c.loop-i.invariant in
    let room : point_stride * c.args.n ≤ length old = c.requires.1 in
    let point = c.first_point.ensures
    ∙ ap first_point (part_from file (head_size + point_size * i)) in (
      search rules,
      c.store_point.ensures
          ∙ (λ t. sets (inv.1 t) (mul_comm 3 i t) (point t))
          ∙ over_more old i 3 (λ j. first_point (from_point file j)) (λ k h. refl) (omega arith),
    )

-- `reader::reading::load_points` meets its contract: each iteration stores one control point more.
use mathlib.Core.Path.{◌≡◌}
use lib.ListN.{length}
use Rattle.exact.specs.Filling.{runs, over}
use Rattle.words.specs.NetFile.{first_point, from_point}
use Rattle.reader.proofs.reading.load_points.Given as goal

abbrev pub invariant-loop-i : goal.invariant-loop-i
invariant-loop-i l =
    (length l.net ≡ length l.initial.net)
    × (l.net ≡ over (runs l.i (λ j. first_point (from_point l.file j))) l.initial.net)

-- `reader::reading::whole_points_refusal` meets its contract: the control points before i have no fault.
use Rattle.exact.specs.Filling.{runs}
use Rattle.net.proofs.Faults.{Clear}
use Rattle.words.specs.NetFile.{from_point}
use Rattle.reader.specs.Refusals.{point_faults}
use Rattle.reader.proofs.reading.whole_points_refusal.Given as goal

abbrev pub invariant-loop-i : goal.invariant-loop-i
invariant-loop-i l = Clear (runs l.i (λ j. point_faults (from_point l.file j)))

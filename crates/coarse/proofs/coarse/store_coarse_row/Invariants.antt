-- `coarse::coarse::store_coarse_row` meets its contract.
use mathlib.Core.Path.{◌≡◌}
use Prim.Native.Nat.{◌*◌}
use lib.Seq.{sets}
use Rattle.exact.specs.Filling.{runs}
use Rattle.net.specs.Net.{stride}
use Rattle.coarse.proofs.CoarseLaws.{run_in_row}
use Rattle.coarse.proofs.coarse.store_coarse_row.Given as goal

abbrev pub invariant-loop-i : goal.invariant-loop-i
invariant-loop-i l =
    l.coarse ≡ sets l.initial.coarse (stride * (l.j * l.wide)) (runs l.i (run_in_row l.net l.w l.j))

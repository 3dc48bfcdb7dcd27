-- `reader::reading::read_with` meets its contract.
use mathlib.Core.Path.{◌≡◌, ap}
use mathlib.Core.Bool.{Bool, ◌||◌}
use mathlib.Core.List.{List, [], ◌∷◌}
use Prim.Native.Nat.{ℕ, ◌+◌, ◌*◌, ◌≤◌}
use native.Mathlib.Omega.{arith}
use lib.IntN.{ℤ}
use lib.ListN.{length, get_or}
use Rattle.exact.specs.Filling.{runs}
use Rattle.net.proofs.Places.{good_size, few_vertices}
use Rattle.net.proofs.Faults.{answered, clear_parts}
use Rattle.words.specs.NetFile.{from_point, file_width, file_height, points, head_size, point_size}
use Rattle.reader.specs.Refusals.{point_faults, end_faults, read_refusal, short_for}
use Rattle.reader.proofs.ReadLaws.{GoodHead, good_head, read_parts, points_there}
use Rattle.reader.proofs.reading.read_with.Goals as goal
use Rattle.reader.proofs.reading.read_with.Goals.{In_ok-w, Start}

-- an accepted file
module _ (c : In_ok-w) where
  abbrev start : Start
  start = (goal.at.In_ok-w c).Start

  abbrev file : List ℕ
  file = start.args.file.now

  abbrev net : List ℤ
  net = start.args.net.now

  abbrev short : Bool
  short = start.args.short || short_for file (length net)

  abbrev w : ℕ
  w = c.in_ok-w.w

  abbrev h : ℕ
  h = c.in_ok-w.h

  found : (read_refusal file short ≡ 0) × (◌≡◌ {A = List ℕ} (w ∷ h ∷ []) (file_width file ∷ file_height file ∷ []))
  found =
      answered (read_refusal file short) (file_width file ∷ file_height file ∷ [])
      c.in_ok-w.ensures

  good : GoodHead file (length net)
  good = good_head file start.args.short (length net) (read_parts file short found.0).0

  product : w * h ≡ file_width file * file_height file
  product = ap (λ (l : List ℕ). get_or l 0 0 * get_or l 1 0) found.1

  size : w * h ≤ 1050625
  size = omega (arith, product, few_vertices (good_size (file_width file) (file_height file) good.size))

  -- the words of the control points are there
  there : head_size + point_size * (3 * (w * h)) ≤ length file
  there =
      let n = points (file_width file) (file_height file) in
      let clear =
      clear_parts (runs n (λ i. point_faults (from_point file i))) (end_faults (from_point file n))
      (read_parts file short found.0).1 in
      omega (arith, points_there file n good.there clear.0, product)

pub load_points-requires : goal.load_points-requires
load_points-requires c =
    let k = (goal.at.load_points-requires c).In_ok-w in
    (omega (arith, there k), omega (arith, (good k).room_enough, product k))

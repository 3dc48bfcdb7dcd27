-- Accepted nets: sides that are, a result in range over the front of an output, and the numbers of a vertex.
use mathlib.Core.Path.{◌≡◌, sym, ap, ◌∙◌}
use mathlib.Core.Bool.{false}
use mathlib.Core.List.{List}
use Prim.Native.Nat.{ℕ, ◌+◌, ◌≤◌, ◌<◌}
use native.Mathlib.Omega.{arith}
use lib.Dec.{ltb}
use lib.IntN.{ℤ, nat_abs}
use lib.ListN.{length, take}
use borrow.Author.Tests.{le-ltb, ltb-false}
use Rattle.exact.specs.Filling.{over}
use Rattle.exact.proofs.FillingLaws.{length_over, take_over}
use Rattle.net.specs.Net.{Index, vertex_at, numbers, start, field, stride}
use Rattle.net.specs.Refusals.{net_limit, bad_side, bad_size, any_beyond, AcceptedNet}
use Rattle.net.proofs.Faults.{or_no}
use Rattle.net.proofs.Places.{vertex_ends, field_size}
use Rattle.net.proofs.Ranges.{part_in_range, front_in_range}

-- sides from 2 to 1,025
pub good_sides : (w h : ℕ) → 2 ≤ w → w ≤ 1025 → 2 ≤ h → h ≤ 1025 → bad_size w h ≡ false
good_sides w h a b c d = sym (or_no (bad_side w) (bad_side h) (side w a b) (sym (side h c d)))
  where
    side : (n : ℕ) → 2 ≤ n → n ≤ 1025 → bad_side n ≡ false
    side n low high = sym (or_no (ltb n 2) (ltb 1025 n) (le-ltb n 2 low) (sym (le-ltb 1025 n high)))

pub accepted_over : (result out : List ℤ) (w h : ℕ) → length result ≡ numbers w h → bad_size w h ≡ false →
    any_beyond result ≡ false → numbers w h ≤ length out → AcceptedNet (over result out) w h
accepted_over result out w h e size fine room =
    let l = over result out in
    record {
      size = size;
      long = le-ltb (length l) (numbers w h) (omega (arith, length_over result out (omega (arith, e, room)), room));
      in_range = front_in_range l w h (ap (λ (n : ℕ). take n l) (sym e) ∙ take_over result out) fine;
    }

-- the numbers of a vertex of an accepted net lie in the slice, and in the net range
pub accepted_vertex : (net : List ℤ) (w h : ℕ) → AcceptedNet net w h → (i j : ℕ) → i < w → j < h →
    (start w (vertex_at i j) + stride ≤ length net)
    × ((k : Index) (x : ℕ) → x < 3 → nat_abs (field net w x (vertex_at i j) k) ≤ net_limit)
accepted_vertex net w h a i j b c =
    let v = vertex_at i j in
    let ends = vertex_ends {w = w} {h = h} {i = i} {j = j} b c in
    let long = ltb-false (length net) (numbers w h) a.long in
    let lies : start w v + stride ≤ length net = omega (arith, ends, long) in
    (lies, field_size net w v (part_in_range net w h (start w v) stride a.in_range ends) lies)

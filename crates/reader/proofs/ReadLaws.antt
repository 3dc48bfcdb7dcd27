-- What follows from the reader's faults: of the first two words, of the rest, and of the whole file.
use mathlib.Core.Path.{◌≡◌, sym}
use mathlib.Core.Bool.{Bool, false, ◌||◌}
use mathlib.Core.List.{List}
use Prim.Native.Nat.{ℕ, zero, suc, ◌+◌, ◌*◌, ◌≤◌}
use native.Mathlib.Omega.{arith}
use lib.Dec.{lit<}
use lib.ListN.{length, drop, length-drop}
use borrow.Author.Tests.{ltb-false}
use Rattle.exact.specs.Filling.{runs}
use Rattle.net.specs.Net.{numbers}
use Rattle.net.specs.Refusals.{bad_side, bad_size}
use Rattle.net.proofs.Faults.{Clear, Numbered, none_clear, clear_parts, clear_run, numbered_append, numbered_runs, or_no, or_none}
use Rattle.words.specs.NetFile.{points, file_width, file_height, from_point, head_size, point_size}
use Rattle.reader.specs.Refusals.{point_faults, end_faults, head_faults, body_faults, read_faults, read_refusal, short_for}
use Rattle.reader.proofs.Parsing.{point_numbered, next_begins}

-- ---- the faults have numbers

pub head_numbered : (file : List ℕ) (short : Bool) → Numbered (head_faults file short)
head_numbered file short = (lit< tt, (lit< tt, (lit< tt, (lit< tt, (lit< tt, (lit< tt, (lit< tt, tt)))))))

pub end_numbered : (left : List ℕ) → Numbered (end_faults left)
end_numbered left = (lit< tt, (lit< tt, (lit< tt, (lit< tt, tt))))

pub points_numbered : (file : List ℕ) (n : ℕ) → Numbered (runs n (λ i. point_faults (from_point file i)))
points_numbered file n = numbered_runs n (λ i. point_faults (from_point file i)) (λ i. point_numbered (from_point file i))

pub body_numbered : (file : List ℕ) (n : ℕ) → Numbered (body_faults file n)
body_numbered file n =
    numbered_append (runs n (λ i. point_faults (from_point file i))) (end_faults (from_point file n))
    (points_numbered file n) (end_numbered (from_point file n))

pub read_numbered : (file : List ℕ) (short : Bool) → Numbered (read_faults file short)
read_numbered file short =
    let n = points (file_width file) (file_height file) in
    numbered_append (head_faults file short) (body_faults file n) (head_numbered file short) (body_numbered file n)

-- where nothing is refused, no fault is there, and the lent outputs are long enough
pub read_parts : (file : List ℕ) (short : Bool) → read_refusal file short ≡ 0 →
    Clear (head_faults file short) × Clear (body_faults file (points (file_width file) (file_height file)))
read_parts file short none =
    let n = points (file_width file) (file_height file) in
    clear_parts (head_faults file short) (body_faults file n)
    (none_clear (read_faults file short) (read_numbered file short) none)

pub read_fits : (file : List ℕ) (short : Bool) → read_refusal file short ≡ 0 → short ≡ false
read_fits file short none = (read_parts file short none).0.1.1.1.1.1.1.0

-- ---- the words that are there

pub head_there : (file : List ℕ) (short : Bool) → Clear (head_faults file short) → head_size ≤ length file
head_there file short k = omega (arith, ltb-false (length (drop 4 file)) 4 k.1.1.1.0, length-drop 4 file)

-- two sides in their range, and room for their numbers
pub record GoodHead (file : List ℕ) (room : ℕ) : Type 0 where
  pub there : head_size ≤ length file
  pub size : bad_size (file_width file) (file_height file) ≡ false
  pub room_enough : numbers (file_width file) (file_height file) ≤ room

pub good_head : (file : List ℕ) (other : Bool) (room : ℕ) → Clear (head_faults file (other || short_for file room)) →
    GoodHead file room
good_head file other room k =
    record {
      there = head_there file (other || short_for file room) k;
      size =
          sym (or_no (bad_side (file_width file)) (bad_side (file_height file)) k.1.1.0 (sym k.1.1.1.1.1.0));
      room_enough =
          ltb-false room (numbers (file_width file) (file_height file))
          (or_none other (short_for file room) k.1.1.1.1.1.1.0).1;
    }

-- n control points without a fault end within the file
pub points_there : (file : List ℕ) (n : ℕ) → head_size ≤ length file →
    Clear (runs n (λ i. point_faults (from_point file i))) → head_size + point_size * n ≤ length file
points_there file zero h k = h
points_there file (suc n) h k =
    let last = next_begins file n (clear_run (suc n) (λ i. point_faults (from_point file i)) k n (omega arith)) in
    omega (arith, last)

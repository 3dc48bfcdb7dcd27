-- What the writer stores, word after word, and how long it is.
use mathlib.Core.Path.{◌≡◌, refl, sym, ap, ◌∙◌}
use mathlib.Core.Bool.{Bool, false, ◌||◌}
use mathlib.Core.List.{List, [], ◌∷◌, ◌++◌}
use Prim.Native.Nat.{ℕ, ◌+◌, ◌*◌, ◌≤◌}
use native.Mathlib.Omega.{arith}
use lib.Dec.{lit<}
use lib.IntN.{ℤ, pos}
use lib.ListN.{length, take, length-append}
use lib.Seq.{sets, get_or-take}
use borrow.Author.Tests.{ltb-false}
use Rattle.exact.specs.Filling.{over, runs}
use Rattle.exact.proofs.FillingLaws.{length_runs, runs_same, sets_after, sets_over}
use Rattle.net.specs.Net.{numbers, point_stride}
use Rattle.net.specs.Refusals.{first_fault, output_after, bad_size, any_beyond}
use Rattle.net.proofs.Beyond.{cut, cut_short, cut_beyond}
use Rattle.net.proofs.Ranges.{part_in_range}
use Rattle.net.proofs.Faults.{Clear, none_clear, or_none}
use Rattle.words.specs.NetFile.{word, width_kind, height_kind, x_kind, y_kind, z_kind, end_kind, word_bytes, points, number_bytes, point_bytes, net_file, file_size, head_size, point_size}
use Rattle.writer.specs.Refusals.{write_faults, write_refusal, no_room}
use Rattle.writer.specs.Answers.{write_output_with}

pub word_length : (v : ℕ) → length (word_bytes v) ≡ 4
unfolding word_bytes
word_length v = refl

pub point_length : (net : List ℤ) (at : ℕ) → length (point_bytes net at) ≡ point_size
unfolding word_bytes point_bytes
point_length net at = refl

pub points_length : (net : List ℤ) (n : ℕ) → length (runs n (λ i. point_bytes net (point_stride * i))) ≡ n * point_size
points_length net n =
    length_runs n point_size (λ i. point_bytes net (point_stride * i)) (λ i h. point_length net (point_stride * i))

-- the lengths of the file's parts
module _ (net : List ℤ) (w h : ℕ) where
  abbrev body : List ℕ
  body = runs (points w h) (λ i. point_bytes net (point_stride * i))

  abbrev sides : List ℕ
  sides = word_bytes (word width_kind w) ++ word_bytes (word height_kind h)

  sides_length : length sides ≡ head_size
  sides_length =
      omega (
        arith,
        length-append (word_bytes (word width_kind w)) (word_bytes (word height_kind h)),
        word_length (word width_kind w),
        word_length (word height_kind h),
      )

  before_end : length (sides ++ body) ≡ head_size + point_size * points w h
  before_end = omega (arith, length-append sides body, sides_length, points_length net (points w h))

  whole_length : length (sides ++ body ++ word_bytes (word end_kind 0)) ≡ file_size w h
  whole_length =
      omega (
        arith,
        length-append (sides ++ body) (word_bytes (word end_kind 0)),
        before_end,
        word_length
            (word end_kind 0),
      )

  pub file_length : length (net_file net w h) ≡ file_size w h
  unfolding net_file
  file_length = whole_length

  -- the whole file, stored part after part
  pub file_stored : (out : List ℕ) → file_size w h ≤ length out →
      sets
      (sets (sets (sets out 0 (word_bytes (word width_kind w))) 4 (word_bytes (word height_kind h))) head_size body)
      (head_size + point_size * points w h)
      (word_bytes (word end_kind 0))
      ≡ over (net_file net w h) out
  unfolding net_file
  file_stored out room =
      let e = word_bytes (word end_kind 0) in
      ap (λ (l : List ℕ). sets (sets l head_size body) (head_size + point_size * points w h) e)
      (sets_after out 0 (word_bytes (word width_kind w)) (word_bytes (word height_kind h))
      (omega (arith, word_length (word width_kind w))))
      ∙ ap (λ (l : List ℕ). sets l (head_size + point_size * points w h) e)
      (sets_after out 0 sides body (omega (arith, sides_length)))
      ∙ sets_after out 0 (sides ++ body) e (omega (arith, before_end))
      ∙ sets_over (sides ++ body ++ e) out (omega (arith, whole_length, room))

-- three words, one after the other
pub words_stored : (out : List ℕ) (at u v w : ℕ) →
    sets (sets (sets out at (word_bytes u)) (at + 4) (word_bytes v)) (at + 8) (word_bytes w)
    ≡ sets out at (word_bytes u ++ word_bytes v ++ word_bytes w)
words_stored out at u v w =
    ap (λ (l : List ℕ). sets l (at + 8) (word_bytes w))
    (sets_after out at (word_bytes u) (word_bytes v) (omega (arith, word_length u)))
    ∙ sets_after out at (word_bytes u ++ word_bytes v) (word_bytes w)
    (omega (arith, length-append (word_bytes u) (word_bytes v), word_length u, word_length v))

-- ---- numbers beyond 9wh do not matter

cut_point : (net : List ℤ) (n at : ℕ) → at + 3 ≤ n → point_bytes (take n net) at ≡ point_bytes net at
unfolding point_bytes
cut_point net n at h =
    let x = get_or-take n net at (pos 0) (omega arith) in
    let y = get_or-take n net (at + 1) (pos 0) (omega arith) in
    let z = get_or-take n net (at + 2) (pos 0) (omega arith) in
    λ t. number_bytes x_kind (x t) ++ number_bytes y_kind (y t) ++ number_bytes z_kind (z t)

pub cut_file : (net : List ℤ) (w h : ℕ) → net_file (cut net w h) w h ≡ net_file net w h
unfolding net_file
cut_file net w h =
    ap (λ (l : List ℕ). word_bytes (word width_kind w) ++ word_bytes (word height_kind h) ++ l
    ++ word_bytes (word end_kind 0))
    (runs_same (points w h) (λ i. point_bytes (cut net w h) (point_stride * i)) (λ i. point_bytes net (point_stride * i))
    (λ i k. cut_point net (numbers w h) (point_stride * i) (omega (arith, k))))

pub cut_write_refusal : (net : List ℤ) (w h : ℕ) (short : Bool) →
    write_refusal net w h short ≡ write_refusal (cut net w h) w h short
cut_write_refusal net w h short =
    λ t. first_fault ((bad_size w h, 1) ∷ (cut_short net w h t, 2) ∷ (short, 5) ∷ (cut_beyond net w h t, 3) ∷ [])

pub cut_write_output : (net : List ℤ) (w h : ℕ) (short : Bool) (out : List ℕ) →
    write_output_with net w h short out ≡ write_output_with (cut net w h) w h short out
cut_write_output net w h short out = λ t. output_after (cut_write_refusal net w h short t) (sym (cut_file net w h) t) out

-- ---- what is known of an accepted net

pub record GoodNet (net : List ℤ) (w h room : ℕ) : Type 0 where
  pub size : bad_size w h ≡ false
  pub long : numbers w h ≤ length net
  pub room_enough : file_size w h ≤ room
  pub range : any_beyond (cut net w h) ≡ false

pub write_clear : (net : List ℤ) (w h : ℕ) (short : Bool) → write_refusal net w h short ≡ 0 →
    Clear (write_faults net w h short)
write_clear net w h short none =
    none_clear (write_faults net w h short) (lit< tt, (lit< tt, (lit< tt, (lit< tt, tt)))) none

pub write_fits : (net : List ℤ) (w h : ℕ) (short : Bool) → write_refusal net w h short ≡ 0 → short ≡ false
write_fits net w h short none = (write_clear net w h short none).1.1.0

pub good_net : (net : List ℤ) (w h : ℕ) (other : Bool) (room : ℕ) →
    write_refusal net w h (other || no_room w h room) ≡ 0 → GoodNet net w h room
good_net net w h other room e =
    let k = write_clear net w h (other || no_room w h room) e in
    record {
      size = k.0;
      long = ltb-false (length net) (numbers w h) k.1.0;
      room_enough = ltb-false room (file_size w h) (or_none other (no_room w h room) k.1.1.0).1;
      range = part_in_range net w h 0 (numbers w h) k.1.1.1.0 (omega arith);
    }

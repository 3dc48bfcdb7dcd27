-- An accepted file: its length, that no shorter and no longer one is accepted with the same bytes, and that its net
-- writes back to it.
use mathlib.Core.Path.{◌≡◌, refl, sym, ap, subst, ◌∙◌}
use mathlib.Core.Bool.{Bool, false}
use mathlib.Core.List.{List, [], ◌∷◌, ◌++◌}
use Prim.Native.Nat.{ℕ, ◌+◌, ◌*◌, ◌≤◌, ◌<◌}
use native.Mathlib.Nat.{mul_comm}
use native.Mathlib.Omega.{arith}
use lib.Dec.{eqb, lit<}
use lib.IntN.{ℤ, pos}
use lib.ListN.{length, take, drop, length-append, length-drop, take-append-drop, get_or-append}
use lib.Seq.{take_all, take-add, drop-drop, get_or-take, get_or-drop, drop-append-le}
use borrow.Author.Tests.{ltb-false, le-ltb, eqb-true, not-false}
use Rattle.exact.specs.Filling.{over, runs}
use Rattle.exact.proofs.FillingLaws.{runs_of_parts, runs_same, length_runs, get_or_runs, take_over, length_over}
use Rattle.net.specs.Net.{number, numbers, point_stride}
use Rattle.net.specs.Refusals.{net_limit, beyond, any_beyond}
use Rattle.net.proofs.Beyond.{cut}
use Rattle.net.proofs.Faults.{Clear, clear_none, clear_parts, clear_run, or_no, when_accepted, accepted_answer}
use Rattle.net.proofs.Ranges.{any_runs, front_in_range}
use Rattle.words.specs.NetFile.{word, word_kind, word_payload, width_kind, height_kind, x_kind, y_kind, z_kind, end_kind, word_bytes, first_word, points, number_bytes, point_bytes, net_file, file_size, file_width, file_height, first_number, first_point, from_point, file_numbers, AllBytes, head_size, point_size}
use Rattle.words.specs.Refusals.{word_faults}
use Rattle.words.proofs.WordLaws.{payload_small, word_of_parts, bytes_of_first, same_first, complement_signed}
use Rattle.writer.specs.Refusals.{write_faults, write_refusal, no_room}
use Rattle.reader.specs.Refusals.{number_faults, point_faults, end_faults, head_faults, body_faults, read_refusal, short_for}
use Rattle.reader.specs.Answers.{read_net}
use Rattle.reader.proofs.Parsing.{point_parts}
use Rattle.reader.proofs.ReadLaws.{read_parts, head_there, GoodHead, good_head, points_there}
use Rattle.netfile.specs.Promises.{Writable, Readable, WritesBack, OneLength}

-- ---- what it is known by

module _ (file : List ℕ) (short : Bool) (taken : read_refusal file short ≡ 0) where
  abbrev w : ℕ
  w = file_width file

  abbrev h : ℕ
  h = file_height file

  abbrev count : ℕ
  count = points w h

  parts : Clear (head_faults file short) × Clear (body_faults file count)
  parts = read_parts file short taken

  after_head : Clear (runs count (λ i. point_faults (from_point file i))) × Clear (end_faults (from_point file count))
  after_head =
      clear_parts (runs count (λ i. point_faults (from_point file i))) (end_faults (from_point file count)) parts.1

  sides_there : head_size ≤ length file
  sides_there = head_there file short parts.0

  body_there : head_size + point_size * count ≤ length file
  body_there = points_there file count sides_there after_head.0

  -- its length
  pub whole_length : length file ≡ file_size w h
  whole_length =
      let least = ltb-false (length (from_point file count)) 4 after_head.1.0 in
      let most = ltb-false 4 (length (from_point file count)) after_head.1.1.1.1.0 in
      omega (arith, least, most, length-drop (head_size + point_size * count) file, body_there)

  good : (room : ℕ) → short ≡ short_for file room → GoodHead file room
  good room e = good_head file false room (subst (λ (t : Bool). Clear (head_faults file t)) e parts.0)

-- ---- its length is the only one

-- a longer file has the same sides
first_of_longer : (l more : List ℕ) → 4 ≤ length l → first_word (l ++ more) ≡ first_word l
first_of_longer l more k = same_first (l ++ more) l (λ i h. get_or-append l more 0 i (omega (arith, h, k)))

longer : (file more : List ℕ) (short other : Bool) → read_refusal file short ≡ 0 → read_refusal (file ++ more) other ≡ 0 →
    length more ≡ 0
longer file more short other e f =
    let there = sides_there file short e in
    let width : file_width (file ++ more)
    ≡ file_width file = ap word_payload (first_of_longer file more (omega (arith, there))) in
    let height : file_height (file ++ more) ≡ file_height file =
    ap (λ (l : List ℕ). word_payload (first_word l)) (drop-append-le 4 file more (omega (arith, there)))
    ∙ ap word_payload (first_of_longer (drop 4 file) more (omega (arith, there, length-drop 4 file))) in
    let same : file_size (file_width (file ++ more)) (file_height (file ++ more))
    ≡ file_size (file_width file) (file_height file) = λ t. file_size (width t) (height t) in
    omega (arith, whole_length file short e, whole_length (file ++ more) other f, same, length-append file more)

pub one_length : OneLength
one_length file short other e = (
  (λ n k f.
      let none =
      longer (take n file) (drop n file) other short f
      (ap (λ (l : List ℕ). read_refusal l short) (take-append-drop n file) ∙ e) in
      omega (arith, none, length-drop n file, k)),
  (λ more k f.
      let none = longer file more short other e f in
      omega (arith, none, k)),
)

-- ---- its words write back

-- what follows bytes are bytes
bytes_from : (file : List ℕ) (n : ℕ) → AllBytes file → AllBytes (drop n file)
bytes_from file n small i = subst (λ (b : ℕ). b < 256) (sym (get_or-drop n file i 0)) (small (n + i))

module _ (left : List ℕ) (small : AllBytes left) where
  word_back : (kind : ℕ) → Clear (word_faults left kind) →
      word_bytes (word kind (word_payload (first_word left))) ≡ take 4 left
  word_back kind k =
      ap word_bytes (word_of_parts (first_word left)
      (eqb-true (word_kind (first_word left)) kind (not-false (eqb (word_kind (first_word left)) kind) k.1.0)))
      ∙ bytes_of_first left (ltb-false (length left) 4 k.0) small

  number_back : (kind : ℕ) → Clear (number_faults left kind) → number_bytes kind (first_number left) ≡ take 4 left
  number_back kind k =
      ap (λ (p : ℕ). word_bytes (word kind p))
      (complement_signed (word_payload (first_word left)) (payload_small (first_word left)))
      ∙ word_back kind (k.0, (k.1.0, tt))

-- three words of a control point
module _ (left : List ℕ) (k : Clear (point_faults left)) where
  three : Clear (number_faults left x_kind) × Clear (number_faults (drop 4 left) y_kind)
      × Clear (number_faults (drop 8 left) z_kind)
  three = point_parts left k

  point_back : AllBytes left →
      number_bytes x_kind (first_number left) ++ number_bytes y_kind (first_number (drop 4 left))
      ++ number_bytes z_kind (first_number (drop 8 left)) ≡ take point_size left
  point_back small =
      let x = number_back left small x_kind three.0 in
      let y = number_back (drop 4 left) (bytes_from left 4 small) y_kind three.1 in
      let z = number_back (drop 8 left) (bytes_from left 8 small) z_kind three.2 in
      (λ t. x t ++ y t ++ z t) ∙ ap (λ (l : List ℕ). l ++ take 4 (drop 8 left)) (sym (take-add 4 4 left))
      ∙ sym (take-add 8 4 left)

  point_range : any_beyond (first_point left) ≡ false
  unfolding first_point
  point_range =
      sym (or_no (beyond (first_number left)) _ three.0.1.1.0
      (or_no (beyond (first_number (drop 4 left))) _ three.1.1.1.0
      (or_no (beyond (first_number (drop 8 left))) _ three.2.1.1.0 refl)))

point_numbers : (left : List ℕ) → length (first_point left) ≡ point_stride
unfolding first_point
point_numbers left = refl

-- ---- the net that was read

module _ (file : List ℕ) (lent : List ℤ) (taken : Readable file lent) where
  abbrev short : Bool
  short = short_for file (length lent)

  abbrev after : List ℤ
  after = read_net file lent

  abbrev width : ℕ
  width = w file short taken

  abbrev height : ℕ
  height = h file short taken

  abbrev n : ℕ
  n = count file short taken

  points_clear : (i : ℕ) → i < n → Clear (point_faults (from_point file i))
  points_clear = clear_run n (λ i. point_faults (from_point file i)) (after_head file short taken).0

  room : numbers width height ≤ length lent
  room = (good file short taken (length lent) refl).room_enough

  numbers_read : length (file_numbers file) ≡ numbers width height
  numbers_read =
      length_runs n point_stride (λ i. first_point (from_point file i)) (λ i k. point_numbers (from_point file i))
      ∙ omega arith

  laid_over : after ≡ over (file_numbers file) lent
  laid_over = sym (when_accepted (read_refusal file short) (over (file_numbers file) lent) lent taken)

  pub read_front : cut after width height ≡ file_numbers file
  read_front =
      ap (cut_of) laid_over ∙ ap (λ (k : ℕ). take k (over (file_numbers file) lent)) (sym numbers_read)
      ∙ take_over (file_numbers file) lent
    where
      cut_of : List ℤ → List ℤ
      cut_of l = cut l width height

  number_after : (i at r : ℕ) → i < n → r < 3 → at ≡ i * point_stride + r →
      number after at ≡ number (first_point (from_point file i)) r
  number_after i at r k l e =
      sym (get_or-take (numbers width height) after at (pos 0) (omega (arith, k, l, e)))
      ∙ ap (λ (m : List ℤ). number m at) read_front
      ∙ ap (number (file_numbers file)) e
      ∙ get_or_runs n point_stride (λ j. first_point (from_point file j)) (pos 0)
      (λ j q. point_numbers (from_point file j)) i r k l

  pub accepted_again : Writable after width height
  accepted_again =
      clear_none (write_faults after width height false) (
        (good file short taken (length lent) refl).size,
        (
          le-ltb (length after) (numbers width height)
              (omega (
                arith,
                ap length laid_over,
                length_over (file_numbers file) lent
                    (omega (arith, numbers_read, room)),
                room,
              )),
          (
            refl,
            (
              front_in_range after width height read_front
                  (any_runs net_limit n (λ i. first_point (from_point file i))
                  (λ i k. point_range (from_point file i) (points_clear i k))),
              tt,
            ),
          ),
        ),
      )

  module _ (small : AllBytes file) where
    point_after : (i : ℕ) → i < n →
        point_bytes after (point_stride * i) ≡ take point_size (drop (i * point_size) (drop head_size file))
    unfolding point_bytes first_point
    point_after i k =
        let x = number_after i (point_stride * i) 0 k (lit< tt) (omega arith) in
        let y = number_after i (point_stride * i + 1) 1 k (lit< tt) (omega arith) in
        let z = number_after i (point_stride * i + 2) 2 k (lit< tt) (omega arith) in
        let place : head_size + point_size * i ≡ head_size + i * point_size = omega arith in
        (λ t. number_bytes x_kind (x t) ++ number_bytes y_kind (y t) ++ number_bytes z_kind (z t))
        ∙ point_back (from_point file i) (points_clear i k) (bytes_from file (head_size + point_size * i) small)
        ∙ ap (λ (at : ℕ). take point_size (drop at file)) place
        ∙ ap (take point_size) (sym (drop-drop (i * point_size) head_size file))

    body_after : runs n (λ i. point_bytes after (point_stride * i)) ≡ take (point_size * n) (drop head_size file)
    body_after =
        runs_same n (λ i. point_bytes after (point_stride * i))
        (λ i. take point_size (drop (i * point_size) (drop head_size file))) point_after
        ∙ runs_of_parts (drop head_size file) point_size n
        ∙ ap (λ (k : ℕ). take k (drop head_size file)) (mul_comm n point_size)

    end_after : word_bytes (word end_kind 0) ≡ take 4 (from_point file n)
    end_after =
        let k = (after_head file short taken).1 in
        let v = first_word (from_point file n) in
        let zero : word_payload v ≡ 0 = eqb-true (word_payload v) 0 (not-false (eqb (word_payload v) 0) k.1.1.0) in
        ap (λ (p : ℕ). word_bytes (word end_kind p)) (sym zero)
        ∙ word_back (from_point file n) (bytes_from file (head_size + point_size * n) small) end_kind (k.0, (k.1.0, tt))

    file_after : net_file after width height ≡ file
    unfolding net_file
    file_after =
        let k = (parts file short taken).0 in
        let a = word_back file small width_kind (k.0, (k.1.0, tt)) in
        let b = word_back (drop 4 file) (bytes_from file 4 small) height_kind (k.1.1.1.0, (k.1.1.1.1.0, tt)) in
        (λ t. a t ++ b t ++ body_after t ++ end_after t)
        ∙ ap (λ (l : List ℕ). l ++ take (point_size * n) (drop head_size file) ++ take 4 (from_point file n))
        (sym (take-add 4 4 file))
        ∙ ap (λ (l : List ℕ). l ++ take 4 (from_point file n)) (sym (take-add head_size (point_size * n) file))
        ∙ sym (take-add (head_size + point_size * n) 4 file)
        ∙ take_all (head_size + point_size * n + 4) file (omega (arith, whole_length file short taken))

pub writes_back_file : WritesBack
writes_back_file file lent out small e k =
    let short = short_for file (length lent) in
    let after = read_net file lent in
    let w = file_width file in
    let h = file_height file in
    let long = whole_length file short e in
    let none : write_refusal after w h (no_room w h (length out)) ≡ 0 =
    ap (write_refusal after w h) (le-ltb (length out) (file_size w h) (omega (arith, long, k)))
    ∙ accepted_again file lent e in (
      sym (accepted_answer (write_refusal after w h (no_room w h (length out))) (file_size w h ∷ []) none
          (λ t. long t ∷ [])),
      sym (when_accepted (write_refusal after w h (no_room w h (length out))) (over (net_file after w h) out) out none)
          ∙ ap (λ (l : List ℕ). over l out) (file_after file lent e small),
    )

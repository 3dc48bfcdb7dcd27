-- The file of a net: what stands where, that it reads back to the net, and that no other net has it.
use mathlib.Core.Path.{◌≡◌, refl, sym, ap, subst, ◌∙◌}
use mathlib.Core.Bool.{false, not}
use mathlib.Core.List.{List, [], ◌∷◌, ◌++◌, append_assoc}
use Prim.Native.Nat.{ℕ, ◌+◌, ◌*◌, ◌≤◌, ◌<◌}
use native.Mathlib.Nat.{mul_comm, le_refl}
use native.Mathlib.Omega.{arith}
use lib.Dec.{ltb, lit<}
use lib.IntN.{ℤ, pos, nat_abs}
use lib.ListN.{length, take, drop, length-append, length-take, length-drop}
use lib.Seq.{drop_at, drop-drop, get_or-take, get_or-drop}
use borrow.Author.Tests.{le-ltb, eq-eqb}
use Rattle.exact.specs.Filling.{over, runs}
use Rattle.exact.proofs.FillingLaws.{Begins, run_begins, runs_of_parts, runs_of_list, runs_same}
use Rattle.net.specs.Net.{number, numbers, point_stride}
use Rattle.net.specs.Refusals.{bad_side, net_limit, beyond}
use Rattle.net.proofs.Beyond.{cut}
use Rattle.net.proofs.Faults.{Clear, clear_none, clear_append, clear_runs, or_none, when_accepted, accepted_answer}
use Rattle.net.proofs.Places.{GoodSize, good_size}
use Rattle.net.proofs.Ranges.{in_range_lem}
use Rattle.words.specs.NetFile.{word, word_kind, word_payload, width_kind, height_kind, x_kind, y_kind, z_kind, end_kind, complement, signed, word_bytes, first_word, points, number_bytes, point_bytes, net_file, file_size, file_width, file_height, first_number, first_point, from_point, file_numbers, head_size, point_size}
use Rattle.words.specs.Refusals.{word_faults}
use Rattle.words.proofs.WordLaws.{kind_of_word, payload_of_word, first_of_bytes, complement_small, signed_complement}
use Rattle.writer.specs.Refusals.{write_refusal}
use Rattle.writer.proofs.WriteLaws.{word_length, point_length, points_length, GoodNet, good_net}
use Rattle.reader.specs.Refusals.{side_faults, number_faults, point_faults, end_faults, head_faults, body_faults, read_faults, read_refusal, short_for}
use Rattle.netfile.specs.Promises.{Writable, ReadsBack, OneNet}

-- ---- words at the front

module _ (kind : ℕ) (h : kind < 16) (payload : ℕ) (k : payload < 268435456) (after : List ℕ) where
  abbrev left : List ℕ
  left = word_bytes (word kind payload) ++ after

  word_found : first_word left ≡ word kind payload
  word_found = first_of_bytes (word kind payload) after (omega (arith, h, k))

  payload_found : word_payload (first_word left) ≡ payload
  payload_found = ap word_payload word_found ∙ payload_of_word kind k

  word_there : 4 ≤ length left
  word_there = omega (arith, length-append (word_bytes (word kind payload)) after, word_length (word kind payload))

  word_clear : Clear (word_faults left kind)
  word_clear = (
    le-ltb (length left) 4 word_there,
    (ap not (eq-eqb (word_kind (first_word left)) kind (ap word_kind word_found ∙ kind_of_word kind k)), tt),
  )

-- a number's word
module _ (kind : ℕ) (h : kind < 16) (z : ℤ) (k : nat_abs z ≤ 16777216) (after : List ℕ) where
  number_found : first_number (number_bytes kind z ++ after) ≡ z
  number_found = ap signed (payload_found kind h (complement z) (complement_small z k) after) ∙ signed_complement z k

  number_clear : Clear (number_faults (number_bytes kind z ++ after) kind)
  number_clear =
      let w = word_clear kind h (complement z) (complement_small z k) after in
      (w.0, (w.1.0, (ap beyond number_found ∙ le-ltb 16777216 (nat_abs z) k, tt)))

-- a side's word
side_clear : (kind : ℕ) → kind < 16 → (side : ℕ) → side < 268435456 → (after : List ℕ) → bad_side side ≡ false →
    Clear (side_faults (word_bytes (word kind side) ++ after) kind)
side_clear kind h side k after e =
    let w = word_clear kind h side k after in
    (w.0, (w.1.0, (ap bad_side (payload_found kind h side k after) ∙ e, tt)))

-- a control point's words
module _ (net : List ℤ) (at : ℕ) (after : List ℕ) (hx : nat_abs (number net at) ≤ 16777216) (hy : nat_abs (number net (at + 1)) ≤ 16777216)
    (hz : nat_abs (number net (at + 2)) ≤ 16777216) where
  abbrev from_x : List ℕ
  from_x =
      number_bytes x_kind (number net at)
      ++ (number_bytes y_kind (number net (at + 1)) ++ (number_bytes z_kind (number net (at + 2)) ++ after))

  abbrev from_y : List ℕ
  from_y = number_bytes y_kind (number net (at + 1)) ++ (number_bytes z_kind (number net (at + 2)) ++ after)

  abbrev from_z : List ℕ
  from_z = number_bytes z_kind (number net (at + 2)) ++ after

  words_follow : point_bytes net at ++ after ≡ from_x
  unfolding point_bytes
  words_follow =
      append_assoc (number_bytes x_kind (number net at) ++ number_bytes y_kind (number net (at + 1)))
      (number_bytes z_kind (number net (at + 2))) after
      ∙ append_assoc (number_bytes x_kind (number net at)) (number_bytes y_kind (number net (at + 1))) from_z

  second_word : drop 4 (point_bytes net at ++ after) ≡ from_y
  second_word =
      ap (drop 4) words_follow
      ∙ drop_at (number_bytes x_kind (number net at)) from_y 4 (word_length (word x_kind (complement (number net at))))

  third_word : drop 8 (point_bytes net at ++ after) ≡ from_z
  third_word =
      sym (drop-drop 4 4 (point_bytes net at ++ after))
      ∙ ap (drop 4) second_word
      ∙ drop_at (number_bytes y_kind (number net (at + 1))) from_z 4
      (word_length (word y_kind (complement (number net (at + 1)))))

  point_clear : Clear (point_faults (point_bytes net at ++ after))
  point_clear =
      let l = point_bytes net at ++ after in
      clear_append (number_faults l x_kind ++ number_faults (drop 4 l) y_kind) (number_faults (drop 8 l) z_kind)
      (clear_append (number_faults l x_kind) (number_faults (drop 4 l) y_kind)
      (subst (λ (m : List ℕ). Clear (number_faults m x_kind)) (sym words_follow)
      (number_clear x_kind (lit< tt) (number net at) hx from_y))
      (subst (λ (m : List ℕ). Clear (number_faults m y_kind)) (sym second_word)
      (number_clear y_kind (lit< tt) (number net (at + 1)) hy from_z)))
      (subst (λ (m : List ℕ). Clear (number_faults m z_kind)) (sym third_word)
      (number_clear z_kind (lit< tt) (number net (at + 2)) hz after))

  point_found : first_point (point_bytes net at ++ after) ≡ number net at ∷ number net (at + 1) ∷ number net (at + 2) ∷ []
  unfolding first_point
  point_found =
      let x = ap first_number words_follow ∙ number_found x_kind (lit< tt) (number net at) hx from_y in
      let y = ap first_number second_word ∙ number_found y_kind (lit< tt) (number net (at + 1)) hy from_z in
      let z = ap first_number third_word ∙ number_found z_kind (lit< tt) (number net (at + 2)) hz after in
      λ t. x t ∷ y t ∷ z t ∷ []

-- three numbers of a list
three_numbers : (l : List ℤ) (at : ℕ) → at + point_stride ≤ length l →
    number l at ∷ number l (at + 1) ∷ number l (at + 2) ∷ [] ≡ take point_stride (drop at l)
unfolding runs
three_numbers l at h =
    let first : number l at ≡ number (drop at l) 0 = ap (number l) (omega arith) ∙ sym (get_or-drop at l 0 (pos 0)) in
    (λ t. first t ∷ sym (get_or-drop at l 1 (pos 0)) t ∷ sym (get_or-drop at l 2 (pos 0)) t ∷ [])
    ∙ runs_of_list (pos 0) (drop at l) 3 (omega (arith, length-drop at l))

writable : (net : List ℤ) (w h : ℕ) → Writable net w h → GoodNet net w h (file_size w h)
writable net w h e =
    good_net net w h false (file_size w h)
    (ap (write_refusal net w h) (le-ltb (file_size w h) (file_size w h) (le_refl (file_size w h))) ∙ e)

module _ (net : List ℤ) (w h : ℕ) (taken : Writable net w h) where
  good : GoodNet net w h (file_size w h)
  good = writable net w h taken

  size : GoodSize w h
  size = good_size w h good.size

  abbrev file : List ℕ
  file = net_file net w h

  abbrev n : ℕ
  n = points w h

  abbrev width_bytes : List ℕ
  width_bytes = word_bytes (word width_kind w)

  abbrev height_bytes : List ℕ
  height_bytes = word_bytes (word height_kind h)

  abbrev end_bytes : List ℕ
  end_bytes = word_bytes (word end_kind 0)

  abbrev body : List ℕ
  body = runs n (λ i. point_bytes net (point_stride * i))

  -- the file from its first, its second and its third word on
  from_first : file ≡ width_bytes ++ (height_bytes ++ (body ++ end_bytes))
  unfolding net_file
  from_first =
      append_assoc (width_bytes ++ height_bytes) body end_bytes ∙ append_assoc width_bytes height_bytes (body ++ end_bytes)

  from_second : drop 4 file ≡ height_bytes ++ (body ++ end_bytes)
  from_second =
      ap (drop 4) from_first ∙ drop_at width_bytes (height_bytes ++ (body ++ end_bytes)) 4 (word_length (word width_kind w))

  from_third : drop head_size file ≡ body ++ end_bytes
  from_third =
      sym (drop-drop 4 4 file) ∙ ap (drop 4) from_second
      ∙ drop_at height_bytes (body ++ end_bytes) 4 (word_length (word height_kind h))

  -- and from control point i on
  from_point_lem : (i : ℕ) → from_point file i ≡ drop (i * point_size) (body ++ end_bytes)
  from_point_lem i =
      sym (drop-drop (point_size * i) head_size file) ∙ ap (drop (point_size * i)) from_third
      ∙ ap (λ (k : ℕ). drop k (body ++ end_bytes)) (mul_comm point_size i)

  point_begins : (i : ℕ) → i < n → Begins (point_bytes net (point_stride * i)) (from_point file i)
  point_begins i k =
      let b =
      run_begins n point_size (λ j. point_bytes net (point_stride * j)) end_bytes
      (λ j l. point_length net (point_stride * j)) i k in
      record { rest = b.rest; whole = from_point_lem i ∙ b.whole }

  at_end_lem : from_point file n ≡ end_bytes
  at_end_lem = from_point_lem n ∙ drop_at body end_bytes (n * point_size) (points_length net n)

  -- the sides
  width_found : file_width file ≡ w
  width_found =
      ap (λ (l : List ℕ). word_payload (first_word l)) from_first
      ∙ payload_found width_kind (lit< tt) w (omega (arith, size.narrow)) (height_bytes ++ (body ++ end_bytes))

  height_found : file_height file ≡ h
  height_found =
      ap (λ (l : List ℕ). word_payload (first_word l)) from_second
      ∙ payload_found height_kind (lit< tt) h (omega (arith, size.low)) (body ++ end_bytes)

  -- no number is beyond its range
  small : (i : ℕ) → i < numbers w h → nat_abs (number net i) ≤ 16777216
  small i k =
      subst (λ (z : ℤ). nat_abs z ≤ 16777216) (get_or-take (numbers w h) net i (pos 0) k)
      (in_range_lem net_limit (cut net w h) good.range i (omega (arith, k, length-take (numbers w h) net, good.long)))

  small_point : (i r : ℕ) → i < n → r < 3 → nat_abs (number net (point_stride * i + r)) ≤ 16777216
  small_point i r k l = small (point_stride * i + r) (omega (arith, k, l))

  -- there is no fault
  head_clear : Clear (head_faults file false)
  head_clear =
      let sides = or_none (bad_side w) (bad_side h) good.size in
      clear_append (side_faults file width_kind ++ side_faults (drop 4 file) height_kind) ((false, 5) ∷ [])
      (clear_append (side_faults file width_kind) (side_faults (drop 4 file) height_kind)
      (subst (λ (l : List ℕ). Clear (side_faults l width_kind)) (sym from_first)
      (side_clear width_kind (lit< tt) w (omega (arith, size.narrow)) (height_bytes ++ (body ++ end_bytes)) sides.0))
      (subst (λ (l : List ℕ). Clear (side_faults l height_kind)) (sym from_second)
      (side_clear height_kind (lit< tt) h (omega (arith, size.low)) (body ++ end_bytes) sides.1)))
      (refl, tt)

  points_clear : (i : ℕ) → i < n → Clear (point_faults (from_point file i))
  points_clear i k =
      let b = point_begins i k in
      subst (λ (l : List ℕ). Clear (point_faults l)) (sym b.whole)
      (point_clear net (point_stride * i) b.rest (small (point_stride * i) (omega (arith, k)))
      (small_point i 1 k (lit< tt)) (small_point i 2 k (lit< tt)))

  end_clear : Clear (end_faults end_bytes)
  unfolding word_bytes first_word
  end_clear = (refl, (refl, (refl, (refl, tt))))

  body_clear : Clear (body_faults file n)
  body_clear =
      clear_append (runs n (λ i. point_faults (from_point file i))) (end_faults (from_point file n))
      (clear_runs n (λ i. point_faults (from_point file i)) points_clear)
      (subst (λ (l : List ℕ). Clear (end_faults l)) (sym at_end_lem) end_clear)

  -- the file's own count of control points
  count : points (file_width file) (file_height file) ≡ n
  count = λ t. points (width_found t) (height_found t)

  not_refused : read_refusal file false ≡ 0
  not_refused =
      clear_none (read_faults file false)
      (clear_append (head_faults file false) (body_faults file (points (file_width file) (file_height file))) head_clear
      (subst (λ (k : ℕ). Clear (body_faults file k)) (sym count) body_clear))

  -- the numbers are the net's
  numbers_found : file_numbers file ≡ cut net w h
  numbers_found =
      ap (λ (k : ℕ). runs k (λ i. first_point (from_point file i))) count
      ∙ runs_same n (λ i. first_point (from_point file i)) (λ i. take point_stride (drop (i * point_stride) net)) each
      ∙ runs_of_parts net 3 n
      ∙ ap (λ (k : ℕ). take k net) all
    where
      all : n * point_stride ≡ numbers w h
      all = omega arith

      each : (i : ℕ) → i < n → first_point (from_point file i) ≡ take point_stride (drop (i * point_stride) net)
      each i k =
          let b = point_begins i k in
          ap first_point b.whole
          ∙ point_found net (point_stride * i) b.rest (small (point_stride * i) (omega (arith, k)))
          (small_point i 1 k (lit< tt)) (small_point i 2 k (lit< tt))
          ∙ three_numbers net (point_stride * i) (omega (arith, k, good.long))
          ∙ ap (λ (at : ℕ). take point_stride (drop at net)) (mul_comm point_stride i)

  -- room for the file's numbers
  room_found : (lent : List ℤ) → numbers w h ≤ length lent → short_for file (length lent) ≡ false
  room_found lent k =
      (λ t. ltb (length lent) (numbers (width_found t) (height_found t))) ∙ le-ltb (length lent) (numbers w h) k

pub reads_back_net : ReadsBack
reads_back_net net w h lent e k =
    let file = net_file net w h in
    let none : read_refusal file (short_for file (length lent)) ≡ 0 = ap (read_refusal file) (room_found net w h e lent k)
    ∙ not_refused net w h e in (
      sym (accepted_answer (read_refusal file (short_for file (length lent))) (file_width file ∷ file_height file ∷ []) none
          (λ t. sym (width_found net w h e) t ∷ sym (height_found net w h e) t ∷ [])),
      sym (when_accepted (read_refusal file (short_for file (length lent))) (over (file_numbers file) lent) lent none)
          ∙ ap (λ (l : List ℤ). over l lent) (numbers_found net w h e),
    )

pub one_net : OneNet
one_net net other w h v k e f same =
    let width : w ≡ v = sym (width_found net w h e) ∙ ap file_width same ∙ width_found other v k f in
    let height : h ≡ k = sym (height_found net w h e) ∙ ap file_height same ∙ height_found other v k f in (
      width,
      height,
      sym (numbers_found net w h e) ∙ ap file_numbers same ∙ numbers_found other v k f
          ∙ (λ t. take (numbers (sym width t) (sym height t)) other),
    )

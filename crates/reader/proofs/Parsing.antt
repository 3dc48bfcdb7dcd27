-- What a parsed word and a refusal number say of the faults that were looked for, and of those that come after them.
use mathlib.Core.Path.{◌≡◌, sym, ap, ◌∙◌}
use mathlib.Core.Bool.{not}
use mathlib.Core.List.{List, [], ◌∷◌, ◌++◌}
use Prim.Native.Nat.{ℕ, ◌+◌, ◌-◌, ◌*◌, ◌≤◌}
use native.Mathlib.Omega.{arith}
use lib.Dec.{eqb, lit≤, lit<}
use lib.ListN.{length-take, length, get_or, take, drop, length-drop}
use lib.Seq.{take_all, get_or-take, get_or-drop}
use borrow.Author.Tests.{ltb-false, le-ltb}
use Rattle.net.specs.Refusals.{Fault, first_fault, beyond}
use Rattle.net.proofs.Faults.{Clear, Numbered, none_clear, clear_parts, numbered_append, answered, not_accepted, fault_before}
use Rattle.words.specs.NetFile.{word_kind, word_payload, signed, first_word, x_kind, y_kind, z_kind, from_point, head_size, point_size}
use Rattle.words.specs.Refusals.{word_faults}
use Rattle.words.specs.Answers.{answer}
use Rattle.words.proofs.WordLaws.{same_first}
use Rattle.reader.specs.Refusals.{side_faults, number_faults, point_faults}

-- ---- what a call answered

module _ (fs : List Fault) where
  -- a word is there, no fault of it, and the value is the one asked for
  pub parsed : (v : ℕ) {p : ℕ} → Numbered fs → ◌≡◌ {A = ℕ × List ℕ} (0, p ∷ []) (answer (first_fault fs) (v ∷ [])) →
      Clear fs × (p ≡ v)
  parsed v {p} k e =
      let q = answered (first_fault fs) (v ∷ []) e in
      (none_clear fs k q.0, ap (λ (l : List ℕ). get_or l 0 0) q.1)

  -- the first fault is there, whatever comes after
  pub refused : (gs : List Fault) (v : ℕ) (values : List ℕ) {n : ℕ} →
      ◌≡◌ {A = ℕ × List ℕ} (n, []) (answer (first_fault fs) (v ∷ values)) →
      (n ≡ first_fault (fs ++ gs)) × (n ≡ 0 → ⊥)
  refused gs v values {n} e =
      let outcome : n ≡ first_fault fs = λ t. (e t).0 in
      let there = not_accepted (first_fault fs) (v ∷ values) (omega arith) e in
      (outcome ∙ fault_before fs gs there, λ z. there (sym outcome ∙ z))

  -- ---- a refusal, and none

  pub refuses : (gs : List Fault) {n : ℕ} → n ≡ first_fault fs → (n ≡ 0 → ⊥) → n ≡ first_fault (fs ++ gs)
  refuses gs e k = e ∙ fault_before fs gs (λ z. k (e ∙ z))

  pub passes : Numbered fs → 0 ≡ first_fault fs → Clear fs
  passes k e = none_clear fs k (sym e)

-- ---- the faults have numbers

pub word_numbered : (left : List ℕ) (kind : ℕ) → Numbered (word_faults left kind)
word_numbered left kind = (lit< tt, (lit< tt, tt))

pub side_numbered : (left : List ℕ) (kind : ℕ) → Numbered (side_faults left kind)
side_numbered left kind = (lit< tt, (lit< tt, (lit< tt, tt)))

pub number_numbered : (left : List ℕ) (kind : ℕ) → Numbered (number_faults left kind)
number_numbered left kind = (lit< tt, (lit< tt, (lit< tt, tt)))

pub point_numbered : (left : List ℕ) → Numbered (point_faults left)
point_numbered left =
    numbered_append (number_faults left x_kind) (number_faults (drop 4 left) y_kind ++ number_faults (drop 8 left) z_kind)
    (number_numbered left x_kind)
    (numbered_append (number_faults (drop 4 left) y_kind) (number_faults (drop 8 left) z_kind)
    (number_numbered (drop 4 left) y_kind) (number_numbered (drop 8 left) z_kind))

-- the three words of a control point are there
pub point_parts : (left : List ℕ) → Clear (point_faults left) →
    Clear (number_faults left x_kind) × Clear (number_faults (drop 4 left) y_kind)
    × Clear (number_faults (drop 8 left) z_kind)
point_parts left k =
    let q =
    clear_parts (number_faults left x_kind ++ number_faults (drop 4 left) y_kind) (number_faults (drop 8 left) z_kind) k in
    let p = clear_parts (number_faults left x_kind) (number_faults (drop 4 left) y_kind) q.0 in
    (p.0, p.1, q.1)

pub point_long : (left : List ℕ) → Clear (point_faults left) → point_size ≤ length left
point_long left k = omega (arith, ltb-false (length (drop 8 left)) 4 (point_parts left k).2.0, length-drop 8 left)

-- and so the next one begins within the file
pub next_begins : (file : List ℕ) (i : ℕ) → Clear (point_faults (from_point file i)) →
    head_size + point_size * (i + 1) ≤ length file
next_begins file i k = omega (arith, point_long (from_point file i) k, length-drop (head_size + point_size * i) file)

-- the part of a slice from a place on
pub part_from : (l : List ℕ) (n : ℕ) → take (length l - n) (drop n l) ≡ drop n l
part_from l n = take_all (length l - n) (drop n l) (omega (arith, length-drop n l))

-- ---- a control point by its twelve bytes alone

-- a word lies in the twelve bytes
word_within : (left : List ℕ) (n k : ℕ) → k + 4 ≤ n → first_word (drop k (take n left)) ≡ first_word (drop k left)
word_within left n k h =
    same_first (drop k (take n left)) (drop k left)
    (λ i l. get_or-drop k (take n left) i 0 ∙ get_or-take n left (k + i) 0 (omega (arith, h, l))
    ∙ sym (get_or-drop k left i 0))

-- a number's faults are those of its word
number_same : (l m : List ℕ) (kind : ℕ) → 4 ≤ length l → 4 ≤ length m → first_word l ≡ first_word m →
    number_faults l kind ≡ number_faults m kind
number_same l m kind h k v =
    let there = le-ltb (length l) 4 h ∙ sym (le-ltb (length m) 4 k) in
    λ t. (there t, 7) ∷ (not (eqb (word_kind (v t)) kind), 8) ∷ (beyond (signed (word_payload (v t))), 3) ∷ []

pub point_within : (left : List ℕ) → point_size ≤ length left → point_faults (take point_size left) ≡ point_faults left
point_within left h =
    let long = length-take point_size left in
    let x =
    number_same (take point_size left) left x_kind (omega arith) (omega arith) (word_within left point_size 0 (lit≤ tt)) in
    let y =
    number_same (drop 4 (take point_size left)) (drop 4 left) y_kind (omega (arith, length-drop 4 (take point_size left)))
    (omega (arith, length-drop 4 left)) (word_within left point_size 4 (lit≤ tt)) in
    let z =
    number_same (drop 8 (take point_size left)) (drop 8 left) z_kind (omega (arith, length-drop 8 (take point_size left)))
    (omega (arith, length-drop 8 left)) (word_within left point_size 8 (lit≤ tt)) in
    λ t. x t ++ y t ++ z t

-- `reader::reading::parse_head` meets its contract.
use mathlib.Core.Path.{◌≡◌, ap, ◌∙◌}
use mathlib.Core.Bool.{Bool, ◌||◌}
use mathlib.Core.List.{List, [], ◌∷◌, ◌++◌}
use Prim.Native.Nat.{ℕ, ◌-◌}
use lib.Dec.{ltb}
use lib.ListN.{length, take, drop}
use Rattle.net.specs.Net.{numbers}
use Rattle.net.specs.Refusals.{first_fault}
use Rattle.net.proofs.Faults.{Clear, clear_append, fault_after, refused_answer}
use Rattle.net.proofs.Results.{handed_on}
use Rattle.words.specs.NetFile.{word_payload, first_word, width_kind, height_kind, file_width, file_height}
use Rattle.words.specs.Answers.{answer}
use Rattle.reader.specs.Refusals.{side_faults, head_faults, short_for}
use Rattle.reader.specs.Answers.{read_outcome}
use Rattle.reader.proofs.Parsing.{parsed, refused, side_numbered, part_from}
use Rattle.reader.proofs.reading.parse_head.Goals as goal
use Rattle.reader.proofs.reading.parse_head.Goals.{In_ok-w, In_ok-h}

-- the width's word
module _ (c : In_ok-w) where
  abbrev file : List ℕ
  file = c.args.file.now

  abbrev short : Bool
  short = c.args.short || short_for file c.args.room

  width : Clear (side_faults file width_kind) × (c.in_ok-w.w ≡ file_width file)
  width =
      parsed (side_faults file width_kind) (file_width file) (side_numbered file width_kind) c.in_ok-w.ensures

-- what is known of the part from the height's word on
outcome : (file : List ℕ) {o : ℕ × List ℕ} →
    (let left = take (length file - 4) (drop 4 file) in
    o ≡ answer (first_fault (side_faults left height_kind)) (word_payload (first_word left) ∷ [])) →
    o ≡ answer (first_fault (side_faults (drop 4 file) height_kind)) (file_height file ∷ [])
outcome file e =
    e
    ∙ ap (λ (l : List ℕ). answer (first_fault (side_faults l height_kind)) (word_payload (first_word l) ∷ []))
    (part_from file 4)

-- the height's word
module _ (c : In_ok-h) where
  abbrev before_h : In_ok-w
  before_h = (goal.at.In_ok-h c).In_ok-w

  height : Clear (side_faults (drop 4 (file before_h)) height_kind) × (c.in_ok-h.h ≡ file_height (file before_h))
  height =
      parsed (side_faults (drop 4 (file before_h)) height_kind) (file_height (file before_h))
      (side_numbered (drop 4 (file before_h)) height_kind) (outcome (file before_h) c.in_ok-h.ensures)

pub returns-in_err-h : goal.returns-in_err-h
returns-in_err-h c =
    let k = (goal.at.returns-in_err-h c).In_ok-w in
    let words = side_faults (drop 4 (file k)) height_kind in
    let q = refused words ((short k, 5) ∷ []) (file_height (file k)) [] (outcome (file k) c.in_err-h.ensures) in
    ap read_outcome (handed_on c.from_residual-in_err-h.result c.from_residual-in_err-h.ensures.1)
    ∙ refused_answer (first_fault (head_faults (file k) (short k))) (file_width (file k) ∷ file_height (file k) ∷ [])
    (q.0 ∙ fault_after (side_faults (file k) width_kind) (words ++ (short k, 5) ∷ []) (width k).0) q.1

pub returns : goal.returns
returns c =
    let j = (goal.at.returns c).In_ok-h in
    let k = before_h j in
    let words = side_faults (drop 4 (file k)) height_kind in
    let clear = clear_append (side_faults (file k) width_kind) words (width k).0 (height j).0 in
    let same : first_fault ((short k, 5) ∷ []) ≡ first_fault (head_faults (file k) (short k)) =
    fault_after (side_faults (file k) width_kind ++ words) ((short k, 5) ∷ []) clear in
    c.sized.ensures
    ∙ (λ t. answer (first_fault ((c.args.short || ltb c.args.room (numbers ((width k).1 t) ((height j).1 t)), 5) ∷ []))
    ((width k).1 t ∷ (height j).1 t ∷ []))
    ∙ ap (λ (r : ℕ). answer r (file_width (file k) ∷ file_height (file k) ∷ [])) same

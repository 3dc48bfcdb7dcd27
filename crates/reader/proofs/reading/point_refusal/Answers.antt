-- `reader::reading::point_refusal` meets its contract.
use mathlib.Core.Path.{◌≡◌, ap, ◌∙◌}
use mathlib.Core.List.{List, ◌++◌}
use Prim.Native.Nat.{ℕ, ◌-◌}
use lib.ListN.{length, take, drop}
use Rattle.net.specs.Refusals.{Fault, first_fault}
use Rattle.net.specs.Results.{refused}
use Rattle.net.proofs.Faults.{Clear, fault_after}
use Rattle.net.proofs.Results.{handed_on, refusal_there}
use Rattle.words.specs.NetFile.{x_kind, y_kind, z_kind}
use Rattle.reader.specs.Refusals.{number_faults}
use Rattle.reader.proofs.Parsing.{refuses, passes, number_numbered, part_from}
use Rattle.reader.proofs.reading.point_refusal.Goals as goal
use Rattle.reader.proofs.reading.point_refusal.Goals.{In_ok-number_refusal, In_ok-number_refusal-2}

-- the faults of the second and the third word
abbrev after_x : List ℕ → List Fault
after_x left = number_faults (drop 4 left) y_kind ++ number_faults (drop 8 left) z_kind

-- what is known of a part of the slice
outcome : (left : List ℕ) (n kind : ℕ) {r : ℕ} →
    r ≡ first_fault (number_faults (take (length left - n) (drop n left)) kind) →
    r ≡ first_fault (number_faults (drop n left) kind)
outcome left n kind e = e ∙ ap (λ (l : List ℕ). first_fault (number_faults l kind)) (part_from left n)

module _ (c : In_ok-number_refusal) where
  abbrev left : List ℕ
  left = c.args.left.now

  x_clear : Clear (number_faults left x_kind)
  x_clear = passes (number_faults left x_kind) (number_numbered left x_kind) c.in_ok-number_refusal.ensures

module _ (c : In_ok-number_refusal-2) where
  abbrev before_y : In_ok-number_refusal
  before_y = (goal.at.In_ok-number_refusal-2 c).In_ok-number_refusal

  y_clear : Clear (number_faults (drop 4 (left before_y)) y_kind)
  y_clear =
      passes (number_faults (drop 4 (left before_y)) y_kind) (number_numbered (drop 4 (left before_y)) y_kind)
      (outcome (left before_y) 4 y_kind c.in_ok-number_refusal-2.ensures)

pub returns-in_err-number_refusal-2 : goal.returns-in_err-number_refusal-2
returns-in_err-number_refusal-2 c =
    let at = (goal.at.returns-in_err-number_refusal-2 c).In_ok-number_refusal in
    let same =
    handed_on c.from_residual-in_err-number_refusal-2.result c.from_residual-in_err-number_refusal-2.ensures.1 in
    let e = outcome (left at) 4 y_kind c.in_err-number_refusal-2.ensures in
    ap refused same
    ∙ refuses (number_faults (drop 4 (left at)) y_kind) (number_faults (drop 8 (left at)) z_kind) e (refusal_there _)
    ∙ fault_after (number_faults (left at) x_kind) (after_x (left at)) (x_clear at)

pub returns : goal.returns
returns c =
    let y = (goal.at.returns c).In_ok-number_refusal-2 in
    let at = (goal.at.returns c).In_ok-number_refusal in
    outcome (left at) 8 z_kind c.number_refusal-3.ensures
    ∙ fault_after (number_faults (drop 4 (left at)) y_kind) (number_faults (drop 8 (left at)) z_kind) (y_clear y)
    ∙ fault_after (number_faults (left at) x_kind) (after_x (left at)) (x_clear at)

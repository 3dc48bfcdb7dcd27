-- `reader::reading::body_refusal` meets its contract.
use mathlib.Core.Path.{ap, ◌∙◌}
use mathlib.Core.List.{List}
use Prim.Native.Nat.{ℕ, ◌+◌, ◌*◌, ◌≤◌}
use native.Mathlib.Omega.{arith}
use lib.ListN.{length}
use borrow.Author.Rules.{rules}
use Rattle.exact.specs.Filling.{runs}
use Rattle.net.specs.Refusals.{first_fault}
use Rattle.net.specs.Results.{refused}
use Rattle.net.proofs.Results.{handed_on, refusal_there}
use Rattle.net.proofs.Faults.{Clear, fault_after}
use Rattle.words.specs.NetFile.{from_point, head_size, point_size}
use Rattle.reader.specs.Refusals.{point_faults, end_faults}
use Rattle.reader.proofs.Parsing.{refuses, passes, part_from}
use Rattle.reader.proofs.ReadLaws.{points_there, points_numbered}
use Rattle.reader.proofs.reading.body_refusal.Goals as goal
use Rattle.reader.proofs.reading.body_refusal.Goals.{In_ok-points_refusal}

-- the control points have no fault
module _ (c : In_ok-points_refusal) where
  abbrev file : List ℕ
  file = c.args.file.now

  abbrev n : ℕ
  n = c.args.n

  clear : Clear (runs n (λ i. point_faults (from_point file i)))
  clear =
      passes (runs n (λ i. point_faults (from_point file i))) (points_numbered file n)
      c.in_ok-points_refusal.ensures

  there : head_size + point_size * n ≤ length file
  there = points_there file n c.requires clear

pub returns-in_err-points_refusal : goal.returns-in_err-points_refusal
returns-in_err-points_refusal c =
    let file = c.args.file.now in
    let n = c.args.n in
    ap refused (handed_on c.from_residual.result c.from_residual.ensures.1)
    ∙ refuses (runs n (λ i. point_faults (from_point file i))) (end_faults (from_point file n))
    c.in_err-points_refusal.ensures (refusal_there _)

pub overflow_mul-n : goal.overflow_mul-n
overflow_mul-n c = let h = there c in omega arith

pub overflow_add-n : goal.overflow_add-n
overflow_add-n c = let h = there c in omega arith

pub slice_bounds-end_refusal-count : goal.slice_bounds-end_refusal-count
slice_bounds-end_refusal-count c = there c

pub returns : goal.returns
returns c =
    let at = (goal.at.returns c).In_ok-points_refusal in
    c.end_refusal.ensures
    ∙ ap (λ (l : List ℕ). first_fault (end_faults l)) (part_from (file at) (head_size + point_size * n at))
    ∙ fault_after (runs (n at) (λ i. point_faults (from_point (file at) i))) (end_faults (from_point (file at) (n at)))
    (clear at)

pub slice_bounds-end_refusal-start : goal.slice_bounds-end_refusal-start
slice_bounds-end_refusal-start c = let h = there c in search rules

-- `reader::reading::points_refusal` meets its contract: where the file ends in a control point, that one is refused.
use mathlib.Core.Path.{◌≡◌, sym, ap, ◌∙◌}
use mathlib.Core.List.{List}
use Prim.Native.Nat.{ℕ, ◌+◌, ◌-◌, ◌*◌, ◌/◌, ◌<◌, min}
use native.Mathlib.Omega.{arith}
use lib.ListN.{length, length-drop}
use Rattle.exact.specs.Filling.{runs}
use Rattle.net.specs.Refusals.{Fault, first_fault}
use Rattle.net.specs.Results.{refused}
use Rattle.net.proofs.Results.{handed_on, refusal_there}
use Rattle.net.proofs.Faults.{fault_in_front, fault_in_runs}
use Rattle.words.specs.NetFile.{from_point, head_size, point_size}
use Rattle.reader.specs.Refusals.{point_faults}
use Rattle.reader.proofs.Parsing.{passes, point_numbered, point_long, part_from}
use Rattle.reader.proofs.ReadLaws.{points_numbered}
use Rattle.reader.proofs.reading.points_refusal.Goals as goal
use Rattle.reader.proofs.reading.points_refusal.Goals.{After-min-whole, After-point_refusal}

module _ (c : After-min-whole) where
  abbrev file : List ℕ
  file = c.args.file.now

  abbrev n : ℕ
  n = c.args.n

  abbrev whole : ℕ
  whole = c.min-whole.result

  abbrev faults : ℕ → List Fault
  faults i = point_faults (from_point file i)

  fewer : whole ≡ min n ((length file - head_size) / point_size)
  fewer = c.min-whole.ensures

-- and the one after them, which is cut
module _ (c : After-point_refusal) where
  abbrev at : After-min-whole
  at = (goal.at.After-point_refusal c).After-min-whole

  outcome : refused c.point_refusal.result ≡ first_fault (faults at (whole at))
  outcome =
      c.point_refusal.ensures
      ∙ ap (λ (l : List ℕ). first_fault (point_faults l)) (part_from (file at) (head_size + point_size * whole at))

  there : refused c.point_refusal.result ≡ 0 → ⊥
  there z =
      let k = passes (faults at (whole at)) (point_numbered (from_point (file at) (whole at))) (sym z ∙ outcome) in
      let last : whole at < n at = c.if-whole-n.true in
      omega (
        arith,
        fewer at,
        last,
        point_long (from_point (file at) (whole at)) k,
        length-drop
            (head_size + point_size * whole at) (file at),
      )

pub returns-in_err-whole_points_refusal : goal.returns-in_err-whole_points_refusal
returns-in_err-whole_points_refusal c =
    let k = (goal.at.returns-in_err-whole_points_refusal c).After-min-whole in
    ap refused (handed_on c.from_residual.result c.from_residual.ensures.1)
    ∙ fault_in_front (whole k) (n k) (faults k) (omega (arith, fewer k)) c.in_err-whole_points_refusal.ensures
    (refusal_there _)

pub returns-then-whole-n : goal.returns-then-whole-n
returns-then-whole-n c =
    let k = at c in
    fault_in_runs (n k) (faults k) (whole k) c.if-whole-n.true
    (passes (runs (whole k) (faults k)) (points_numbered (file k) (whole k)) c.in_ok-whole_points_refusal.ensures)
    (outcome c) (there c)

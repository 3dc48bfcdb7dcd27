-- `fine_outline::rows::write_row` meets its contract: each iteration stores the part of one cell more.
use mathlib.Core.List.{List}
use Prim.Native.Nat.{ℕ, ◌+◌, ◌-◌, ◌*◌, ◌/◌, ◌≤◌, ◌<◌}
use native.Mathlib.Nat.{mod-lt}
use native.Mathlib.Omega.{arith}
use lib.ListN.{length}
use Rattle.exact.proofs.FillingLaws.{runs_none}
use Rattle.fine_outline.proofs.RowLaws.{parts_more, all_length, cell_bytes, part_ends}
use Rattle.fine_outline.proofs.rows.write_row.Goals as goal
use Rattle.fine_outline.proofs.rows.write_row.Goals.{In-loop-i}

-- within the loop: what is read, and what is written
read : (c : In-loop-i) →
    (let a = c.args in
    2 * (a.r / a.s * (a.w - 1) + c.loop-i.i) + 1 < length a.outline.now)
read c = let s = c in cell_bytes s.requires.0 s.requires.1 c.loop-i-test.true

record Written (w s r i : ℕ) (fine : List ℕ) : Type 0 where
  inside : r * ((w - 1) * (2 * s)) + i * (2 * s) + 2 * s ≤ length fine
  small : r * ((w - 1) * (2 * s)) + i * (2 * s) + 2 * s ≤ 2097152

written : (c : In-loop-i) →
    (let a = c.args in
    Written a.w a.s a.r c.loop-i.i a.fine.now)
written c =
    let s = c in
    let end = part_ends s.requires.0 s.requires.1 c.loop-i-test.true in
    record {
      inside = omega (arith, end, s.requires.0.room);
      small = omega (arith, end, all_length s.requires.0);
    }

pub loop-i-init : goal.loop-i-init
loop-i-init c = runs_none _ _ _

pub bounds-outline-n : goal.bounds-outline-n
bounds-outline-n c = omega (arith, read (goal.at.bounds-outline-n c).In-loop-i)

pub bounds-outline-n-in-loop-i : goal.bounds-outline-n-in-loop-i
bounds-outline-n-in-loop-i c = omega (arith, read (goal.at.bounds-outline-n-in-loop-i c).In-loop-i)

pub write_cell-requires : goal.write_cell-requires
write_cell-requires c =
    let s = c in (
      mod-lt s.args.r s.requires.0.some,
      s.requires.0.few,
      omega (arith, (written (goal.at.write_cell-requires c).In-loop-i).inside, c.loop-i.auto.fine),
    )

pub loop-i-preserved : goal.loop-i-preserved
loop-i-preserved c =
    let a = c.args in
    let at = c.loop-i in
    parts_more a.outline.now a.fine.now a.w a.s a.r (a.r * ((a.w - 1) * (2 * a.s))) at.i
    c.write_cell.ensures at.invariant

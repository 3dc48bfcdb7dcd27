-- `door::cells::on_door` meets its contract: the four cells tell whether the place is on the door.
use mathlib.Core.Path.{◌≡◌}
use mathlib.Core.List.{List}
use Prim.Native.Nat.{ℕ, ◌/◌, ◌≤◌}
use native.Mathlib.Omega.{arith}
use native.Mathlib.Nat.{le_refl}
use lib.ListN.{length}
use Rattle.outline.specs.Outline.{triangles}
use Rattle.door.specs.Cells.{Small}
use Rattle.door.proofs.CellLaws.{small_cell, found_in_four}
use Rattle.door.proofs.cells.on_door.Goals as goal
use Rattle.door.proofs.cells.on_door.Goals.{After-saturating_sub-l, Start}

-- with the columns i, k and the rows j, l known
module _ (c : After-saturating_sub-l) where
  abbrev start : Start
  start = (goal.at.After-saturating_sub-l c).Start

  abbrev bytes : List ℕ
  bytes = start.args.outline.now

  abbrev i : ℕ
  i = start.args.p / start.args.d

  abbrev j : ℕ
  j = start.args.q / start.args.d

  abbrev k : ℕ
  k = c.saturating_sub-k.result

  abbrev l : ℕ
  l = c.saturating_sub-l.result

  column_before : k ≤ i
  column_before = omega arith

  row_before : l ≤ j
  row_before = omega arith

  known : (m n : ℕ) → m ≤ i → n ≤ j →
      (triangles start.args.size.w start.args.size.h ≤ length bytes)
      × Small start.args.d start.args.p start.args.q m n
  known m n x y =
      let a = start.args in
      let e = start.requires in
      (e.0, small_cell a.d a.size.w a.size.h a.p a.q m n a.size.accepted e.2 e.3 x y)

pub cell_has-left-requires : goal.cell_has-left-requires
cell_has-left-requires c =
    let s = (goal.at.cell_has-left-requires c).After-saturating_sub-l in
    known s (k s) (j s) (column_before s) (le_refl (j s))

pub cell_has-below-requires : goal.cell_has-below-requires
cell_has-below-requires c =
    let s = (goal.at.cell_has-below-requires c).After-saturating_sub-l in
    known s (i s) (l s) (le_refl (i s)) (row_before s)

pub cell_has-both-requires : goal.cell_has-both-requires
cell_has-both-requires c =
    let s = (goal.at.cell_has-both-requires c).After-saturating_sub-l in
    known s (k s) (l s) (column_before s) (row_before s)

pub returns : goal.returns
returns c =
    let s = (goal.at.returns c).After-saturating_sub-l in
    let a = (start s).args in
    found_in_four a.d (bytes s) a.size.w a.size.h a.p a.q a.size.accepted (start s).requires.1
    s.saturating_sub-k.ensures s.saturating_sub-l.ensures c.cell_has-here.ensures
    c.cell_has-left.ensures c.cell_has-below.ensures c.cell_has-both.ensures

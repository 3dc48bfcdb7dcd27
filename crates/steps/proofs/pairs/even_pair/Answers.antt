-- `steps::pairs::even_pair` meets its contract.
use mathlib.Core.Bool.{true, false}
use mathlib.Core.List.{List}
use mathlib.Core.Path.{◌≡◌, refl, sym, subst, ◌∙◌}
use Prim.Native.Nat.{ℕ, ◌+◌, ◌*◌, ◌≤◌, ◌<◌}
use native.Mathlib.Omega.{arith}
use lib.Dec.{lit<, lit≤}
use lib.IntN.{ℤ}
use lib.ListN.{length}
use Rattle.net.specs.Net.{vertex_at, start, stride, control_triangle}
use Rattle.net.specs.Refusals.{net_limit, ControlsWithin}
use Rattle.net.proofs.Accepted.{accepted_vertex}
use Rattle.subdivision.specs.WeightTable.{weights, refined_triangle}
use Rattle.steps.specs.RefinedNet.{refined_controls}
use Rattle.steps.specs.Steps.{three_points}
use Rattle.steps.proofs.RefinedVertices.{even_double, odd_double, made_by_kind, kept_second}
use Rattle.steps.proofs.PairedRows.{stored_one, stored_two}
use Rattle.steps.proofs.pairs.even_pair.Goals as goal
use Rattle.steps.proofs.pairs.even_pair.Goals.{After-load-a, Start}

-- a vertex of the net lies in the slice, and its numbers in the net range
module _ (s : Start) (i j : ℕ) (a : i < s.args.w) (b : j < s.args.h) where
  lies : start s.args.w (vertex_at i j) + stride ≤ length s.args.net.now
  lies = (accepted_vertex s.args.net.now s.args.w s.args.h s.requires.given i j a b).0

  small : {c : List (List ℤ)} → c ≡ control_triangle s.args.net.now s.args.w (vertex_at i j) → ControlsWithin net_limit c
  small e =
      subst (ControlsWithin net_limit) (sym e)
      (accepted_vertex s.args.net.now s.args.w s.args.h s.requires.given i j a b).1

-- the kept vertex
kept_at : (c : After-load-a) {r : List (List ℤ)} → r ≡ refined_triangle weights 0 c.load-a.result c.load-a.result →
    (let a = c.args in r ≡ refined_controls a.net.now a.w (vertex_at (2 * a.m) (2 * a.n)))
kept_at c e =
    let a = c.args in
    made_by_kind a.net.now a.w (2 * a.m) (2 * a.n) a.m a.n false false (omega arith) (omega arith)
    (even_double a.m) (even_double a.n)
    (e ∙ kept_second c.load-a.result c.load-a.result (control_triangle a.net.now a.w (vertex_at (a.m + 1) a.n)))
    c.load-a.ensures refl

pub kept_triangle-requires : goal.kept_triangle-requires
kept_triangle-requires c =
    let s = (goal.at.kept_triangle-requires c).Start in
    small s _ _ s.requires.column s.requires.row c.load-a.ensures

pub edge_triangle-requires : goal.edge_triangle-requires
edge_triangle-requires c =
    let first = c in
    let s = (goal.at.edge_triangle-requires c).Start in
    let near = small s _ _ s.requires.column s.requires.row first.load-a.ensures in
    (lit≤ tt, lit< tt, near, small s _ _ c.if-m-w.true s.requires.row c.load-b.ensures)

pub returns-then-m-w : goal.returns-then-m-w
returns-then-m-w c =
    let first = c in
    let load = (goal.at.returns-then-m-w c).After-load-a in
    let s = c in
    let a = s.args in
    let pair = c in
    let taken = pair.if-m-w.true in
    c.store_triangle-then-m-w.ensures
    ∙ (λ t. three_points (first.store_triangle.ensures t) (a.at + stride) pair.edge_triangle.result)
    ∙ stored_two a.net.now a.w (2 * a.n) a.m a.out.now a.at (kept_at load first.kept_triangle.ensures) taken
    (made_by_kind a.net.now a.w (2 * a.m + 1) (2 * a.n) a.m a.n true false (omega arith) (omega arith)
    (odd_double a.m) (even_double a.n) pair.edge_triangle.ensures load.load-a.ensures pair.load-b.ensures)

pub returns-else-m-w : goal.returns-else-m-w
returns-else-m-w c =
    let first = c in
    let load = (goal.at.returns-else-m-w c).After-load-a in
    let a = load.args in
    first.store_triangle.ensures
    ∙ stored_one a.net.now a.w (2 * a.n) a.m a.out.now a.at (kept_at load first.kept_triangle.ensures) c.if-m-w.false

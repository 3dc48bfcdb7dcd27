-- `steps::pairs::odd_pair` meets its contract.
use mathlib.Core.Bool.{true, false}
use mathlib.Core.List.{List}
use mathlib.Core.Path.{◌≡◌, sym, subst, ◌∙◌}
use Prim.Native.Nat.{ℕ, ◌+◌, ◌*◌, ◌≤◌, ◌<◌}
use native.Mathlib.Omega.{arith}
use lib.Dec.{lit<, lit≤}
use lib.IntN.{ℤ}
use lib.ListN.{length}
use Rattle.net.specs.Net.{vertex_at, start, stride, control_triangle}
use Rattle.net.specs.Refusals.{net_limit, ControlsWithin}
use Rattle.net.proofs.Accepted.{accepted_vertex}
use Rattle.steps.specs.RefinedNet.{refined_controls}
use Rattle.steps.specs.Steps.{three_points}
use Rattle.steps.proofs.RefinedVertices.{even_double, odd_double, made_by_kind}
use Rattle.steps.proofs.PairedRows.{stored_one, stored_two}
use Rattle.steps.proofs.pairs.odd_pair.Goals as goal
use Rattle.steps.proofs.pairs.odd_pair.Goals.{After-edge_triangle, Start}

-- a vertex of the net lies in the slice, and its numbers in the net range
module _ (s : Start) (i j : ℕ) (a : i < s.args.w) (b : j < s.args.h) where
  lies : start s.args.w (vertex_at i j) + stride ≤ length s.args.net.now
  lies = (accepted_vertex s.args.net.now s.args.w s.args.h s.requires.0.given i j a b).0

  small : {c : List (List ℤ)} → c ≡ control_triangle s.args.net.now s.args.w (vertex_at i j) → ControlsWithin net_limit c
  small e =
      subst (ControlsWithin net_limit) (sym e)
      (accepted_vertex s.args.net.now s.args.w s.args.h s.requires.0.given i j a b).1

pub edge_triangle-requires : goal.edge_triangle-requires
edge_triangle-requires c =
    let s = (goal.at.edge_triangle-requires c).Start in (
      lit≤ tt,
      lit< tt,
      small s _ _ s.requires.0.column s.requires.1 c.load-c.ensures,
      small s _ _ s.requires.0.column s.requires.0.row c.load-a.ensures,
    )

pub edge_triangle-requires-then-m-w : goal.edge_triangle-requires-then-m-w
edge_triangle-requires-then-m-w c =
    let upper = c in
    let s = (goal.at.edge_triangle-requires-then-m-w c).Start in (
      lit≤ tt,
      lit< tt,
      small s _ _ c.if-m-w.true s.requires.0.row c.load-b.ensures,
      small s _ _ s.requires.0.column s.requires.1 upper.load-c.ensures,
    )

-- the first of the two
first_at : (c : After-edge_triangle) →
    (let a = c.args in
    c.edge_triangle.result ≡ refined_controls a.net.now a.w (vertex_at (2 * a.m) (2 * a.n + 1)))
first_at c =
    let a = c.args in
    made_by_kind a.net.now a.w (2 * a.m) (2 * a.n + 1) a.m a.n false true (omega arith) (omega arith)
    (even_double a.m) (odd_double a.n) c.edge_triangle.ensures c.load-c.ensures
    c.load-a.ensures

pub returns-then-m-w : goal.returns-then-m-w
returns-then-m-w c =
    let first = c in
    let upper = c in
    let a = upper.args in
    let pair = c in
    c.store_triangle-then-m-w.ensures
    ∙ (λ t. three_points (first.store_triangle.ensures t) (a.at + stride) pair.edge_triangle-then-m-w.result)
    ∙ stored_two a.net.now a.w (2 * a.n + 1) a.m a.out.now a.at (first_at (goal.at.returns-then-m-w c).After-edge_triangle)
    pair.if-m-w.true
    (made_by_kind a.net.now a.w (2 * a.m + 1) (2 * a.n + 1) a.m a.n true true (omega arith) (omega arith)
    (odd_double a.m) (odd_double a.n) pair.edge_triangle-then-m-w.ensures pair.load-b.ensures
    upper.load-c.ensures)

pub returns-else-m-w : goal.returns-else-m-w
returns-else-m-w c =
    let first = c in
    let a = first.args in
    first.store_triangle.ensures
    ∙ stored_one a.net.now a.w (2 * a.n + 1) a.m a.out.now a.at (first_at (goal.at.returns-else-m-w c).After-edge_triangle)
    c.if-m-w.false

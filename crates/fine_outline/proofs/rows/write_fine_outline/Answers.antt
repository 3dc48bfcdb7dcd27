-- `fine_outline::rows::write_fine_outline` meets its contract: each iteration stores one row more, and the rows are the
-- fine outline (`by_rows_lem`).
use mathlib.Core.Path.{◌≡◌, refl, ap, ◌∙◌}
use mathlib.Core.List.{List}
use Prim.Native.Nat.{ℕ, ◌+◌, ◌-◌, ◌*◌, ◌^◌, ◌≤◌}
use native.Mathlib.Nat.{mul-le-mul_right}
use native.Mathlib.Omega.{arith}
use lib.Dec.{lit≤}
use lib.ListN.{length}
use Rattle.exact.specs.Filling.{over, runs}
use Rattle.exact.proofs.FillingLaws.{over_none}
use Rattle.steps.proofs.Sides.{side_cells}
use Rattle.fine_outline.specs.Rows.{row_run, RowReady}
use Rattle.fine_outline.proofs.RowLaws.{by_rows_lem, row_ready, rows_more}
use Rattle.fine_outline.proofs.rows.write_fine_outline.Goals as goal
use Rattle.fine_outline.proofs.rows.write_fine_outline.Goals.{After-side_after-s}

-- s is 2^k, and the rows of what was lent are ready
module _ (c : After-side_after-s) where
  cells : c.side_after-s.result - 1 ≡ 2 ^ c.args.steps.k
  cells = omega (arith, c.side_after-s.ensures, side_cells c.args.steps.k 2 (lit≤ tt))

  ready : (fine : List ℕ) → length fine ≡ length c.args.fine.now →
      (let a = c.args in
      RowReady a.outline.now a.steps.w a.steps.h (c.side_after-s.result - 1) fine)
  ready fine e =
      let pre = c.requires in row_ready c.args.steps.depth pre.0 (omega (arith, e, pre.1)) cells

pub overflow_sub-s : goal.overflow_sub-s
overflow_sub-s c = omega (arith, c.side_after-s.ensures, side_cells c.args.steps.k 2 (lit≤ tt))

pub overflow_mul-rows : goal.overflow_mul-rows
overflow_mul-rows c =
    let k = (goal.at.overflow_mul-rows c).After-side_after-s in
    omega (arith, (ready k c.args.fine.now refl).low)

pub loop-r-init : goal.loop-r-init
loop-r-init c = over_none _ _

pub write_row-requires : goal.write_row-requires
write_row-requires c =
    (ready (goal.at.write_row-requires c).After-side_after-s _ c.loop-r.auto.fine, c.loop-r-test.true)

pub loop-r-preserved : goal.loop-r-preserved
loop-r-preserved c =
    let called = (goal.at.loop-r-preserved c).After-side_after-s in
    let a = called.args in
    let at = c.loop-r in
    let s : ℕ = called.side_after-s.result - 1 in
    let size : ℕ = (a.steps.w - 1) * (2 * s) in
    let fits : (at.r + 1) * size ≤ length a.fine.now =
    omega (
      arith,
      mul-le-mul_right size c.loop-r-test.true,
      (ready called a.fine.now refl).room,
    ) in
    rows_more a.outline.now a.fine.now a.steps.w s at.r fits c.write_row.ensures at.invariant

pub returns : goal.returns
returns c =
    let called = (goal.at.returns c).After-side_after-s in
    let a = called.args in
    let s : ℕ = called.side_after-s.result - 1 in
    let all : c.loop-r.r ≡ s * (a.steps.h - 1) = omega arith in
    c.loop-r.invariant
    ∙ ap (λ (n : ℕ). over (runs n (row_run a.outline.now a.steps.w s)) a.fine.now) all
    ∙ ap (λ (m : ℕ). over (runs (m * (a.steps.h - 1)) (row_run a.outline.now a.steps.w m)) a.fine.now) (cells called)
    ∙ ap (λ (l : List ℕ). over l a.fine.now)
    (by_rows_lem a.outline.now a.steps.w a.steps.h a.steps.k a.steps.depth.wide a.steps.depth.high)

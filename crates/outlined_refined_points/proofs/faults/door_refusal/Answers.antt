-- `outlined_refined_points::faults::door_refusal` meets its contract: each branch is the first fault that is there.
use mathlib.Core.Path.{sym, ap, ◌∙◌}
use mathlib.Core.List.{List, [], ◌∷◌}
use Prim.Native.Nat.{ℕ}
use native.Mathlib.Omega.{arith}
use lib.Dec.{lit<}
use borrow.Author.Tests.{ltb-false}
use Rattle.net.specs.Refusals.{Fault, short_net}
use Rattle.net.proofs.Faults.{Clear, none_clear, or_none}
use Rattle.places.specs.Refusals.{no_place}
use Rattle.outline.specs.Refusals.{short_outline, outlined_faults}
use Rattle.steps.specs.Steps.{Depth}
use Rattle.refined_points.proofs.EdgeCounts.{edge_bounds, same_grid}
use Rattle.outlined_refined_points.specs.Refusals.{off_door}
use Rattle.outlined_refined_points.proofs.faults.door_refusal.Goals as goal
use Rattle.outlined_refined_points.proofs.faults.door_refusal.Goals.{In_ok-outlined_refusal, Start}

module _ (s : Start) where
  abbrev given : List Fault
  given = outlined_faults s.args.net.now s.args.steps.w s.args.steps.h s.args.outline.now

  abbrev of_door : List Fault
  of_door = (off_door s.args.steps.k s.args.outline.now s.args.steps.w s.args.steps.h s.args.p s.args.q, 15) ∷ []

  depth : Depth s.args.steps.w s.args.steps.h s.args.steps.k
  depth = s.args.steps.depth

-- 2 and 13 do not refuse
clear : (c : In_ok-outlined_refusal) → Clear (given (goal.at.In_ok-outlined_refusal c).Start)
clear c =
    none_clear (given (goal.at.In_ok-outlined_refusal c).Start) (lit< tt, (lit< tt, tt))
    (sym c.in_ok-outlined_refusal.ensures)

pub on_door-requires : goal.on_door-requires
on_door-requires c =
    let s = (goal.at.on_door-requires c).Start in
    let a = s.args in
    let d = depth s in
    let k = clear (goal.at.on_door-requires c).In_ok-outlined_refusal in
    let bounds = edge_bounds a.steps.k d.few in
    let e = c.fine_edge.ensures in (
      ltb-false _ _ (or_none (short_net a.net.now a.steps.w a.steps.h) (short_outline a.outline.now a.steps.w a.steps.h) k.0).1,
      omega (arith, bounds.0, e),
      omega (arith, bounds.1, e),
      ap (λ (n : ℕ). no_place n a.steps.w a.steps.h a.p a.q) e
          ∙ sym (same_grid a.steps.w a.steps.h a.steps.k a.p a.q (omega (arith, d.wide)) (omega (arith, d.high)))
          ∙ s.requires,
    )

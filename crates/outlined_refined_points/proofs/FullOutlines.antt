-- With all triangles present the rows of the outline do not refuse, since every place of the refined grid lies in a
-- starting triangle, and the others are those of plain refining and then a point.
use mathlib.Core.Path.{◌≡◌, sym, ap, ◌∙◌}
use mathlib.Core.Bool.{Bool, true, false, not, cond, ◌||◌}
use mathlib.Core.List.{List, []}
use Prim.Native.Nat.{ℕ, ◌≤◌, ◌<◌}
use native.Mathlib.Omega.{arith}
use lib.IntN.{ℤ}
use lib.ListN.{length}
use Rattle.net.specs.Refusals.{bad_size, short_net, net_beyond, accepted}
use Rattle.net.proofs.Beyond.{cond_else}
use Rattle.net.proofs.Places.{good_size}
use Rattle.outline.specs.Outline.{triangles}
use Rattle.outline.specs.Promises.{Full}
use Rattle.outline.proofs.FullOutlines.{full_two, full_bytes, full_not_disconnected}
use Rattle.door.specs.Door.{on_door}
use Rattle.door.proofs.FullDoors.{full_on_door}
use Rattle.subdivision.specs.Refinement.{side_after}
use Rattle.bounds.specs.DemandThree.{fine_edge}
use Rattle.steps.proofs.Sides.{some_cells}
use Rattle.refine.specs.Refusals.{too_deep}
use Rattle.refined_points.specs.Refusals.{off_grid}
use Rattle.refined_points.specs.Answers.{refusal_at, refined_surface_point}
use Rattle.refined_points.proofs.EdgeCounts.{same_grid}
use Rattle.outlined_refine.proofs.FullOutlines.{plain_short}
use Rattle.outlined_refined_points.specs.Answers.{outlined_refusal_at}
use Rattle.outlined_refined_points.specs.Promises.{FullOutlineRefinedPoints}

module _ (outline : List ℕ) (w h : ℕ) (full : Full outline w h) (k p q : ℕ) where
  full_fine_door : bad_size w h ≡ false → off_grid w h k p q ≡ false → on_door (fine_edge k) outline w h p q ≡ true
  full_fine_door e₁ e₆ =
      let s = good_size w h e₁ in
      let some : 0 < fine_edge k = omega (arith, some_cells k) in
      full_on_door (fine_edge k) outline w h p q full some s.wide s.high
      (sym (same_grid w h k p q (omega (arith, s.wide)) (omega (arith, s.high))) ∙ e₆)

  full_refusal_at : (net : List ℤ) (other : Bool) (out scratch : List ℤ) (fine search : List ℕ) →
      triangles (side_after k w) (side_after k h) ≤ length fine → triangles w h ≤ length search →
      outlined_refusal_at net w h k outline p q other out scratch fine search ≡ refusal_at net w h k p q other out scratch
  full_refusal_at net other out scratch fine search a b =
      cond_else (bad_size w h) 1 (λ e₁.
      ap (cond (too_deep w h k) 4)
      (cond_else (off_grid w h k p q) 6 (λ e₆.
      let s = good_size w h e₁ in
      λ t.
      cond (full_two outline w h full (short_net net w h) t) 2
      (cond (full_bytes outline w h full t) 13
      (cond (not (full_fine_door e₁ e₆ t)) 15
      (cond (other || plain_short w h k out scratch fine search a b t) 5
      (cond (full_not_disconnected outline w h full s.wide s.high t) 14 (cond (net_beyond net w h) 3 0))))))))

pub full_refined_point : FullOutlineRefinedPoints
full_refined_point net w h k outline p q other out scratch fine search full a b =
    let same = full_refusal_at outline w h full k p q net other out scratch fine search a b in
    (same, λ t. (same t, cond (accepted (same t)) (refined_surface_point net w h k p q) []))

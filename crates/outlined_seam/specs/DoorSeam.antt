-- The seam on the door, of the definitions that `refine_outlined` and `surface_point_outlined` are proved to meet: what
-- `Seam` in crates/seam/specs/Seam.antt claims, of a net with an outline. `door_seam` in proofs/DoorSeam.antt proves
-- it.
use Rattle.std.specs.Prelude.{◌≡◌, refl, false, List, [], ◌∷◌, ℕ, ℤ, pos, replicate}
use Rattle.std.proofs.Common.{lit≤}
use Rattle.exact.specs.Rounding.{rounded, floor_quotient}
use Rattle.exact.specs.Filling.{over, runs}
use Rattle.net.specs.Net.{triangle_at, squares, grid, control_point, control_triangle}
use Rattle.net.specs.Refusals.{net_beyond}
use Rattle.places.specs.Places.{OnGrid}
use Rattle.graphs.specs.Reaching.{reached, all_reached}
use Rattle.outline.specs.Connected.{connected}
use Rattle.outline.specs.Refusals.{bad_byte}
use Rattle.door.specs.Door.{OnDoor, on_door}
use Rattle.spline.specs.Spline.{spline}
use Rattle.surface.specs.SurfacePoint.{coordinate}
use Rattle.subdivision.specs.Refinement.{side_after, exact_refinement, refinement}
use Rattle.bounds.specs.DemandThree.{fine_edge}
use Rattle.steps.specs.RefinedNet.{stored, refined_net}
use Rattle.fine_outline.specs.FineOutline.{fine_outline}
use Rattle.outlined_points.specs.Answers.{outlined_point_answer}
use Rattle.outlined_refine.specs.Answers.{outlined_refusal_of}
use Rattle.outlined_refined_points.specs.DemandThree.{door_answer}
use Rattle.seam.specs.Seam.{SamePlace, SeamClaimed}

-- of every net with an outline and every two depths that refining accepts, each with slices of its own, at every place
-- of both grids that is on the door
abbrev pub DoorSeam : Type 0
DoorSeam =
    (net : List ℤ) (w h k l : ℕ) (outline : List ℕ) (out scratch : List ℤ) (fine search : List ℕ)
    (out2 scratch2 : List ℤ) (fine2 search2 : List ℕ) →
    outlined_refusal_of net w h k outline out scratch fine search ≡ 0 →
    outlined_refusal_of net w h l outline out2 scratch2 fine2 search2 ≡ 0 →
    (p q p2 q2 : ℕ) → OnGrid 1024 (side_after k w) (side_after k h) p q → OnDoor (fine_edge k) outline w h p q →
    SamePlace k l p q p2 q2 →
    SeamClaimed net w h k l p q p2 q2 (door_answer net w h k outline out scratch fine search p q)
    (door_answer net w h l outline out2 scratch2 fine2 search2 p2 q2)

-- worked case: of the net of 2 by 3 whose numbers are the squares, with the down triangle of cell (0, 0) and the up
-- triangle above it, at a place of the second after no step and after one: the two answers, which differ by 1 in y, and
-- what is claimed of them
abbrev two_of : List ℕ
two_of = 0 ∷ 1 ∷ 1 ∷ 0 ∷ []

abbrev answer : ℕ × List ℤ
answer = door_answer (squares 54) 2 3 0 two_of (replicate 54 (pos 5)) [] (replicate 4 7) (replicate 4 9) 250 1250

abbrev answer2 : ℕ × List ℤ
answer2 = door_answer (squares 54) 2 3 1 two_of (replicate 136 (pos 5)) [] (replicate 17 7) (replicate 4 9) 500 2500

answers : (answer ≡ (0, pos 660 ∷ pos 709 ∷ pos 761 ∷ [])) × (answer2 ≡ (0, pos 660 ∷ pos 710 ∷ pos 761 ∷ []))
unfolding net_beyond bad_byte on_door connected reached all_reached runs over fine_outline outlined_point_answer coordinate spline refined_net stored grid refinement exact_refinement rounded floor_quotient control_triangle control_point
answers = (refl, refl)

claimed : DoorSeam → SeamClaimed (squares 54) 2 3 0 1 250 1250 500 2500 answer answer2
unfolding net_beyond bad_byte connected reached all_reached runs
claimed s =
    s (squares 54) 2 3 0 1 two_of (replicate 54 (pos 5)) [] (replicate 4 7) (replicate 4 9) (replicate 136 (pos 5)) []
    (replicate 17 7) (replicate 4 9) refl refl 250 1250 500 2500 (lit≤ tt, lit≤ tt)
    record {
      triangle = triangle_at 0 1 false;
      has = ((lit≤ tt, lit≤ tt), refl);
      lies = (lit≤ tt, lit≤ tt, lit≤ tt);
    }
    (refl, refl)

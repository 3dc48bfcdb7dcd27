-- Demand 3 on the door, of the definitions that `refine_outlined` and `surface_point_outlined` are proved to meet:
-- 'demand 3 holds for each of them, the fine outline being handed on with the net as refining wrote it; it speaks of no
-- place off the door'. `refined_point_outlined_with`, which does both, has it in its contract.
use Rattle.std.specs.Prelude.{◌≡◌, refl, false, List, [], ◌∷◌, ℕ, ℤ, pos, replicate}
use Rattle.std.proofs.Common.{lit≤}
use Rattle.exact.specs.Filling.{over, runs}
use Rattle.net.specs.Net.{triangle_at, squares}
use Rattle.net.specs.Refusals.{net_beyond, output_after}
use Rattle.places.specs.Places.{OnGrid}
use Rattle.graphs.specs.Reaching.{reached, all_reached}
use Rattle.outline.specs.Connected.{connected}
use Rattle.outline.specs.Refusals.{bad_byte}
use Rattle.door.specs.Door.{OnDoor}
use Rattle.subdivision.specs.Refinement.{side_after}
use Rattle.bounds.specs.DemandThree.{fine_edge}
use Rattle.steps.specs.RefinedNet.{refined_net}
use Rattle.refined_points.specs.DemandThree.{Claimed}
use Rattle.fine_outline.specs.FineOutline.{fine_outline}
use Rattle.outlined_points.specs.Answers.{outlined_point_answer}
use Rattle.outlined_refine.specs.Answers.{outlined_refusal_of}

-- what the surface point answers on the output and the fine outline as refining with an outline left them
abbrev pub door_answer : List ℤ → ℕ → ℕ → ℕ → List ℕ → List ℤ → List ℤ → List ℕ → List ℕ → ℕ → ℕ → ℕ × List ℤ
door_answer net w h k outline out scratch fine search p q =
    outlined_point_answer
    (output_after (outlined_refusal_of net w h k outline out scratch fine search) (refined_net net w h k) out)
    (side_after k w) (side_after k h)
    (output_after (outlined_refusal_of net w h k outline out scratch fine search) (fine_outline outline w h k) fine)
    p q

-- of every net, size, k, outline and lent slices that refining with an outline accepts, at every place of the refined
-- grid: on the door, that is in a present starting triangle at edge count 1024·2^k, what demand 3 claims
-- (`refined_door_points`), and at every other place 15 (`off_door_lem`)
abbrev pub RefinedDoorPoints : Type 0
RefinedDoorPoints =
    (net : List ℤ) (w h k : ℕ) (outline : List ℕ) (out scratch : List ℤ) (fine search : List ℕ) →
    outlined_refusal_of net w h k outline out scratch fine search ≡ 0 →
    (p q : ℕ) → OnGrid 1024 (side_after k w) (side_after k h) p q → OnDoor (fine_edge k) outline w h p q →
    Claimed net w h k p q (door_answer net w h k outline out scratch fine search p q)

abbrev pub OffDoor : Type 0
OffDoor =
    (net : List ℤ) (w h k : ℕ) (outline : List ℕ) (out scratch : List ℤ) (fine search : List ℕ) →
    outlined_refusal_of net w h k outline out scratch fine search ≡ 0 →
    (p q : ℕ) → OnGrid 1024 (side_after k w) (side_after k h) p q → (OnDoor (fine_edge k) outline w h p q → ⊥) →
    door_answer net w h k outline out scratch fine search p q ≡ (15, [])

-- worked cases: of the net of 2 by 3 whose numbers are the squares, after one step, which makes 3 by 5, with the down
-- triangle of cell (0, 0) and the up triangle above it, at a place of the second: what the surface point is asked, and
-- what is claimed of its answer
abbrev two_of : List ℕ
two_of = 0 ∷ 1 ∷ 1 ∷ 0 ∷ []

abbrev answer : ℕ × List ℤ
answer = door_answer (squares 54) 2 3 1 two_of (replicate 136 (pos 5)) [] (replicate 17 7) (replicate 4 9) 500 2500

asked :
    answer ≡ outlined_point_answer (over (refined_net (squares 54) 2 3 1) (replicate 136 (pos 5))) 3 5
    (over (fine_outline two_of 2 3 1) (replicate 17 7)) 500 2500
unfolding net_beyond bad_byte connected reached all_reached runs
asked = refl

claimed : RefinedDoorPoints → Claimed (squares 54) 2 3 1 500 2500 answer
unfolding net_beyond bad_byte connected reached all_reached runs
claimed r =
    r (squares 54) 2 3 1 two_of (replicate 136 (pos 5)) [] (replicate 17 7) (replicate 4 9) refl 500 2500
    (lit≤ tt, lit≤ tt)
    record {
      triangle = triangle_at 0 1 false;
      has = ((lit≤ tt, lit≤ tt), refl);
      lies = (lit≤ tt, lit≤ tt, lit≤ tt);
    }

-- The seam on the door: the same place is on the door at both depths, and there both answers are the plain ones.
use mathlib.Core.Path.{sym, ◌∙◌}
use mathlib.Core.List.{List}
use mathlib.Core.Logic.{◌↔◌}
use Prim.Native.Nat.{ℕ, ◌*◌, ◌<◌}
use native.Mathlib.Omega.{arith}
use lib.ListN.{length}
use Rattle.places.proofs.EdgeCounts.{lies_scaled}
use Rattle.door.specs.Door.{OnDoor}
use Rattle.refine.proofs.Refinable.{refine_accepted}
use Rattle.refined_points.proofs.RefinedPoints.{refined_answer}
use Rattle.outlined_refined_points.proofs.DoorPoints.{plain_none, door_plain, refined_door_points}
use Rattle.seam.proofs.Seam.{same_place, other_grid, same_point, seam_claimed}
use Rattle.outlined_seam.specs.DoorSeam.{DoorSeam}

-- at c times the edge count, c times the place lies in the same present triangles
on_door_scaled : (outline : List ℕ) (w h c : ℕ) → 0 < c → (D p q : ℕ) →
    OnDoor D outline w h p q ↔ OnDoor (c * D) outline w h (c * p) (c * q)
on_door_scaled outline w h c some D p q = (
  (λ d. record { triangle = d.triangle; has = d.has; lies = (lies_scaled c some D p q d.triangle).0 d.lies }),
  (λ d. record { triangle = d.triangle; has = d.has; lies = (lies_scaled c some D p q d.triangle).1 d.lies }),
)

pub door_seam : DoorSeam
door_seam net w h k l outline out scratch fine search out2 scratch2 fine2 search2 e e2 p q p2 q2 place on same =
    let none = plain_none net w h k outline out scratch fine search e in
    let none2 = plain_none net w h l outline out2 scratch2 fine2 search2 e2 in
    let d = (refine_accepted net w h k (length out) (length scratch) none).depth in
    let place2 = other_grid w h k l p q p2 q2 (omega (arith, d.wide)) (omega (arith, d.high)) same place in
    let on2 = same_place (λ D p q. OnDoor D outline w h p q) (on_door_scaled outline w h) k l p q p2 q2 same on in
    seam_claimed net w h k l p q p2 q2 same
    (refined_door_points net w h k outline out scratch fine search e p q place on)
    (refined_door_points net w h l outline out2 scratch2 fine2 search2 e2 p2 q2 place2 on2)
    (λ f.
    sym (refined_answer net w h k out scratch none p q place
    ∙ door_plain net w h k outline out scratch fine search e p q place on)
    ∙ same_point net w h k l p q p2 q2 same f
    ∙ refined_answer net w h l out2 scratch2 none2 p2 q2 place2
    ∙ door_plain net w h l outline out2 scratch2 fine2 search2 e2 p2 q2 place2 on2)

-- With all triangles present every place of the grid is on the door: it lies in the triangle that is chosen for it.
use mathlib.Core.Path.{◌≡◌}
use mathlib.Core.Bool.{true, false}
use mathlib.Core.List.{List}
use Prim.Native.Nat.{ℕ, ◌≤◌, ◌<◌}
use native.Mathlib.Omega.{arith}
use Rattle.net.specs.Net.{Triangle, OfNet}
use Rattle.places.specs.Places.{chosen}
use Rattle.places.specs.Refusals.{no_place}
use Rattle.places.proofs.Cells.{on_grid, chosen_lies}
use Rattle.graphs.proofs.WalkLaws.{judged_yes}
use Rattle.outline.specs.Promises.{Full}
use Rattle.outline.proofs.FullOutlines.{full_present}
use Rattle.door.specs.Door.{OnDoor, on_door}
use Rattle.door.proofs.DoorLaws.{on_door_judged}

pub full_on_door : (D : ℕ) (outline : List ℕ) (w h p q : ℕ) → Full outline w h → 0 < D → 2 ≤ w → 2 ≤ h →
    no_place D w h p q ≡ false → on_door D outline w h p q ≡ true
full_on_door D outline w h p q full some wide high e =
    let t : Triangle = chosen D w h p q in
    let o : OfNet w h t = (omega (arith, wide), omega (arith, high)) in
    let on : OnDoor D outline w h p q =
    record {
      triangle = t;
      has = (o, full_present outline w h full t o);
      lies = chosen_lies D w h p q some wide high (on_grid D w h p q e);
    } in
    judged_yes (on_door_judged D outline w h p q wide high) on

-- The fine outline, of the definitions: the statements, each with the name of its proof.
use Rattle.std.specs.Prelude.{List, ℕ, ◌≤◌, ◌^◌, ◌*◌}
use Rattle.net.specs.Net.{Triangle, OfNet}
use Rattle.subdivision.specs.Refinement.{side_after}
use Rattle.outline.specs.Outline.{Present}
use Rattle.outline.specs.Connected.{Connected}
use Rattle.door.specs.Door.{OnDoor}
use Rattle.fine_outline.specs.FineOutline.{LiesWithin, fine_outline}

-- a fine triangle is present exactly when it lies in a present starting triangle (`fine_present`)
abbrev pub FinePresent : Type 0
FinePresent =
    (outline : List ℕ) (w h k : ℕ) → 2 ≤ w → 2 ≤ h → (t : Triangle) → OfNet (side_after k w) (side_after k h) t →
    (Present (fine_outline outline w h k) (side_after k w) (side_after k h) t →
    (u : Triangle) × Present outline w h u × LiesWithin k t u)
    × ((u : Triangle) → Present outline w h u → LiesWithin k t u →
    Present (fine_outline outline w h k) (side_after k w) (side_after k h) t)

-- a place of the refined grid is on the door of the fine outline exactly when it is on that of the starting outline, at
-- edge count 1024·2^k (`fine_door`)
abbrev pub FineDoor : Type 0
FineDoor =
    (outline : List ℕ) (w h k p q : ℕ) → 2 ≤ w → 2 ≤ h →
    (OnDoor 1024 (fine_outline outline w h k) (side_after k w) (side_after k h) p q →
    OnDoor (1024 * 2 ^ k) outline w h p q)
    × (OnDoor (1024 * 2 ^ k) outline w h p q →
    OnDoor 1024 (fine_outline outline w h k) (side_after k w) (side_after k h) p q)

-- the fine outline of a connected one is connected (`fine_connected`)
abbrev pub FineConnected : Type 0
FineConnected =
    (outline : List ℕ) (w h k : ℕ) → 2 ≤ w → 2 ≤ h → Connected outline w h →
    Connected (fine_outline outline w h k) (side_after k w) (side_after k h)

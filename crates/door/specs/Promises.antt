-- Places on the door, of the definitions: the statements, each with the name of its proof.
use Rattle.std.specs.Prelude.{◌≡◌, true, List, ℕ, ◌≤◌}
use Rattle.net.specs.Net.{Triangle}
use Rattle.places.specs.Places.{LiesIn}
use Rattle.graphs.specs.Walks.{Judged}
use Rattle.door.specs.Door.{OnDoor, lies_in, on_door}

-- the truth value is true exactly where the place lies in the triangle (`lies_told`)
abbrev pub LiesTold : Type 0
LiesTold =
    (D p q : ℕ) (t : Triangle) →
    (lies_in D p q t ≡ true → LiesIn D p q t) × (LiesIn D p q t → lies_in D p q t ≡ true)

-- what is computed tells whether a place is on the door (`on_door_judged`)
abbrev pub OnDoorJudged : Type 0
OnDoorJudged =
    (D : ℕ) (outline : List ℕ) (w h p q : ℕ) → 2 ≤ w → 2 ≤ h →
    Judged (OnDoor D outline w h p q) (on_door D outline w h p q)

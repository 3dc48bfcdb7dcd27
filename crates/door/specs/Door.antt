-- Document 02, a: 'A place counts as on the door if some present triangle contains it, edges included', at any edge
-- count D.
use Rattle.std.specs.Prelude.{◌≡◌, refl, Bool, true, false, ◌&&◌, List, [], ◌∷◌, ℕ, ◌+◌, ◌*◌, leb}
use Rattle.net.specs.Net.{Triangle}
use Rattle.places.specs.Places.{LiesIn}
use Rattle.graphs.specs.Reaching.{any_below}
use Rattle.outline.specs.Outline.{triangles, triangle_of, present_at, Present}

pub record OnDoor (D : ℕ) (outline : List ℕ) (w h p q : ℕ) : Type 0 where
  pub triangle : Triangle
  pub has : Present outline w h triangle
  pub lies : LiesIn D p q triangle

-- the same, computed: `on_door_judged` in proofs/DoorLaws.antt

-- document 01's `LiesIn` as a truth value
abbrev pub lies_up : ℕ → ℕ → ℕ → ℕ → ℕ → Bool
lies_up D p q i j = leb (D * i) p && leb (D * j) q && leb (p + q) (D * i + D * j + D)

abbrev pub lies_down : ℕ → ℕ → ℕ → ℕ → ℕ → Bool
lies_down D p q i j = leb p (D * i + D) && leb q (D * j + D) && leb (D * i + D * j + D) (p + q)

abbrev pub lies_by : Bool → ℕ → ℕ → ℕ → ℕ → ℕ → Bool
lies_by false = lies_up
lies_by true = lies_down

abbrev pub lies_in : ℕ → ℕ → ℕ → Triangle → Bool
lies_in D p q t = lies_by t.down D p q t.column t.row

-- one of the present triangles
unfoldable pub on_door : ℕ → List ℕ → ℕ → ℕ → ℕ → ℕ → Bool
on_door D outline w h p q = any_below (triangles w h) (λ n. present_at outline n && lies_in D p q (triangle_of w n))

-- worked cases: place (1100, 700) of a net of 3 by 2 lies in the up triangle of cell (1, 0) alone; place (1024, 300) on
-- an edge lies in that one and in the down triangle of cell (0, 0); at edge count 2048 the same place lies in the up
-- triangle of cell (0, 0)
abbrev on_strip : ℕ → ℕ → ℕ → ℕ → ℕ → ℕ → ℕ → Bool
on_strip D a b c d p q = on_door D (a ∷ b ∷ c ∷ d ∷ []) 3 2 p q

places :
    (on_strip 1024 0 0 1 0 1100 700 ≡ true)
    × (on_strip 1024 1 1 0 1 1100 700 ≡ false)
    × (on_strip 1024 0 0 1 0 700 1100 ≡ false)
    × (on_strip 1024 0 1 0 0 1024 300 ≡ true)
    × (on_strip 1024 0 0 1 0 1024 300 ≡ true)
    × (on_strip 1024 1 0 0 1 1024 300 ≡ false)
    × (on_strip 2048 1 0 0 0 1100 700 ≡ true)
    × (on_strip 2048 0 1 1 1 1100 700 ≡ false)
unfolding on_door
places = (refl, refl, refl, refl, refl, refl, refl, refl)

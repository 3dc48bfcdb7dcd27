-- Bytes past the last triangle do not matter: a place is on the door exactly where it is with the outline cut after its
-- last triangle.
use mathlib.Core.Path.{◌≡◌, ap}
use mathlib.Core.Bool.{Bool, ◌&&◌}
use mathlib.Core.List.{List}
use Prim.Native.Nat.{ℕ}
use Rattle.graphs.proofs.Reaching.{any_same}
use Rattle.outline.specs.Outline.{triangles, triangle_of, present_at}
use Rattle.outline.proofs.CutOutlines.{cut_outline, cut_present_at}
use Rattle.door.specs.Door.{lies_in, on_door}

pub cut_on_door : (D : ℕ) (outline : List ℕ) (w h p q : ℕ) →
    on_door D (cut_outline outline w h) w h p q ≡ on_door D outline w h p q
unfolding on_door
cut_on_door D outline w h p q =
    any_same (triangles w h) (λ n. present_at (cut_outline outline w h) n && lies_in D p q (triangle_of w n))
    (λ n. present_at outline n && lies_in D p q (triangle_of w n))
    (λ n l. ap (λ (b : Bool). b && lies_in D p q (triangle_of w n)) (cut_present_at outline w h n l))

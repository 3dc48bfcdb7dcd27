-- Bytes past the last triangle do not matter: which triangles are present, whether they are connected, and the refusals
-- are those of the outline cut after its last triangle.
use mathlib.Core.Path.{◌≡◌, sym, ap}
use mathlib.Core.Bool.{not, ◌&&◌}
use mathlib.Core.List.{List, [], ◌∷◌, ◌++◌}
use Prim.Native.Nat.{ℕ, ◌<◌}
use native.Mathlib.Nat.{le_refl}
use lib.Dec.{eqb}
use lib.ListN.{take}
use lib.Seq.{take-take, get_or-take}
use Rattle.net.specs.Net.{Triangle, OfNet}
use Rattle.net.specs.Refusals.{bad_size, first_fault}
use Rattle.net.proofs.Beyond.{short_cut}
use Rattle.graphs.proofs.Reaching.{all_reached_same}
use Rattle.outline.specs.Outline.{triangles, byte_of, triangle_of, present_at, present}
use Rattle.outline.specs.Connected.{adjacent, edge_at, connected}
use Rattle.outline.specs.Refusals.{any_above_one, short_outline, bad_byte, disconnected, short_search, check_faults, check_refusal}
use Rattle.outline.proofs.Numbers.{byte_below}

-- outlines that agree on the triangles of the net
pub connected_same : (a b : List ℕ) (w h : ℕ) → ((n : ℕ) → n < triangles w h → present_at a n ≡ present_at b n) →
    connected a w h ≡ connected b w h
unfolding connected
connected_same a b w h e =
    all_reached_same (triangles w h) (present_at a) (present_at b) (edge_at a w) (edge_at b w) e
    (λ m n k l. λ i. e m k i && e n l i && adjacent (triangle_of w m) (triangle_of w n))

abbrev pub cut_outline : List ℕ → ℕ → ℕ → List ℕ
cut_outline outline w h = take (triangles w h) outline

module _ (outline : List ℕ) (w h : ℕ) where
  pub cut_present_at : (n : ℕ) → n < triangles w h → present_at (cut_outline outline w h) n ≡ present_at outline n
  cut_present_at n l = ap (λ (b : ℕ). eqb b 1) (get_or-take (triangles w h) outline n 0 l)

  pub cut_present : (t : Triangle) → OfNet w h t → present (cut_outline outline w h) w t ≡ present outline w t
  cut_present t o = cut_present_at (byte_of w t) (byte_below w h t o)

  pub cut_short_outline : short_outline (cut_outline outline w h) w h ≡ short_outline outline w h
  cut_short_outline = sym (short_cut outline (triangles w h))

  pub cut_bad_byte : bad_byte (cut_outline outline w h) w h ≡ bad_byte outline w h
  unfolding bad_byte
  cut_bad_byte = ap any_above_one (take-take (triangles w h) (triangles w h) outline (le_refl (triangles w h)))

  pub cut_connected : connected (cut_outline outline w h) w h ≡ connected outline w h
  cut_connected = connected_same (cut_outline outline w h) outline w h cut_present_at

  pub cut_disconnected : disconnected (cut_outline outline w h) w h ≡ disconnected outline w h
  cut_disconnected = ap not cut_connected

  pub cut_check_faults : (room : ℕ) → check_faults (cut_outline outline w h) w h room ≡ check_faults outline w h room
  cut_check_faults room =
      λ i. (bad_size w h, 1) ∷ (cut_short_outline i, 2) ∷ (cut_bad_byte i, 13) ∷ (short_search w h room, 5) ∷ []

  pub cut_check_refusal : (room : ℕ) → check_refusal (cut_outline outline w h) w h room ≡ check_refusal outline w h room
  cut_check_refusal room = λ i. first_fault (cut_check_faults room i ++ (cut_disconnected i, 14) ∷ [])

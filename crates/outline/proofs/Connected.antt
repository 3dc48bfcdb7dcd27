-- The computed answer tells whether the present triangles are connected: bytes and triangles correspond, and so do the
-- walks over them.
use mathlib.Core.Path.{◌≡◌, ap, subst, ◌∙◌}
use mathlib.Core.Bool.{true, ◌&&◌, not, and-eq-true_iff, and_comm}
use mathlib.Core.List.{List}
use mathlib.Core.Logic.{inl, inr, ⊎_elim}
use Prim.Native.Nat.{ℕ, ◌<◌}
use Rattle.net.specs.Net.{Triangle}
use Rattle.graphs.specs.Walks.{Walk, start, step, ConnectedBy}
use Rattle.graphs.proofs.Tests.{both}
use Rattle.graphs.proofs.WalkLaws.{walk_along, walk_map, judged_once, judged_for}
use Rattle.graphs.proofs.Reaching.{reaching_judged}
use Rattle.outline.specs.Outline.{triangles, byte_of, triangle_of, present_at, Present}
use Rattle.outline.specs.Connected.{Adjacent, Shared, Connected, adjacent, edge_at, connected}
use Rattle.outline.specs.Promises.{ConnectedJudged, DisconnectedDetermined}
use Rattle.outline.proofs.Numbers.{byte_below, triangle_of_byte, triangle_of_net, byte_of_triangle}
use Rattle.outline.proofs.Edges.{adjacent_yes, adjacent_if, adjacent_symmetric}

-- a walk whose ends are written otherwise
walk_between : {A : Type 0} {Edge : A → A → Type 0} {t t' u u' : A} → t ≡ t' → u ≡ u' → Walk Edge t u → Walk Edge t' u'
walk_between {A} {Edge} {t} {t'} {u} e f w =
    subst (λ (v : A). Walk Edge t' v) f (subst (λ (v : A). Walk Edge v u) e w)

module _ (outline : List ℕ) (w h : ℕ) where
  -- the bytes of present triangles, and the edges between them
  abbrev Inside : ℕ → Type 0
  Inside n = (n < triangles w h) × (present_at outline n ≡ true)

  abbrev Edge : ℕ → ℕ → Type 0
  Edge m n = (m < triangles w h) × (n < triangles w h) × (edge_at outline w m n ≡ true)

  abbrev Has : Triangle → Type 0
  Has = Present outline w h

  edge_symmetric : (m n : ℕ) → edge_at outline w m n ≡ edge_at outline w n m
  edge_symmetric m n =
      λ i. and_comm (present_at outline m) (present_at outline n) i
      && adjacent_symmetric (triangle_of w m) (triangle_of w n) i

  -- from a byte to its triangle, and back
  triangle_present : (n : ℕ) → Inside n → Has (triangle_of w n)
  triangle_present n k =
      (triangle_of_net w h n k.0, ap (present_at outline) (byte_of_triangle w h n k.0) ∙ k.1)

  byte_inside : (t : Triangle) → Has t → Inside (byte_of w t)
  byte_inside t k = (byte_below w h t k.0, k.1)

  triangle_walk : (m n : ℕ) → Edge m n → Walk (Shared Has) (triangle_of w m) (triangle_of w n)
  triangle_walk m n e =
      let t = triangle_of w m in
      let u = triangle_of w n in
      let p = (and-eq-true_iff (present_at outline m && present_at outline n) (adjacent t u)).0 e.2 in
      let q = (and-eq-true_iff (present_at outline m) (present_at outline n)).0 p.0 in
      let a = triangle_present m (e.0, q.0) in
      let b = triangle_present n (e.1, q.1) in
      step t u start
      (⊎_elim (λ (x : Adjacent t u). inl (x, a, b)) (λ (x : Adjacent u t). inr (x, b, a)) (adjacent_yes t u p.1))

  byte_edge : (t u : Triangle) → Shared Has t u → Edge (byte_of w t) (byte_of w u)
  byte_edge t u e =
      let m = byte_of w t in
      let n = byte_of w u in
      let same : adjacent (triangle_of w m) (triangle_of w n) ≡ adjacent t u =
      λ i. adjacent (triangle_of_byte w h t e.1.0 i) (triangle_of_byte w h u e.2.0 i) in
      let present_both = both (present_at outline m) (present_at outline n) e.1.1 e.2.1 in
      let joined = both (present_at outline m && present_at outline n) (adjacent (triangle_of w m) (triangle_of w n))
      present_both (same ∙ adjacent_if t u (inl e.0)) in
      (byte_below w h t e.1.0, byte_below w h u e.2.0, joined)

  triangles_connected : ConnectedBy Inside Edge → Connected outline w h
  triangles_connected c = (
    (triangle_of w c.0.0, triangle_present c.0.0 c.0.1),
    λ t u a b.
        walk_between (triangle_of_byte w h t a.0) (triangle_of_byte w h u b.0)
        (walk_along (triangle_of w) triangle_walk (c.1 (byte_of w t) (byte_of w u) (byte_inside t a) (byte_inside u b))),
  )

  bytes_connected : Connected outline w h → ConnectedBy Inside Edge
  bytes_connected c = (
    (byte_of w c.0.0, byte_inside c.0.0 c.0.1),
    λ m n a b.
        walk_between (byte_of_triangle w h m a.0) (byte_of_triangle w h n b.0)
        (walk_map (byte_of w) byte_edge
        (c.1 (triangle_of w m) (triangle_of w n) (triangle_present m a) (triangle_present n b))),
  )

pub connected_judged : ConnectedJudged
unfolding connected
connected_judged outline w h =
    judged_for (triangles_connected outline w h) (bytes_connected outline w h)
    (reaching_judged (triangles w h) (present_at outline) (edge_at outline w)
    (λ m n k l. edge_symmetric outline w h m n))

pub disconnected_determined : DisconnectedDetermined
disconnected_determined outline w h b j = ap not (judged_once (connected_judged outline w h) j)

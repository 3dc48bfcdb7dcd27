-- The bytes of a fine outline: each is the parent's, so a fine triangle is present exactly where its parent is.
use mathlib.Core.Path.{◌≡◌, refl, sym, ap, subst, ◌∙◌}
use mathlib.Core.List.{List, [], ◌∷◌}
use Prim.Native.Nat.{ℕ, ◌≤◌, ◌<◌}
use native.Mathlib.Omega.{arith}
use lib.Dec.{eqb}
use lib.ListN.{length, get_or}
use Rattle.exact.proofs.FillingLaws.{length_runs, get_or_runs}
use Rattle.net.specs.Net.{Triangle, OfNet}
use Rattle.subdivision.specs.Refinement.{side_after}
use Rattle.outline.specs.Outline.{triangles, byte_of, triangle_of, Present}
use Rattle.outline.proofs.Numbers.{byte_below, triangle_of_byte}
use Rattle.fine_outline.specs.FineOutline.{parent, fine_outline}
use Rattle.fine_outline.specs.Promises.{FinePresent}
use Rattle.fine_outline.proofs.Parents.{parent_holds, parent_only, parent_of_net, child_of_net}

pub fine_length_lem : (outline : List ℕ) (w h k : ℕ) →
    length (fine_outline outline w h k) ≡ triangles (side_after k w) (side_after k h)
unfolding fine_outline
fine_length_lem outline w h k =
    length_runs (triangles (side_after k w) (side_after k h)) 1
    (λ n. get_or outline (byte_of w (parent k (triangle_of (side_after k w) n))) 0 ∷ []) (λ n a. refl)
    ∙ omega arith

-- a byte by its number, and by its triangle
pub fine_byte : (outline : List ℕ) (w h k n : ℕ) → n < triangles (side_after k w) (side_after k h) →
    get_or (fine_outline outline w h k) n 0 ≡ get_or outline (byte_of w (parent k (triangle_of (side_after k w) n))) 0
unfolding fine_outline
fine_byte outline w h k n a =
    ap (λ (m : ℕ). get_or (fine_outline outline w h k) m 0) (omega arith)
    ∙ get_or_runs (triangles (side_after k w) (side_after k h)) 1
    (λ n. get_or outline (byte_of w (parent k (triangle_of (side_after k w) n))) 0 ∷ []) 0 (λ n a. refl) n 0 a (omega arith)

pub fine_triangle : (outline : List ℕ) (w h k : ℕ) (t : Triangle) → OfNet (side_after k w) (side_after k h) t →
    get_or (fine_outline outline w h k) (byte_of (side_after k w) t) 0 ≡ get_or outline (byte_of w (parent k t)) 0
fine_triangle outline w h k t o =
    fine_byte outline w h k (byte_of (side_after k w) t) (byte_below (side_after k w) (side_after k h) t o)
    ∙ ap (λ (u : Triangle). get_or outline (byte_of w (parent k u)) 0)
    (triangle_of_byte (side_after k w) (side_after k h) t o)

module _ (outline : List ℕ) (w h k : ℕ) (wide : 2 ≤ w) (high : 2 ≤ h) where
  abbrev FineAt : Triangle → Type 0
  FineAt = Present (fine_outline outline w h k) (side_after k w) (side_after k h)

  pub parent_present : (t : Triangle) → FineAt t → Present outline w h (parent k t)
  parent_present t p = (
    parent_of_net k w h wide high t p.0,
    ap (λ (b : ℕ). eqb b 1) (sym (fine_triangle outline w h k t p.0)) ∙ p.1,
  )

  pub child_present : (t : Triangle) → Present outline w h (parent k t) → FineAt t
  child_present t p =
      let o = child_of_net k w h wide high t p.0 in
      (o, ap (λ (b : ℕ). eqb b 1) (fine_triangle outline w h k t o) ∙ p.1)

pub fine_present : FinePresent
fine_present outline w h k wide high t o = (
  (λ p. (parent k t, parent_present outline w h k wide high t p, parent_holds k t)),
  λ u p a. child_present outline w h k wide high t (subst (Present outline w h) (parent_only k t u a) p),
)

-- Outlines that agree on the bytes of a net have the same present triangles, the same door and the same fine outline:
-- the outline that was cut after the last triangle, and the lent slice whose front is the outline. And what holds of
-- every byte of an outline holds of every byte of its fine outline.
use mathlib.Core.Path.{◌≡◌, sym, ap, subst, ◌∙◌}
use mathlib.Core.Bool.{false}
use mathlib.Core.List.{List, [], ◌∷◌}
use Prim.Native.Nat.{ℕ, ◌≤◌, ◌<◌}
use native.Mathlib.Omega.{arith}
use lib.Dec.{eqb}
use lib.ListN.{length, get_or, take, drop, get_or-append}
use lib.Seq.{get_or-take, length-take-le, take_all}
use Rattle.exact.specs.Filling.{over}
use Rattle.exact.proofs.FillingLaws.{runs_same}
use Rattle.net.specs.Net.{Triangle, OfNet}
use Rattle.subdivision.specs.Refinement.{side_after}
use Rattle.outline.specs.Outline.{triangles, byte_of, triangle_of, present, Present}
use Rattle.outline.specs.Connected.{Connected}
use Rattle.outline.specs.Refusals.{any_above_one, bad_byte}
use Rattle.outline.proofs.ByteLaws.{none_above, above_none}
use Rattle.outline.proofs.Numbers.{byte_below, triangle_of_net}
use Rattle.door.specs.Door.{OnDoor}
use Rattle.fine_outline.specs.FineOutline.{parent, fine_outline}
use Rattle.fine_outline.proofs.Parents.{parent_of_net}
use Rattle.fine_outline.proofs.FineBytes.{fine_length_lem, fine_byte}
use Rattle.fine_outline.proofs.FineConnected.{connected_as}

-- the same bytes of a net's triangles
abbrev pub SameBytes : ℕ → ℕ → List ℕ → List ℕ → Type 0
SameBytes w h a b = (n : ℕ) → n < triangles w h → get_or a n 0 ≡ get_or b n 0

pub same_back : (w h : ℕ) (a b : List ℕ) → SameBytes w h a b → SameBytes w h b a
same_back w h a b e n l = sym (e n l)

module _ (w h : ℕ) (a b : List ℕ) (e : SameBytes w h a b) where
  pub same_present : (t : Triangle) → OfNet w h t → present a w t ≡ present b w t
  same_present t o = ap (λ (x : ℕ). eqb x 1) (e (byte_of w t) (byte_below w h t o))

  pub present_as : (t : Triangle) → Present a w h t → Present b w h t
  present_as t p = (p.0, sym (same_present t p.0) ∙ p.1)

  pub door_as : (D p q : ℕ) → OnDoor D a w h p q → OnDoor D b w h p q
  door_as D p q o =
      record { triangle = o.triangle; has = present_as o.triangle o.has; lies = o.lies }

pub same_connected : (w h : ℕ) (a b : List ℕ) → SameBytes w h a b → Connected a w h → Connected b w h
same_connected w h a b e = connected_as (present_as w h a b e) (present_as w h b a (same_back w h a b e))

-- the byte of a fine triangle is a byte of the net's triangles
parent_byte : (w h k n : ℕ) → 2 ≤ w → 2 ≤ h → n < triangles (side_after k w) (side_after k h) →
    byte_of w (parent k (triangle_of (side_after k w) n)) < triangles w h
parent_byte w h k n wide high a =
    byte_below w h (parent k (triangle_of (side_after k w) n))
    (parent_of_net k w h wide high (triangle_of (side_after k w) n) (triangle_of_net (side_after k w) (side_after k h) n a))

pub same_fine : (w h k : ℕ) (a b : List ℕ) → 2 ≤ w → 2 ≤ h → SameBytes w h a b →
    fine_outline a w h k ≡ fine_outline b w h k
unfolding fine_outline
same_fine w h k a b wide high e =
    let at : ℕ → ℕ = λ n. byte_of w (parent k (triangle_of (side_after k w) n)) in
    runs_same (triangles (side_after k w) (side_after k h)) (λ n. get_or a (at n) 0 ∷ []) (λ n. get_or b (at n) 0 ∷ [])
    (λ n l. ap (λ (x : ℕ). x ∷ []) (e (at n) (parent_byte w h k n wide high l)))

-- ---- bytes past the last triangle

pub cut_bytes : (w h : ℕ) (outline : List ℕ) → SameBytes w h (take (triangles w h) outline) outline
cut_bytes w h outline n l = get_or-take (triangles w h) outline n 0 l

pub cut_fine : (outline : List ℕ) (w h k : ℕ) → 2 ≤ w → 2 ≤ h →
    fine_outline (take (triangles w h) outline) w h k ≡ fine_outline outline w h k
cut_fine outline w h k wide high =
    same_fine w h k (take (triangles w h) outline) outline wide high (cut_bytes w h outline)

-- ---- the lent slice afterwards

pub over_bytes : (w h : ℕ) (outline rest : List ℕ) → triangles w h ≤ length outline →
    SameBytes w h (over outline rest) outline
unfolding over
over_bytes w h outline rest long n l =
    get_or-append outline (drop (length outline) rest) 0 n (omega (arith, l, long))

module _ (outline rest : List ℕ) (w h k : ℕ) where
  abbrev W : ℕ
  W = side_after k w

  abbrev H : ℕ
  H = side_after k h

  abbrev fine : List ℕ
  fine = fine_outline outline w h k

  pub fine_front : SameBytes W H (over fine rest) fine
  fine_front = over_bytes W H fine rest (omega (arith, fine_length_lem outline w h k))

  fine_back : SameBytes W H fine (over fine rest)
  fine_back = same_back W H (over fine rest) fine fine_front

  pub front_door : (D p q : ℕ) →
      (OnDoor D (over fine rest) W H p q → OnDoor D fine W H p q)
      × (OnDoor D fine W H p q → OnDoor D (over fine rest) W H p q)
  front_door D p q =
      (door_as W H (over fine rest) fine fine_front D p q, door_as W H fine (over fine rest) fine_back D p q)

  pub front_connected :
      (Connected (over fine rest) W H → Connected fine W H) × (Connected fine W H → Connected (over fine rest) W H)
  front_connected =
      (same_connected W H (over fine rest) fine fine_front, same_connected W H fine (over fine rest) fine_back)

-- ---- what holds of every byte

pub fine_all : (P : ℕ → Type 0) (outline : List ℕ) (w h k : ℕ) → 2 ≤ w → 2 ≤ h →
    ((n : ℕ) → n < triangles w h → P (get_or outline n 0)) →
    (n : ℕ) → n < triangles (side_after k w) (side_after k h) → P (get_or (fine_outline outline w h k) n 0)
fine_all P outline w h k wide high all n a =
    subst P (sym (fine_byte outline w h k n a))
    (all (byte_of w (parent k (triangle_of (side_after k w) n))) (parent_byte w h k n wide high a))

pub fine_bytes_lem : (outline : List ℕ) (w h k : ℕ) → 2 ≤ w → 2 ≤ h → bad_byte outline w h ≡ false →
    triangles w h ≤ length outline → bad_byte (fine_outline outline w h k) (side_after k w) (side_after k h) ≡ false
unfolding bad_byte
fine_bytes_lem outline w h k wide high e long =
    let size = fine_length_lem outline w h k in
    let small : (n : ℕ) → n < triangles w h → get_or outline n 0 ≤ 1 = λ n l.
    subst (λ (b : ℕ). b ≤ 1) (cut_bytes w h outline n l)
    (none_above (take (triangles w h) outline) e n (omega (arith, l, length-take-le (triangles w h) outline long))) in
    ap any_above_one
    (take_all (triangles (side_after k w) (side_after k h)) (fine_outline outline w h k) (omega (arith, size)))
    ∙ above_none (fine_outline outline w h k)
    (λ n a. fine_all (λ b. b ≤ 1) outline w h k wide high small n (omega (arith, a, size)))

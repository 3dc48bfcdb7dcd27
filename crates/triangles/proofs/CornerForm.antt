-- The nine control values of a triangle in the order ck, cn, cm of P, of Q and of T, and document 01's points as
-- expressions: in this order up and down triangles and all three corners read the same.
use mathlib.Core.Path.{◌≡◌, refl}
use mathlib.Core.Bool.{Bool, true, false, cond}
use mathlib.Core.List.{List, [], ◌∷◌}
use Prim.Native.Nat.{ℕ, ◌≤◌}
use lib.IntN.{ℤ, pos, nat_abs}
use lib.ListN.{get_or}
use Rattle.exact.specs.WeightedSum.{Within}
use Rattle.exact.proofs.Expressions.{Expr, lit, ◌⊕◌, ◌⊗◌}
use Rattle.net.specs.Net.{Index, one, two, three, rank, entry, Triangle, field, is_next}
use Rattle.places.specs.Places.{Order, o123, o132, o213, o231, o312, o321, corner_p, corner_q, corner_t}
use Rattle.triangles.specs.BezierPoints.{Controls, controls_of, index_k, index_m, index_n}
use Rattle.triangles.specs.Corners.{corner_controls, reordered_controls, values_in}

-- ---- the values

-- ck, cn, cm of P, of Q and of T
module _ {A : Type 0} where
  abbrev pub in_form : Bool → (Index → Index → A) → Order → List A
  in_form down c o =
      c (corner_p o) (index_k down (corner_p o)) ∷ c (corner_p o) (index_n down (corner_p o))
      ∷ c (corner_p o) (index_m down (corner_p o))
      ∷ c (corner_q o) (index_k down (corner_q o)) ∷ c (corner_q o) (index_n down (corner_q o))
      ∷ c (corner_q o) (index_m down (corner_q o))
      ∷ c (corner_t o) (index_k down (corner_t o)) ∷ c (corner_t o) (index_n down (corner_t o))
      ∷ c (corner_t o) (index_m down (corner_t o))
      ∷ []

-- the control triangles of corners p, q and t; three that are these are so arranged
abbrev pub arranged : ℕ → ℕ → ℕ → List (List (List ℤ)) → List (List (List ℤ))
arranged p q t c = get_or c p [] ∷ get_or c q [] ∷ get_or c t [] ∷ []

pub arranged_corners : (c : List (List (List ℤ))) (p q t : ℕ) {x y z : List (List ℤ)} →
    x ≡ get_or c p [] → y ≡ get_or c q [] → z ≡ get_or c t [] → x ∷ y ∷ z ∷ [] ≡ arranged p q t c
arranged_corners c p q t e f g = λ i. e i ∷ f i ∷ g i ∷ []

-- what the reordered and arranged control triangles hold
pub form_values : (down : Bool) (o : Order) (c : List (List (List ℤ))) (x : ℕ) →
    values_in (arranged (rank (corner_p o)) (rank (corner_q o)) (rank (corner_t o)) (reordered_controls down c)) x
    ≡ in_form down (λ P k. entry (get_or c (rank P) []) k x) o
form_values false o123 c x = refl
form_values false o132 c x = refl
form_values false o213 c x = refl
form_values false o231 c x = refl
form_values false o312 c x = refl
form_values false o321 c x = refl
form_values true o123 c x = refl
form_values true o132 c x = refl
form_values true o213 c x = refl
form_values true o231 c x = refl
form_values true o312 c x = refl
form_values true o321 c x = refl

-- and what they hold of a stored net
pub loaded_form : (net : List ℤ) (w : ℕ) (t : Triangle) (down : Bool) (o : Order) (x : ℕ) →
    in_form down (λ P k. entry (get_or (corner_controls net w t) (rank P) []) k x) o
    ≡ in_form down (controls_of (field net w x) t) o
loaded_form net w t down o x = λ i. in_form down (λ P k. at P k i) o
  where
    at : (P k : Index) → entry (get_or (corner_controls net w t) (rank P) []) k x ≡ controls_of (field net w x) t P k
    at one k = refl
    at two k = refl
    at three k = refl

-- they are in range where each control value is
pub form_within : (n : ℕ) (down : Bool) (c : Controls) (o : Order) → ((P k : Index) → nat_abs (c P k) ≤ n) →
    Within n (in_form down c o)
form_within n down c o h =
    (h _ _, (h _ _, (h _ _, (h _ _, (h _ _, (h _ _, (h _ _, (h _ _, (h _ _, tt)))))))))

-- ---- the points as expressions, of whatever stands for the controls

module _ (c : Index → Index → Expr) where
  abbrev pub s : Index → Expr
  s P = lit (pos 12) ⊗ (c P one ⊕ c P two ⊕ c P three)

  abbrev sixth : Bool → Index → Index → Expr
  sixth down P Q =
      cond (is_next P Q)
      (lit (pos 4) ⊗ c P (index_k down P) ⊕ c P (index_m down P) ⊕ c P (index_n down P))
      (lit (pos 3) ⊗ (c P (index_k down P) ⊕ c P (index_n down P)))

  abbrev third : Bool → Index → Expr
  third down P = lit (pos 2) ⊗ c P (index_k down P) ⊕ c P (index_n down P)

  abbrev pub u : Bool → Index → Index → Expr
  u down P Q = lit (pos 6) ⊗ sixth down P Q

  abbrev pub v : Bool → Index → Expr
  v down P = lit (pos 12) ⊗ third down P

  abbrev pub r : Bool → Index → Index → Expr
  r down P Q = lit (pos 3) ⊗ (sixth down P Q ⊕ sixth down Q P)

  abbrev pub m : Bool → Index → Index → Expr
  m down P Q = lit (pos 6) ⊗ (third down P ⊕ third down Q)

  abbrev pub z : Bool → Expr
  z down = lit (pos 4) ⊗ (third down one ⊕ third down two ⊕ third down three)

-- weights times expressions, added up as a weighted sum does
abbrev pub summed : List Expr → List Expr → Expr
summed [] es = lit (pos 0)
summed (w ∷ ws) [] = lit (pos 0)
summed (w ∷ ws) (e ∷ es) = w ⊗ e ⊕ summed ws es

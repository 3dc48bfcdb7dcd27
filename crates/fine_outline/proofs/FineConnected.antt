-- The fine outline of a connected one is connected. One step: each of the four children of a triangle is the middle one
-- or shares an edge with it, and two triangles that share an edge have children that do; so a walk over triangles gives
-- a walk over their middle children. Of presence only this is used: a child is present where its parent is.
use mathlib.Core.Path.{◌≡◌, refl, sym, subst, ◌∙◌}
use mathlib.Core.Bool.{Bool, true, false}
use mathlib.Core.Logic.{◌⊎◌, inl, inr}
use Prim.Native.Nat.{ℕ, zero, suc, ◌+◌, ◌*◌, ◌/◌, ◌%◌}
use native.Mathlib.Omega.{arith}
use lib.Dec.{leb, eqb, lit<}
use borrow.Author.Tests.{eqb-true, eqb-false}
use Rattle.net.specs.Net.{Triangle, triangle_at}
use Rattle.graphs.specs.Walks.{Walk, start, step, ConnectedBy}
use Rattle.graphs.proofs.WalkLaws.{walk_on, walk_back, walk_along, walk_map}
use Rattle.outline.specs.Outline.{in_cell, Present}
use Rattle.outline.specs.Connected.{Adjacent, along_e1, along_e2, along_e3, Shared}
use Rattle.fine_outline.specs.FineOutline.{parent}
use Rattle.fine_outline.specs.Promises.{FineConnected}
use Rattle.fine_outline.proofs.Parents.{Split, parent_parts, parent_none, parent_steps}
use Rattle.fine_outline.proofs.FineBytes.{parent_present, child_present}

-- the children of a triangle of cell (i, j) lie in the cells (2i, 2j), (2i + 1, 2j), ..; the middle child
abbrev half : ℕ → Bool → ℕ
half i false = 2 * i
half i true = 2 * i + 1

abbrev child : ℕ → ℕ → Bool → Bool → Bool → Triangle
child i j a b d = triangle_at (half i a) (half j b) d

abbrev middle_by : Bool → ℕ → ℕ → Triangle
middle_by false i j = child i j false false true
middle_by true i j = child i j true true false

abbrev middle : Triangle → Triangle
middle t = middle_by t.down t.column t.row

-- on which side of the diagonal a child lies
abbrev above : Bool → Bool → Bool → Bool
above a b d = leb 2 (in_cell a + in_cell b + in_cell d)

half_split : (i : ℕ) (a : Bool) → Split 2 (half i a) i (in_cell a)
half_split i false = record { whole = omega arith; below = lit< tt }
half_split i true = record { whole = omega arith; below = lit< tt }

parent_of_child : (i j : ℕ) (a b d : Bool) → parent 1 (child i j a b d) ≡ triangle_at i j (above a b d)
parent_of_child i j a b d = parent_parts d (half_split i a) (half_split j b)

half_of : (n : ℕ) → half (n / 2) (eqb (n % 2) 1) ≡ n
half_of n = by (eqb (n % 2) 1) refl
  where
    by : (a : Bool) → eqb (n % 2) 1 ≡ a → half (n / 2) a ≡ n
    by true e = omega (arith, eqb-true (n % 2) 1 e)
    by false e = let k = eqb-false (n % 2) 1 e in omega arith

-- triangles that share an edge have children that do
record Children (t u : Triangle) : Type 0 where
  first : Triangle
  second : Triangle
  of_first : parent 1 first ≡ t
  of_second : parent 1 second ≡ u
  edge : Adjacent first second

next_half : (i : ℕ) → 2 * i + 1 + 1 ≡ 2 * (i + 1)
next_half i = omega arith

children : {t u : Triangle} → Adjacent t u → Children t u
children (along_e2 i j) =
    record {
      first = child i j true false false;
      second = child i j true false true;
      of_first = parent_of_child i j true false false;
      of_second = parent_of_child i j true false true;
      edge = along_e2 (2 * i + 1) (2 * j);
    }
children (along_e3 i j) =
    record {
      first = child i j true false true;
      second = child (i + 1) j false false false;
      of_first = parent_of_child i j true false true;
      of_second = parent_of_child (i + 1) j false false false;
      edge = subst (λ (m : ℕ). Adjacent (child i j true false true) (triangle_at m (2 * j) false)) (next_half i)
          (along_e3 (2 * i + 1) (2 * j));
    }
children (along_e1 i j) =
    record {
      first = child i j false true true;
      second = child i (j + 1) false false false;
      of_first = parent_of_child i j false true true;
      of_second = parent_of_child i (j + 1) false false false;
      edge = subst (λ (m : ℕ). Adjacent (child i j false true true) (triangle_at (2 * i) m false)) (next_half j)
          (along_e1 (2 * i) (2 * j + 1));
    }

module _ (Has : Triangle → Type 0) where
  abbrev Fine : Triangle → Type 0
  Fine t = Has (parent 1 t)

  -- to a child of the same triangle across one edge
  across : (x y : Triangle) → parent 1 x ≡ parent 1 y → Adjacent x y ⊎ Adjacent y x → Fine x → Walk (Shared Fine) x y
  across x y e (inl a) f = step x y start (inl (a, f, subst Has e f))
  across x y e (inr a) f = step x y start (inr (a, subst Has e f, f))

  -- from a child to the middle child
  to_middle : (i j : ℕ) (a b d : Bool) → Fine (child i j a b d) →
      Walk (Shared Fine) (child i j a b d) (middle_by (above a b d) i j)
  to_middle i j false false true f = start
  to_middle i j false false false f =
      across (child i j false false false) (child i j false false true)
      (parent_of_child i j false false false ∙ sym (parent_of_child i j false false true))
      (inl (along_e2 (2 * i) (2 * j))) f
  to_middle i j true false false f =
      across (child i j true false false) (child i j false false true)
      (parent_of_child i j true false false ∙ sym (parent_of_child i j false false true))
      (inr (along_e3 (2 * i) (2 * j))) f
  to_middle i j false true false f =
      across (child i j false true false) (child i j false false true)
      (parent_of_child i j false true false ∙ sym (parent_of_child i j false false true))
      (inr (along_e1 (2 * i) (2 * j))) f
  to_middle i j true true false f = start
  to_middle i j true true true f =
      across (child i j true true true) (child i j true true false)
      (parent_of_child i j true true true ∙ sym (parent_of_child i j true true false))
      (inr (along_e2 (2 * i + 1) (2 * j + 1))) f
  to_middle i j false true true f =
      across (child i j false true true) (child i j true true false)
      (parent_of_child i j false true true ∙ sym (parent_of_child i j true true false))
      (inl (along_e3 (2 * i) (2 * j + 1))) f
  to_middle i j true false true f =
      across (child i j true false true) (child i j true true false)
      (parent_of_child i j true false true ∙ sym (parent_of_child i j true true false))
      (inl (along_e1 (2 * i + 1) (2 * j))) f

  -- of any triangle
  walk_middle : (t : Triangle) → Fine t → Walk (Shared Fine) t (middle (parent 1 t))
  walk_middle t f =
      let i : ℕ = t.column / 2 in
      let j : ℕ = t.row / 2 in
      let a : Bool = eqb (t.column % 2) 1 in
      let b : Bool = eqb (t.row % 2) 1 in
      let same : child i j a b t.down ≡ t = λ x. triangle_at (half_of t.column x) (half_of t.row x) t.down in
      subst (λ (u : Triangle). Walk (Shared Fine) t (middle u))
      (sym (parent_of_child i j a b t.down) ∙ (λ x. parent 1 (same x)))
      (subst (λ (u : Triangle). Walk (Shared Fine) u (middle_by (above a b t.down) i j)) same
      (to_middle i j a b t.down (subst Fine (sym same) f)))

  walk_over : (t u : Triangle) → Shared Has t u → Walk (Shared Fine) (middle t) (middle u)
  walk_over t u e =
      let c = children e.0 in
      let f : Fine c.first = subst Has (sym c.of_first) e.1 in
      let g : Fine c.second = subst Has (sym c.of_second) e.2 in
      subst (λ (x : Triangle). Walk (Shared Fine) (middle x) (middle u)) c.of_first
      (subst (λ (x : Triangle). Walk (Shared Fine) (middle (parent 1 c.first)) (middle x)) c.of_second
      (walk_on (walk_back (walk_middle c.first f))
      (walk_on (step c.first c.second start (inl (c.edge, f, g))) (walk_middle c.second g))))

  middle_fine_lem : (t : Triangle) → Has t → Fine (middle t)
  middle_fine_lem t f = subst Has (sym (by t.column t.row t.down)) f
    where
      by : (i j : ℕ) (d : Bool) → parent 1 (middle_by d i j) ≡ triangle_at i j d
      by i j false = parent_of_child i j false false true
      by i j true = parent_of_child i j true true false

  pub once_connected : ConnectedBy Has (Shared Has) → ConnectedBy Fine (Shared Fine)
  once_connected c = (
    (middle c.0.0, middle_fine_lem c.0.0 c.0.1),
    λ t u f g. walk_on (walk_middle t f)
        (walk_on (walk_along middle walk_over (c.1 (parent 1 t) (parent 1 u) f g)) (walk_back (walk_middle u g))),
  )

steps_connected : (k : ℕ) (Has : Triangle → Type 0) → ConnectedBy Has (Shared Has) →
    ConnectedBy (λ t. Has (parent k t)) (Shared (λ t. Has (parent k t)))
steps_connected zero Has c =
    subst (λ (H : Triangle → Type 0). ConnectedBy H (Shared H)) (λ i t. Has (sym (parent_none t) i)) c
steps_connected (suc k) Has c =
    subst (λ (H : Triangle → Type 0). ConnectedBy H (Shared H)) (λ i t. Has (sym (parent_steps k t) i))
    (once_connected (λ t. Has (parent k t)) (steps_connected k Has c))

-- a set with the same elements
pub connected_as : {A B : Triangle → Type 0} → ((t : Triangle) → A t → B t) → ((t : Triangle) → B t → A t) →
    ConnectedBy A (Shared A) → ConnectedBy B (Shared B)
connected_as f g c = (
  (c.0.0, f c.0.0 c.0.1),
  λ t u a b. walk_map (λ (x : Triangle). x) (λ x y e. (e.0, f x e.1, f y e.2)) (c.1 t u (g t a) (g u b)),
)

pub fine_connected : FineConnected
fine_connected outline w h k wide high c =
    connected_as (child_present outline w h k wide high) (parent_present outline w h k wide high)
    (steps_connected k (Present outline w h) c)

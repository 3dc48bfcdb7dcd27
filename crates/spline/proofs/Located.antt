-- Places by their shares in a triangle, and the share of every vertex at a place.
use mathlib.Core.Path.{◌≡◌, sym, ◌∙◌}
use mathlib.Core.Bool.{Bool, true, false, cond}
use mathlib.Core.Logic.{◌⊎◌, inl, inr, ⊎_elim}
use Prim.Native.Nat.{ℕ, ◌+◌, ◌-◌, ◌*◌, ◌≤◌, ◌<◌, max}
use native.Mathlib.Nat.{mul-le-mul, le_refl}
use native.Mathlib.Decide.{dec_le}
use native.Mathlib.Omega.{arith}
use Rattle.net.specs.Net.{Index, one, two, three, Vertex, vertex_at, Triangle, triangle_at, corner}
use Rattle.places.specs.Places.{LiesIn, LiesBy}
use Rattle.spline.specs.Shares.{shares_in, apart, vertex_share}
use Rattle.spline.proofs.GridSums.{Away}

-- how far a place is from the column and the row of its cell, by its shares in the up or the down triangle
abbrev pub across_by : Bool → (Index → ℕ) → ℕ
across_by false s = s two
across_by true s = s one + s three

abbrev pub up_by : Bool → (Index → ℕ) → ℕ
up_by false s = s three
up_by true s = s two + s three

-- place (p, q) has the shares s in triangle t
pub record Located (D p q : ℕ) (t : Triangle) (s : Index → ℕ) : Type 0 where
  pub whole : s one + s two + s three ≡ D
  pub across : p ≡ D * t.column + across_by t.down s
  pub up : q ≡ D * t.row + up_by t.down s

-- a place that lies in a triangle has document 01's shares in it
pub located : (D p q : ℕ) (t : Triangle) → LiesIn D p q t → Located D p q t (shares_in D p q t)
located D p q t l = by t.down t.column t.row l
  where
    by : (down : Bool) (i j : ℕ) → LiesBy down D p q i j →
        Located D p q (triangle_at i j down) (shares_in D p q (triangle_at i j down))
    by false i j l =
        record { whole = omega (arith, l.0, l.1, l.2); across = omega (arith, l.0); up = omega (arith, l.1) }
    by true i j l =
        record {
          whole = omega (arith, l.0, l.1, l.2);
          across = omega (arith, l.0, l.1, l.2);
          up = omega (arith, l.0, l.1, l.2);
        }

-- ---- the share of a vertex: from its three distances to what it lacks of D

abbrev Apart : ℕ → ℕ → ℕ → Type 0
Apart m n d = (m ≡ n + d) ⊎ (n ≡ m + d)

distance : (m n d : ℕ) → Apart m n d → apart m n ≡ d
distance m n d h = ⊎_elim (λ (e : m ≡ n + d). omega (arith, e)) (λ (e : n ≡ m + d). omega (arith, e)) h

share_by : (D p q i j x y z : ℕ) → Apart p (D * i) x → Apart q (D * j) y → Apart (p + q) (D * i + D * j) z →
    vertex_share D p q (vertex_at i j) ≡ D - max x (max y z)
share_by D p q i j x y z e f g = λ t. D - max (distance p (D * i) x e t) (max (distance q (D * j) y f t) (distance (p + q) (D * i + D * j) z g t))

-- the vertex of the cell that is no corner of its triangle
abbrev pub fourth : Triangle → Vertex
fourth t = cond t.down (vertex_at t.column t.row) (vertex_at (t.column + 1) (t.row + 1))

module _ {D p q : ℕ} {i j : ℕ} {s : Index → ℕ} where
  pub corner_share : (down : Bool) → Located D p q (triangle_at i j down) s → (P : Index) →
      vertex_share D p q (corner (triangle_at i j down) P) ≡ s P
  corner_share false l one =
      share_by D p q i j (s two) (s three) (s two + s three)
      (inl l.across) (inl l.up) (inl (omega (arith, l.across, l.up))) ∙ omega (arith, l.whole)
  corner_share false l two =
      share_by D p q (i + 1) j (s one + s three) (s three) (s one)
      (inr (omega (arith, l.across, l.whole))) (inl l.up) (inr (omega (arith, l.across, l.up, l.whole)))
      ∙ omega (arith, l.whole)
  corner_share false l three =
      share_by D p q i (j + 1) (s two) (s one + s two) (s one)
      (inl l.across) (inr (omega (arith, l.up, l.whole))) (inr (omega (arith, l.across, l.up, l.whole)))
      ∙ omega (arith, l.whole)
  corner_share true l one =
      share_by D p q (i + 1) j (s two) (s two + s three) (s three)
      (inr (omega (arith, l.across, l.whole))) (inl l.up) (inl (omega (arith, l.across, l.up, l.whole)))
      ∙ omega (arith, l.whole)
  corner_share true l two =
      share_by D p q i (j + 1) (s one + s three) (s one) (s three)
      (inl l.across) (inr (omega (arith, l.up, l.whole))) (inl (omega (arith, l.across, l.up, l.whole)))
      ∙ omega (arith, l.whole)
  corner_share true l three =
      share_by D p q (i + 1) (j + 1) (s two) (s one) (s one + s two)
      (inr (omega (arith, l.across, l.whole))) (inr (omega (arith, l.up, l.whole)))
      (inr (omega (arith, l.across, l.up, l.whole)))
      ∙ omega (arith, l.whole)

  pub fourth_share : (down : Bool) → Located D p q (triangle_at i j down) s →
      vertex_share D p q (fourth (triangle_at i j down)) ≡ 0
  fourth_share false l =
      share_by D p q (i + 1) (j + 1) (s one + s three) (s one + s two) (s one + s one + s two + s three)
      (inr (omega (arith, l.across, l.whole))) (inr (omega (arith, l.up, l.whole)))
      (inr (omega (arith, l.across, l.up, l.whole)))
      ∙ omega (arith, l.whole)
  fourth_share true l =
      share_by D p q i j (s one + s three) (s two + s three) (s one + s two + s three + s three)
      (inl l.across) (inl l.up) (inl (omega (arith, l.across, l.up, l.whole))) ∙ omega (arith, l.whole)

-- a vertex away from the columns or the rows of the cell has no share
apart_away : (D p i u : ℕ) → D * i ≤ p → p ≤ D * i + D → Away i u → D ≤ apart p (D * u)
apart_away D p i u a b h = ⊎_elim before after h
  where
    before : u < i → D ≤ apart p (D * u)
    before l = omega (arith, a, mul-le-mul (le_refl D) l)

    after : i + 1 < u → D ≤ apart p (D * u)
    after l = omega (arith, b, mul-le-mul (le_refl D) l)

none_left : (D x y z : ℕ) → (D ≤ x) ⊎ (D ≤ y) → D - max x (max y z) ≡ 0
none_left D x y z h = ⊎_elim (λ (k : D ≤ x). omega (arith, k)) (λ (k : D ≤ y). omega (arith, k)) h

module _ {D p q : ℕ} {t : Triangle} {s : Index → ℕ} (l : Located D p q t s) where
  pub in_cell_lem : (D * t.column ≤ p) × (p ≤ D * t.column + D) × (D * t.row ≤ q) × (q ≤ D * t.row + D)
  in_cell_lem = by t.down l.across l.up
    where
      by : (down : Bool) → p ≡ D * t.column + across_by down s → q ≡ D * t.row + up_by down s →
          (D * t.column ≤ p) × (p ≤ D * t.column + D) × (D * t.row ≤ q) × (q ≤ D * t.row + D)
      by false a b = (omega (arith, a), omega (arith, a, l.whole), omega (arith, b), omega (arith, b, l.whole))
      by true a b = (omega (arith, a), omega (arith, a, l.whole), omega (arith, b), omega (arith, b, l.whole))

  pub no_share : (u v : ℕ) → Away t.column u ⊎ Away t.row v → vertex_share D p q (vertex_at u v) ≡ 0
  no_share u v h =
      none_left D (apart p (D * u)) (apart q (D * v)) (apart (p + q) (D * u + D * v))
      (⊎_elim
      (λ (k : Away t.column u). inl (apart_away D p t.column u in_cell_lem.0 in_cell_lem.1 k))
      (λ (k : Away t.row v). inr (apart_away D q t.row v in_cell_lem.2 in_cell_lem.3 k))
      h)

-- ---- the share of a vertex is that of the corner in each triangle that the place lies in, and 0 where it is no corner

pub share_of_corner : (D p q : ℕ) (t : Triangle) → LiesIn D p q t → (P : Index) →
    vertex_share D p q (corner t P) ≡ shares_in D p q t P
share_of_corner D p q t l P = corner_share t.down (located D p q t l) P

-- the first column of a cell, the second, or neither; and so for rows
abbrev Side : ℕ → ℕ → Type 0
Side i u = (i ≡ u) ⊎ ((i + 1 ≡ u) ⊎ Away i u)

side : (i u : ℕ) → Side i u
side i u = go (dec_le u i) (dec_le i u) (dec_le u (i + 1))
  where
    go : Dec (u ≤ i) → Dec (i ≤ u) → Dec (u ≤ i + 1) → Side i u
    go (yes a) (yes b) c = inl (omega (arith, a, b))
    go (yes a) (no b) c = inr (inr (inl (omega (arith, a, b))))
    go (no a) b (yes c) = inr (inl (omega (arith, a, c)))
    go (no a) b (no c) = inr (inr (inr (omega (arith, a, c))))

pub no_share_elsewhere : (D p q : ℕ) (t : Triangle) → LiesIn D p q t → (u v : ℕ) →
    ((P : Index) → corner t P ≡ vertex_at u v → ⊥) →
    vertex_share D p q (vertex_at u v) ≡ 0
no_share_elsewhere D p q t l u v f = by t.down t.column t.row l f (side t.column u) (side t.row v)
  where
    by : (down : Bool) (i j : ℕ) → LiesBy down D p q i j →
        ((P : Index) → corner (triangle_at i j down) P ≡ vertex_at u v → ⊥) →
        Side i u → Side j v → vertex_share D p q (vertex_at u v) ≡ 0
    by down i j l f (inr (inr a)) y = no_share (located D p q (triangle_at i j down) l) u v (inl a)
    by down i j l f (inl a) (inr (inr b)) = no_share (located D p q (triangle_at i j down) l) u v (inr b)
    by down i j l f (inr (inl a)) (inr (inr b)) = no_share (located D p q (triangle_at i j down) l) u v (inr b)
    by false i j l f (inl a) (inl b) = absurd (f one (λ x. vertex_at (a x) (b x)))
    by false i j l f (inr (inl a)) (inl b) = absurd (f two (λ x. vertex_at (a x) (b x)))
    by false i j l f (inl a) (inr (inl b)) = absurd (f three (λ x. vertex_at (a x) (b x)))
    by false i j l f (inr (inl a)) (inr (inl b)) =
        (λ x. vertex_share D p q (vertex_at (sym a x) (sym b x)))
        ∙ fourth_share false (located D p q (triangle_at i j false) l)
    by true i j l f (inr (inl a)) (inl b) = absurd (f one (λ x. vertex_at (a x) (b x)))
    by true i j l f (inl a) (inr (inl b)) = absurd (f two (λ x. vertex_at (a x) (b x)))
    by true i j l f (inr (inl a)) (inr (inl b)) = absurd (f three (λ x. vertex_at (a x) (b x)))
    by true i j l f (inl a) (inl b) =
        (λ x. vertex_share D p q (vertex_at (sym a x) (sym b x)))
        ∙ fourth_share true (located D p q (triangle_at i j true) l)

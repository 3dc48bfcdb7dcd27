-- The four triangles of the refined grid in a triangle: which old corners their corners come from, and where a place of
-- the old triangle lies in them.
use mathlib.Core.Path.{◌≡◌, refl}
use mathlib.Core.Bool.{Bool, true, false, cond, not}
use Prim.Native.Nat.{ℕ, ◌+◌, ◌-◌, ◌*◌, ◌/◌, ◌≤◌}
use native.Mathlib.Decide.{dec_le}
use native.Mathlib.Omega.{arith}
use borrow.Author.Tests.{lt-ltb, le-ltb, ltb-true, ltb-false}
use Rattle.exact.specs.Rounding.{rounded}
use Rattle.net.specs.Net.{Index, one, two, three, Vertex, vertex_at, Triangle, triangle_at, OfNet, corner, Field, is_next, same}
use Rattle.triangles.specs.BezierPoints.{index_k}
use Rattle.triangles.proofs.Corners.{back, stays}
use Rattle.spline.proofs.Located.{Located, across_by, up_by}
use Rattle.subdivision.specs.Refinement.{Kind, kept, along, is_odd, kind_by, kind_of, begin_by, end_by, begin_of, end_of, refined_side, kept_control, rule_by, exact_refinement, refinement}
use Rattle.subdivision.specs.Promises.{ComesFrom, VerticesComeFrom}

-- ---- where refined vertices come from

pub comes_from : VerticesComeFrom
comes_from v = by (is_odd v.column) (is_odd v.row) refl refl
  where
    -- a column or a row that is even, and one that is odd
    twice : (n : ℕ) → is_odd n ≡ false → n ≡ 2 * (n / 2)
    twice n e = omega (arith, ltb-false (2 * (n / 2)) n e)

    twice_and_one : (n : ℕ) → is_odd n ≡ true → n ≡ 2 * (n / 2) + 1
    twice_and_one n e = omega (arith, ltb-true (2 * (n / 2)) n e)

    by : (a b : Bool) → is_odd v.column ≡ a → is_odd v.row ≡ b →
        ComesFrom v (kind_by a b) (begin_by (kind_by a b) (v.column / 2) (v.row / 2))
        (end_by (kind_by a b) (v.column / 2) (v.row / 2))
    by false false e f = (twice v.column e, twice v.row f)
    by true false e f =
        (omega (arith, twice_and_one v.column e), omega (arith, twice v.row f), refl, stays (v.row / 2))
    by true true e f = (
      omega (arith, twice_and_one v.column e),
      omega (arith, twice_and_one v.row f),
      back
          (v.column / 2),
      refl,
    )
    by false true e f = (
      omega (arith, twice v.column e),
      omega (arith, twice_and_one v.row f),
      stays (v.column / 2),
      back
          (v.row / 2),
    )

-- the refined values at a kept vertex, from the old vertex alone
pub kept_refined : (F : Field) (i j : ℕ) (k : Index) →
    refinement F (vertex_at (2 * i) (2 * j)) k ≡ rounded (kept_control (F (vertex_at i j)) k) 12
unfolding refinement exact_refinement
kept_refined F i j k =
    let e = even_side_lem i in
    let f = even_side_lem j in
    λ t.
    let kind = kind_by (e.0 t) (f.0 t) in
    rounded (rule_by kind (F (begin_by kind (e.1 t) (f.1 t))) (F (end_by kind (e.1 t) (f.1 t))) k) 12
  where
    -- an even column or row, halved
    even_side_lem : (n : ℕ) → (is_odd (2 * n) ≡ false) × (2 * n / 2 ≡ n)
    even_side_lem n = (le-ltb (2 * (2 * n / 2)) (2 * n) (omega arith), omega arith)

-- ---- the children of a triangle

-- the child at a corner, of the triangle's own kind, and the one in the middle, of the other kind
pub data Child : Type 0 where
  at : Index → Child
  middle : Child

abbrev pub child_down : Bool → Child → Bool
child_down down (at X) = down
child_down down middle = not down

abbrev child_by : Bool → Child → ℕ → ℕ → Triangle
child_by false (at one) i j = triangle_at (2 * i) (2 * j) false
child_by false (at two) i j = triangle_at (2 * i + 1) (2 * j) false
child_by false (at three) i j = triangle_at (2 * i) (2 * j + 1) false
child_by false middle i j = triangle_at (2 * i) (2 * j) true
child_by true (at one) i j = triangle_at (2 * i + 1) (2 * j) true
child_by true (at two) i j = triangle_at (2 * i) (2 * j + 1) true
child_by true (at three) i j = triangle_at (2 * i + 1) (2 * j + 1) true
child_by true middle i j = triangle_at (2 * i + 1) (2 * j + 1) false

abbrev pub child : Triangle → Child → Triangle
child t c = child_by t.down c t.column t.row

pub child_of_net : (w h : ℕ) (t : Triangle) (c : Child) → OfNet w h t →
    OfNet (refined_side w) (refined_side h) (child t c)
child_of_net w h t c g = by t.down c
  where
    by : (down : Bool) (c : Child) → OfNet (refined_side w) (refined_side h) (child_by down c t.column t.row)
    by false (at one) = (omega (arith, g.0), omega (arith, g.1))
    by false (at two) = (omega (arith, g.0), omega (arith, g.1))
    by false (at three) = (omega (arith, g.0), omega (arith, g.1))
    by false middle = (omega (arith, g.0), omega (arith, g.1))
    by true (at one) = (omega (arith, g.0), omega (arith, g.1))
    by true (at two) = (omega (arith, g.0), omega (arith, g.1))
    by true (at three) = (omega (arith, g.0), omega (arith, g.1))
    by true middle = (omega (arith, g.0), omega (arith, g.1))

-- ---- where its corners come from

-- the two old corners that corner P of a child halves; where they are the same one, it is kept
abbrev pub source : Child → Index → Index × Index
source (at X) P = (X, P)
source middle one = (one, two)
source middle two = (one, three)
source middle three = (two, three)

-- the kind of the vertex between corners X and Y, and which of them its edge begins and ends at: from a corner to the
-- next one, along ek
abbrev pub kind_between : Bool → Index → Index → Kind
kind_between down X Y = cond (same X Y) kept (along (index_k down (cond (is_next X Y) X Y)))

abbrev pub begin_between : Index → Index → Index
begin_between X Y = cond (is_next Y X) Y X

abbrev pub end_between : Index → Index → Index
end_between X Y = cond (is_next Y X) X Y

-- the end as a vertex; beside a kept vertex it is no corner
abbrev pub end_vertex : Triangle → Index → Index → Vertex
end_vertex t X Y = cond (same X Y) (vertex_at ((corner t X).column + 1) (corner t X).row) (corner t (end_between X Y))

-- columns and rows halved
record Halved (n : ℕ) (odd : Bool) (half : ℕ) : Type 0 where
  parity : is_odd n ≡ odd
  half_of : n / 2 ≡ half

even : (i : ℕ) → Halved (2 * i) false i
even i = record { parity = le-ltb (2 * (2 * i / 2)) (2 * i) (omega arith); half_of = omega arith }

odd : (i : ℕ) → Halved (2 * i + 1) true i
odd i = record { parity = lt-ltb (2 * ((2 * i + 1) / 2)) (2 * i + 1) (omega arith); half_of = omega arith }

even_next : (i : ℕ) → Halved (2 * i + 1 + 1) false (i + 1)
even_next i =
    record { parity = le-ltb (2 * ((2 * i + 1 + 1) / 2)) (2 * i + 1 + 1) (omega arith); half_of = omega arith }

-- what a refined vertex comes from
pub record HalvedFrom (v : Vertex) (k : Kind) (A B : Vertex) : Type 0 where
  pub kind : kind_of v ≡ k
  pub begins : begin_of v ≡ A
  pub ends : end_of v ≡ B

halved_from : {m n i j : ℕ} {a b : Bool} → Halved m a i → Halved n b j →
    HalvedFrom (vertex_at m n) (kind_by a b) (begin_by (kind_by a b) i j) (end_by (kind_by a b) i j)
halved_from h k =
    record {
      kind = λ t. kind_by (h.parity t) (k.parity t);
      begins = λ t. begin_by (kind_by (h.parity t) (k.parity t)) (h.half_of t) (k.half_of t);
      ends = λ t. end_by (kind_by (h.parity t) (k.parity t)) (h.half_of t) (k.half_of t);
    }

pub child_corner : (t : Triangle) (c : Child) (P : Index) →
    (let X = (source c P).0 in
    let Y = (source c P).1 in
    HalvedFrom (corner (child t c) P) (kind_between t.down X Y) (corner t (begin_between X Y)) (end_vertex t X Y))
child_corner t c P = by t.down t.column t.row c P
  where
    by : (down : Bool) (i j : ℕ) (c : Child) (P : Index) →
        (let X = (source c P).0 in
        let Y = (source c P).1 in
        let t = triangle_at i j down in
        HalvedFrom (corner (child t c) P) (kind_between down X Y) (corner t (begin_between X Y)) (end_vertex t X Y))
    by false i j (at one) one = halved_from (even i) (even j)
    by false i j (at one) two = halved_from (odd i) (even j)
    by false i j (at one) three = halved_from (even i) (odd j)
    by false i j (at two) one = halved_from (odd i) (even j)
    by false i j (at two) two = halved_from (even_next i) (even j)
    by false i j (at two) three = halved_from (odd i) (odd j)
    by false i j (at three) one = halved_from (even i) (odd j)
    by false i j (at three) two = halved_from (odd i) (odd j)
    by false i j (at three) three = halved_from (even i) (even_next j)
    by false i j middle one = halved_from (odd i) (even j)
    by false i j middle two = halved_from (even i) (odd j)
    by false i j middle three = halved_from (odd i) (odd j)
    by true i j (at one) one = halved_from (even_next i) (even j)
    by true i j (at one) two = halved_from (odd i) (odd j)
    by true i j (at one) three = halved_from (even_next i) (odd j)
    by true i j (at two) one = halved_from (odd i) (odd j)
    by true i j (at two) two = halved_from (even i) (even_next j)
    by true i j (at two) three = halved_from (odd i) (even_next j)
    by true i j (at three) one = halved_from (even_next i) (odd j)
    by true i j (at three) two = halved_from (odd i) (even_next j)
    by true i j (at three) three = halved_from (even_next i) (even_next j)
    by true i j middle one = halved_from (odd i) (odd j)
    by true i j middle two = halved_from (even_next i) (odd j)
    by true i j middle three = halved_from (odd i) (even_next j)

-- ---- shares

-- the shares of the triangle at edge count 2D, from those of a child at edge count D
abbrev pub shares_from : Child → (Index → ℕ) → Index → ℕ
shares_from (at X) s P = cond (same P X) (s P + (s one + s two + s three)) (s P)
shares_from middle s one = s one + s two
shares_from middle s two = s one + s three
shares_from middle s three = s two + s three

-- a place of a triangle has shares in one of its children
pub record InChild (D p q : ℕ) (t : Triangle) (S : Index → ℕ) : Type 0 where
  pub which : Child
  pub shares : Index → ℕ
  pub lies : Located D p q (child t which) shares
  pub from : (P : Index) → shares_from which shares P ≡ S P

-- at corner X, where its share is at least D, and in the middle, where no share is
abbrev lowered : ℕ → (Index → ℕ) → Index → Index → ℕ
lowered D S X P = cond (same P X) (S P - D) (S P)

abbrev opposite : ℕ → (Index → ℕ) → Index → ℕ
opposite D S one = D - S three
opposite D S two = D - S two
opposite D S three = D - S one

abbrev shares_of : ℕ → (Index → ℕ) → Child → Index → ℕ
shares_of D S (at X) = lowered D S X
shares_of D S middle = opposite D S

abbrev HasPlace : ℕ → (Index → ℕ) → Child → Type 0
HasPlace D S (at X) = D ≤ S X
HasPlace D S middle = (S one ≤ D) × (S two ≤ D) × (S three ≤ D)

module _ (D p q : ℕ) (S : Index → ℕ) (e : S one + S two + S three ≡ 2 * D) where
  whole_of : (c : Child) → HasPlace D S c → shares_of D S c one + shares_of D S c two + shares_of D S c three ≡ D
  whole_of (at one) f = omega (arith, e, f)
  whole_of (at two) f = omega (arith, e, f)
  whole_of (at three) f = omega (arith, e, f)
  whole_of middle f = omega (arith, e, f.0, f.1, f.2)

  shares_from_lem : (c : Child) → HasPlace D S c → (P : Index) → shares_from c (shares_of D S c) P ≡ S P
  shares_from_lem (at one) f one = omega (arith, e, f)
  shares_from_lem (at one) f two = refl
  shares_from_lem (at one) f three = refl
  shares_from_lem (at two) f one = refl
  shares_from_lem (at two) f two = omega (arith, e, f)
  shares_from_lem (at two) f three = refl
  shares_from_lem (at three) f one = refl
  shares_from_lem (at three) f two = refl
  shares_from_lem (at three) f three = omega (arith, e, f)
  shares_from_lem middle f one = omega (arith, e, f.0, f.1, f.2)
  shares_from_lem middle f two = omega (arith, e, f.0, f.1, f.2)
  shares_from_lem middle f three = omega (arith, e, f.0, f.1, f.2)

  module _ (i j : ℕ) where
    across_of : (down : Bool) (c : Child) → HasPlace D S c → p ≡ 2 * D * i + across_by down S →
        p ≡ D * (child_by down c i j).column + across_by (child_by down c i j).down (shares_of D S c)
    across_of false (at one) f a = omega (arith, a)
    across_of false (at two) f a = omega (arith, a, f)
    across_of false (at three) f a = omega (arith, a)
    across_of false middle f a = omega (arith, a, e, f.0, f.1, f.2)
    across_of true (at one) f a = omega (arith, a, f)
    across_of true (at two) f a = omega (arith, a)
    across_of true (at three) f a = omega (arith, a, f)
    across_of true middle f a = omega (arith, a, e, f.0, f.1, f.2)

    up_of : (down : Bool) (c : Child) → HasPlace D S c → q ≡ 2 * D * j + up_by down S →
        q ≡ D * (child_by down c i j).row + up_by (child_by down c i j).down (shares_of D S c)
    up_of false (at one) f a = omega (arith, a)
    up_of false (at two) f a = omega (arith, a)
    up_of false (at three) f a = omega (arith, a, f)
    up_of false middle f a = omega (arith, a, e, f.0, f.1, f.2)
    up_of true (at one) f a = omega (arith, a)
    up_of true (at two) f a = omega (arith, a, f)
    up_of true (at three) f a = omega (arith, a, f)
    up_of true middle f a = omega (arith, a, e, f.0, f.1, f.2)

pub in_child : (D p q : ℕ) (t : Triangle) (S : Index → ℕ) → Located (2 * D) p q t S → InChild D p q t S
in_child D p q t S l = go (dec_le D (S one)) (dec_le D (S two)) (dec_le D (S three))
  where
    here : (c : Child) → HasPlace D S c → InChild D p q t S
    here c f =
        record {
          which = c;
          shares = shares_of D S c;
          lies =
              record {
                whole = whole_of D p q S l.whole c f;
                across = across_of D p q S l.whole t.column t.row t.down c f l.across;
                up = up_of D p q S l.whole t.column t.row t.down c f l.up;
              };
          from = shares_from_lem D p q S l.whole c f;
        }

    go : Dec (D ≤ S one) → Dec (D ≤ S two) → Dec (D ≤ S three) → InChild D p q t S
    go (yes f) y z = here (at one) f
    go (no f) (yes g) z = here (at two) g
    go (no f) (no g) (yes k) = here (at three) k
    go (no f) (no g) (no k) = here middle (omega (arith, f), omega (arith, g), omega (arith, k))

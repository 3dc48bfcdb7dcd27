-- Adjacent triangles: the test tells them, and they are the ones that have two corners in common.
use mathlib.Core.Path.{◌≡◌, refl, sym, ap, subst, ◌∙◌}
use mathlib.Core.Bool.{Bool, true, false, ◌&&◌, ◌||◌, and-eq-true_iff, true≢false, false≢true}
use mathlib.Core.Logic.{◌⊎◌, inl, inr, ⊎_elim}
use Prim.Native.Nat.{ℕ, zero, suc, ◌+◌, ◌-◌, ◌*◌, ◌≤◌, ◌<◌}
use native.Mathlib.Omega.{arith}
use native.Mathlib.Decide.{dec_lt}
use lib.Dec.{eqb, lit≤}
use borrow.Author.Tests.{eqb-true, eq-eqb}
use Rattle.net.specs.Net.{Index, one, two, three, rank, Vertex, Triangle, triangle_at, corner_of, corner}
use Rattle.graphs.proofs.Tests.{or_cases, or_first, or_second, both}
use Rattle.outline.specs.Outline.{in_cell}
use Rattle.outline.specs.Connected.{Adjacent, along_e1, along_e2, along_e3, meets, adjacent_by, adjacent}
use Rattle.outline.specs.Promises.{CommonCorners, SharesEdge}

abbrev EitherWay : Triangle → Triangle → Type 0
EitherWay t u = Adjacent t u ⊎ Adjacent u t

other_way : {t u : Triangle} → EitherWay t u → EitherWay u t
other_way (inl a) = inr a
other_way (inr a) = inl a

-- ---- the test

both_equal : {P : Type 0} (a b c d : ℕ) → (a ≡ b → c ≡ d → P) → (eqb a b && eqb c d) ≡ true → P
both_equal a b c d f e =
    let p = (and-eq-true_iff (eqb a b) (eqb c d)).0 e in
    f (eqb-true a b p.0) (eqb-true c d p.1)

equal_both : (a b : ℕ) → (eqb a a && eqb b b) ≡ true
equal_both a b = both (eqb a a) (eqb b b) (eq-eqb a a refl) (eq-eqb b b refl)

-- the down triangle of cell (i, j) and the up triangle of cell (k, l): the three edges
module _ (i j k l : ℕ) where
  abbrev e2 : Bool
  e2 = eqb k i && eqb l j

  abbrev e3 : Bool
  e3 = eqb k (i + 1) && eqb l j

  abbrev e1 : Bool
  e1 = eqb k i && eqb l (j + 1)

  -- from the cell at which an edge is known
  moved : {m n : ℕ} → EitherWay (triangle_at i j true) (triangle_at m n false) → k ≡ m → l ≡ n →
      EitherWay (triangle_at i j true) (triangle_at k l false)
  moved a e f =
      subst (λ (t : Triangle). EitherWay (triangle_at i j true) t) (λ x. triangle_at (sym e x) (sym f x) false) a

  meets_yes : meets i j k l ≡ true → EitherWay (triangle_at i j true) (triangle_at k l false)
  meets_yes a =
      ⊎_elim
      (λ (b : (e2 || e3) ≡ true).
      ⊎_elim (both_equal k i l j (moved (inr (along_e2 i j)))) (both_equal k (i + 1) l j (moved (inl (along_e3 i j))))
      (or_cases e2 e3 b))
      (both_equal k i l (j + 1) (moved (inl (along_e1 i j))))
      (or_cases (e2 || e3) e1 a)

  meets_e2 : e2 ≡ true → meets i j k l ≡ true
  meets_e2 a = or_first (e2 || e3) e1 (or_first e2 e3 a)

  meets_e3 : e3 ≡ true → meets i j k l ≡ true
  meets_e3 a = or_first (e2 || e3) e1 (or_second e2 e3 a)

  meets_e1 : e1 ≡ true → meets i j k l ≡ true
  meets_e1 a = or_second (e2 || e3) e1 a

by_test : (d e : Bool) (i j k l : ℕ) → adjacent_by d e i j k l ≡ true → EitherWay (triangle_at i j d) (triangle_at k l e)
by_test false false i j k l a = absurd (false≢true a)
by_test true true i j k l a = absurd (false≢true a)
by_test true false i j k l a = meets_yes i j k l a
by_test false true i j k l a = other_way (meets_yes k l i j a)

pub adjacent_yes : (t u : Triangle) → adjacent t u ≡ true → Adjacent t u ⊎ Adjacent u t
adjacent_yes t u = by_test t.down u.down t.column t.row u.column u.row

pub adjacent_symmetric : (t u : Triangle) → adjacent t u ≡ adjacent u t
adjacent_symmetric t u = by t.down u.down t.column t.row u.column u.row
  where
    by : (d e : Bool) (i j k l : ℕ) → adjacent_by d e i j k l ≡ adjacent_by e d k l i j
    by false false i j k l = refl
    by true true i j k l = refl
    by true false i j k l = refl
    by false true i j k l = refl

one_way : {t u : Triangle} → Adjacent t u → adjacent t u ≡ true
one_way (along_e2 i j) = meets_e2 i j i j (equal_both i j)
one_way (along_e3 i j) = meets_e3 i j (i + 1) j (equal_both (i + 1) j)
one_way (along_e1 i j) = meets_e1 i j i (j + 1) (equal_both i (j + 1))

pub adjacent_if : (t u : Triangle) → Adjacent t u ⊎ Adjacent u t → adjacent t u ≡ true
adjacent_if t u = ⊎_elim one_way (λ a. adjacent_symmetric t u ∙ one_way a)

-- ---- corners in common

common : {t u : Triangle} (P Q P' Q' : Index) → (rank P ≡ rank Q → ⊥) → corner t P ≡ corner u P' →
    corner t Q ≡ corner u Q' → CommonCorners t u
common P Q P' Q' d e f =
    record {
      first = P;
      second = Q;
      different = λ a. d (ap rank a);
      first_other = P';
      second_other = Q';
      first_common = e;
      second_common = f;
    }

adjacent_common : {t u : Triangle} → Adjacent t u → CommonCorners t u
adjacent_common (along_e2 i j) = common two three one two (λ e. omega (arith, e)) refl refl
adjacent_common (along_e3 i j) = common one three one three (λ e. omega (arith, e)) refl refl
adjacent_common (along_e1 i j) = common two three one two (λ e. omega (arith, e)) refl refl

adjacent_common_back : {t u : Triangle} → Adjacent t u → CommonCorners u t
adjacent_common_back (along_e2 i j) = common one two two three (λ e. omega (arith, e)) refl refl
adjacent_common_back (along_e3 i j) = common one three one three (λ e. omega (arith, e)) refl refl
adjacent_common_back (along_e1 i j) = common one two two three (λ e. omega (arith, e)) refl refl

adjacent_two : {t u : Triangle} → Adjacent t u → t.down ≡ u.down → ⊥
adjacent_two (along_e2 i j) e = false≢true e
adjacent_two (along_e3 i j) e = true≢false e
adjacent_two (along_e1 i j) e = true≢false e

-- so many columns and rows a corner lies beyond the cell's
abbrev offset_column : Bool → Index → ℕ
offset_column false one = 0
offset_column false two = 1
offset_column false three = 0
offset_column true one = 1
offset_column true two = 0
offset_column true three = 1

abbrev offset_row : Bool → Index → ℕ
offset_row false one = 0
offset_row false two = 0
offset_row false three = 1
offset_row true one = 0
offset_row true two = 1
offset_row true three = 1

corner_column : (d : Bool) (i j : ℕ) (P : Index) → (corner_of d i j P).column ≡ i + offset_column d P
corner_column false i j one = omega arith
corner_column false i j two = refl
corner_column false i j three = omega arith
corner_column true i j one = refl
corner_column true i j two = omega arith
corner_column true i j three = refl

corner_row : (d : Bool) (i j : ℕ) (P : Index) → (corner_of d i j P).row ≡ j + offset_row d P
corner_row false i j one = omega arith
corner_row false i j two = omega arith
corner_row false i j three = refl
corner_row true i j one = omega arith
corner_row true i j two = refl
corner_row true i j three = refl

abbrev Offset : Bool → Index → Type 0
Offset false P = offset_column false P + offset_row false P ≤ 1
Offset true P = (offset_column true P ≤ 1) × (offset_row true P ≤ 1) × (1 ≤ offset_column true P + offset_row true P)

offset : (d : Bool) (P : Index) → Offset d P
offset false one = lit≤ tt
offset false two = lit≤ tt
offset false three = lit≤ tt
offset true one = (lit≤ tt, lit≤ tt, lit≤ tt)
offset true two = (lit≤ tt, lit≤ tt, lit≤ tt)
offset true three = (lit≤ tt, lit≤ tt, lit≤ tt)

-- different corners lie at different places
abbrev place : Bool → Index → ℕ
place d P = offset_column d P + 2 * offset_row d P

abbrev index_at : ℕ → Index
index_at zero = one
index_at (suc zero) = two
index_at (suc (suc n)) = three

index_back : (d : Bool) (P : Index) → index_at (place d P - in_cell d) ≡ P
index_back false one = refl
index_back false two = refl
index_back false three = refl
index_back true one = refl
index_back true two = refl
index_back true three = refl

place_once : (d : Bool) (P Q : Index) → (P ≡ Q → ⊥) → place d P ≡ place d Q → ⊥
place_once d P Q n e =
    n (sym (index_back d P) ∙ ap (λ (k : ℕ). index_at (k - in_cell d)) e ∙ index_back d Q)

-- corners P and Q of the triangle of cell (i, j) are corners P' and Q' of the one of cell (k, l), in numbers
record Overlap (d e : Bool) (i j k l : ℕ) (P Q P' Q' : Index) : Type 0 where
  different : place d P ≡ place d Q → ⊥
  first_column : i + offset_column d P ≡ k + offset_column e P'
  first_row : j + offset_row d P ≡ l + offset_row e P'
  second_column : i + offset_column d Q ≡ k + offset_column e Q'
  second_row : j + offset_row d Q ≡ l + offset_row e Q'
  sizes : Offset d P × Offset d Q × Offset e P' × Offset e Q'

overlap : (d e : Bool) (i j k l : ℕ) (c : CommonCorners (triangle_at i j d) (triangle_at k l e)) →
    Overlap d e i j k l c.first c.second c.first_other c.second_other
overlap d e i j k l c =
    record {
      different = place_once d c.first c.second c.different;
      first_column = columns c.first c.first_other c.first_common;
      first_row = rows c.first c.first_other c.first_common;
      second_column = columns c.second c.second_other c.second_common;
      second_row = rows c.second c.second_other c.second_common;
      sizes = (offset d c.first, offset d c.second, offset e c.first_other, offset e c.second_other);
    }
  where
    columns : (P Q : Index) → corner_of d i j P ≡ corner_of e k l Q → i + offset_column d P ≡ k + offset_column e Q
    columns P Q f = sym (corner_column d i j P) ∙ ap (λ (v : Vertex). v.column) f ∙ corner_column e k l Q

    rows : (P Q : Index) → corner_of d i j P ≡ corner_of e k l Q → j + offset_row d P ≡ l + offset_row e Q
    rows P Q f = sym (corner_row d i j P) ∙ ap (λ (v : Vertex). v.row) f ∙ corner_row e k l Q

module _ {i j k l : ℕ} {P Q P' Q' : Index} where
  -- two up triangles have one cell, and two down triangles
  one_cell_up : Overlap false false i j k l P Q P' Q' → (i ≡ k) × (j ≡ l)
  one_cell_up o = (omega arith, omega arith)

  one_cell_down : Overlap true true i j k l P Q P' Q' → (i ≡ k) × (j ≡ l)
  one_cell_down o = (omega arith, omega arith)

  -- the cell of an up triangle is that of the down triangle, the one beside it or the one above it
  near_cell : Overlap true false i j k l P Q P' Q' → (i ≤ k) × (j ≤ l) × (k + l ≤ i + j + 1)
  near_cell o = (omega arith, omega arith, omega arith)

  near_cell_back : Overlap false true k l i j P Q P' Q' → (i ≤ k) × (j ≤ l) × (k + l ≤ i + j + 1)
  near_cell_back o = (omega arith, omega arith, omega arith)

near_adjacent : (i j k l : ℕ) → (i ≤ k) × (j ≤ l) × (k + l ≤ i + j + 1) →
    EitherWay (triangle_at i j true) (triangle_at k l false)
near_adjacent i j k l n = by (dec_lt i k) (dec_lt j l)
  where
    by : Dec (i < k) → Dec (j < l) → EitherWay (triangle_at i j true) (triangle_at k l false)
    by (yes a) (yes b) = absurd (omega arith)
    by (yes a) (no b) = moved i j k l (inl (along_e3 i j)) (omega arith) (omega arith)
    by (no a) (yes b) = moved i j k l (inl (along_e1 i j)) (omega arith) (omega arith)
    by (no a) (no b) = moved i j k l (inr (along_e2 i j)) (omega arith) (omega arith)

common_adjacent : (d e : Bool) (i j k l : ℕ) → (triangle_at i j d ≡ triangle_at k l e → ⊥) →
    CommonCorners (triangle_at i j d) (triangle_at k l e) → EitherWay (triangle_at i j d) (triangle_at k l e)
common_adjacent false false i j k l n c =
    let e = one_cell_up (overlap false false i j k l c) in
    absurd (n (λ x. triangle_at (e.0 x) (e.1 x) false))
common_adjacent true true i j k l n c =
    let e = one_cell_down (overlap true true i j k l c) in
    absurd (n (λ x. triangle_at (e.0 x) (e.1 x) true))
common_adjacent true false i j k l n c = near_adjacent i j k l (near_cell (overlap true false i j k l c))
common_adjacent false true i j k l n c =
    other_way (near_adjacent k l i j (near_cell_back (overlap false true i j k l c)))

pub shares_edge : SharesEdge
shares_edge t u = (apart, ⊎_elim there back)
  where
    apart : (t ≡ u → ⊥) → CommonCorners t u → EitherWay t u
    apart = common_adjacent t.down u.down t.column t.row u.column u.row

    there : Adjacent t u → (t ≡ u → ⊥) × CommonCorners t u
    there a = (λ e. adjacent_two a (ap (λ (v : Triangle). v.down) e), adjacent_common a)

    back : Adjacent u t → (t ≡ u → ⊥) × CommonCorners t u
    back a = (λ e. adjacent_two a (ap (λ (v : Triangle). v.down) (sym e)), adjacent_common_back a)

-- The cells that can have a place: no more than four have a triangle in which it lies, so what they tell is whether the
-- place is on the door.
use mathlib.Core.Path.{◌≡◌, sym, ◌∙◌}
use mathlib.Core.Bool.{Bool, true, false, ◌&&◌, ◌||◌, and-eq-true_iff, true≢false}
use mathlib.Core.List.{List}
use mathlib.Core.Logic.{◌⊎◌, inl, inr, ⊎_elim}
use Prim.Native.Nat.{ℕ, ◌+◌, ◌-◌, ◌*◌, ◌/◌, ◌≤◌, ◌<◌}
use native.Mathlib.Nat.{le_refl, le-div_iff_mul-le, div-lt_iff_lt-mul, mul_comm, mul-div-le, mul-le-mul, div-le_self}
use native.Mathlib.Omega.{arith}
use native.Mathlib.Decide.{dec_lt}
use lib.Dec.{ltb}
use borrow.Author.Tests.{lt-ltb, le-ltb, ltb-true}
use Rattle.net.specs.Net.{Triangle, triangle_at, OfNet}
use Rattle.net.specs.Refusals.{bad_size}
use Rattle.net.proofs.Places.{good_size}
use Rattle.places.specs.Places.{LiesBy, LiesIn}
use Rattle.places.specs.Refusals.{no_place}
use Rattle.places.proofs.Cells.{on_grid}
use Rattle.graphs.specs.Walks.{Judged}
use Rattle.graphs.proofs.Tests.{or_cases, or_first, or_second, both}
use Rattle.graphs.proofs.WalkLaws.{judged_once}
use Rattle.outline.specs.Outline.{present_at, present}
use Rattle.door.specs.Door.{OnDoor, lies_up, lies_down, lies_in, on_door}
use Rattle.door.specs.Cells.{Small, triangle_has, cell_has}
use Rattle.door.proofs.DoorLaws.{lies_told, on_door_judged}

-- the numbers are small in each cell up to the place's own
pub small_cell : (D w h p q i j : ℕ) → bad_size w h ≡ false → D ≤ 65536 → no_place D w h p q ≡ false →
    i ≤ p / D → j ≤ q / D → Small D p q i j
small_cell D w h p q i j e d f a b =
    let s = good_size w h e in
    let g = on_grid D w h p q f in
    let wide : w - 1 ≤ 1024 = omega (arith, s.narrow) in
    let high : h - 1 ≤ 1024 = omega (arith, s.low) in
    let x : p ≤ 67108864 = omega (arith, g.0, mul-le-mul d wide) in
    let y : q ≤ 67108864 = omega (arith, g.1, mul-le-mul d high) in
    record {
      edge = d;
      across = x;
      up = y;
      column = omega (arith, x, a, div-le_self p D);
      row = omega (arith, y, b, div-le_self q D);
      column_place = omega (arith, x, mul-le-mul (le_refl D) a, mul-div-le p D);
      row_place = omega (arith, y, mul-le-mul (le_refl D) b, mul-div-le q D);
    }

-- ---- one cell

module _ (D : ℕ) (outline : List ℕ) (w h p q i j : ℕ) where
  abbrev inside : Bool
  inside = ltb (i + 1) w && ltb (j + 1) h

  abbrev has : Bool → Bool
  has down = triangle_has D outline w p q (triangle_at i j down)

  pub past_columns : w ≤ i + 1 → false ≡ cell_has D outline w h p q i j
  past_columns a = λ t. sym (le-ltb (i + 1) w a) t && ltb (j + 1) h && (has false || has true)

  pub past_rows : i + 1 < w → h ≤ j + 1 → false ≡ cell_has D outline w h p q i j
  past_rows a b = λ t. sym (lt-ltb (i + 1) w a) t && sym (le-ltb (j + 1) h b) t && (has false || has true)

  in_cell_lem : i + 1 < w → j + 1 < h → (has false || has true) ≡ cell_has D outline w h p q i j
  in_cell_lem a b = λ t. sym (lt-ltb (i + 1) w a) t && sym (lt-ltb (j + 1) h b) t && (has false || has true)

  -- what the code finds of the two bytes of the cell and of the place
  pub found : i + 1 < w → j + 1 < h → {up down : Bool} → up ≡ lies_up D p q i j → down ≡ lies_down D p q i j →
      (present_at outline (2 * (j * (w - 1) + i)) && up || present_at outline (2 * (j * (w - 1) + i) + 1) && down)
      ≡ cell_has D outline w h p q i j
  found a b u d =
      let at = 2 * (j * (w - 1) + i) in
      let first : at ≡ at + 0 = omega arith in
      (λ t. present_at outline (first t) && u t || present_at outline (at + 1) && d t) ∙ in_cell_lem a b

  -- what a triangle and a cell tell
  triangle_tells : (down : Bool) → i + 1 < w → j + 1 < h → has down ≡ true → OnDoor D outline w h p q
  triangle_tells down a b e =
      let t = triangle_at i j down in
      let k = (and-eq-true_iff (present outline w t) (lies_in D p q t)).0 e in
      record {
        triangle = t;
        has = ((omega (arith, a), omega (arith, b)), k.0);
        lies = (lies_told D p q t).0 k.1;
      }

  pub cell_tells : cell_has D outline w h p q i j ≡ true → OnDoor D outline w h p q
  cell_tells e =
      let k = (and-eq-true_iff inside (has false || has true)).0 e in
      let l = (and-eq-true_iff (ltb (i + 1) w) (ltb (j + 1) h)).0 k.0 in
      let a = ltb-true (i + 1) w l.0 in
      let b = ltb-true (j + 1) h l.1 in
      ⊎_elim (triangle_tells false a b) (triangle_tells true a b) (or_cases (has false) (has true) k.1)

  pub told_by_cell : (down : Bool) → OfNet w h (triangle_at i j down) → present outline w (triangle_at i j down) ≡ true →
      LiesIn D p q (triangle_at i j down) → cell_has D outline w h p q i j ≡ true
  told_by_cell down o e l = sym (in_cell_lem (omega (arith, o.0)) (omega (arith, o.1))) ∙ by down here
    where
      here : has down ≡ true
      here =
          let t = triangle_at i j down in
          both (present outline w t) (lies_in D p q t) e ((lies_told D p q t).1 l)

      by : (down : Bool) → has down ≡ true → (has false || has true) ≡ true
      by false e = or_first (has false) (has true) e
      by true e = or_second (has false) (has true) e

-- ---- the cells of a place

-- a place that lies in a triangle lies in its cell
lies_across : (D p q : ℕ) (t : Triangle) → LiesIn D p q t →
    (D * t.column ≤ p) × (p ≤ D * t.column + D) × (D * t.row ≤ q) × (q ≤ D * t.row + D)
lies_across D p q t l = by t.down l
  where
    by : (down : Bool) → LiesBy down D p q t.column t.row →
        (D * t.column ≤ p) × (p ≤ D * t.column + D) × (D * t.row ≤ q) × (q ≤ D * t.row + D)
    by false l = (l.0, omega (arith, l.1, l.2), l.1, omega (arith, l.0, l.2))
    by true l = (omega (arith, l.1, l.2), l.0, omega (arith, l.0, l.2), l.1)

-- whose column is that of the place, or the one before it; and so for rows
column_of : (D p i : ℕ) → 0 < D → D * i ≤ p → p ≤ D * i + D → (i ≡ p / D) ⊎ (i ≡ p / D - 1)
column_of D p i d a b =
    let most : i ≤ p / D = (le-div_iff_mul-le d).1 (omega (arith, a, mul_comm i D)) in
    let least : p / D < i + 2 = (div-lt_iff_lt-mul d).1 (omega (arith, b, d, mul_comm i D)) in
    go most least (dec_lt i (p / D))
  where
    go : i ≤ p / D → p / D < i + 2 → Dec (i < p / D) → (i ≡ p / D) ⊎ (i ≡ p / D - 1)
    go most least (yes k) = inr (omega (arith, most, least, k))
    go most least (no k) = inl (omega (arith, most, k))

module _ (D : ℕ) (outline : List ℕ) (w h p q : ℕ) where
  abbrev cell : ℕ → ℕ → Bool
  cell i j = cell_has D outline w h p q i j

  -- one of four cells has the place
  abbrev four_cells : ℕ → ℕ → ℕ → ℕ → Bool
  four_cells i j k l = cell i j || cell k j || cell i l || cell k l

  four_tell : (i j k l : ℕ) → four_cells i j k l ≡ true → OnDoor D outline w h p q
  four_tell i j k l e =
      ⊎_elim
      (λ (e : (cell i j || cell k j || cell i l) ≡ true).
      ⊎_elim
      (λ (e : (cell i j || cell k j) ≡ true).
      ⊎_elim (cell_tells D outline w h p q i j) (cell_tells D outline w h p q k j) (or_cases (cell i j) (cell k j) e))
      (cell_tells D outline w h p q i l)
      (or_cases (cell i j || cell k j) (cell i l) e))
      (cell_tells D outline w h p q k l)
      (or_cases (cell i j || cell k j || cell i l) (cell k l) e)

  by_four : (i j k l m n : ℕ) → cell m n ≡ true → (m ≡ i) ⊎ (m ≡ k) → (n ≡ j) ⊎ (n ≡ l) → four_cells i j k l ≡ true
  by_four i j k l m n e (inl a) (inl b) =
      or_first _ (cell k l) (or_first _ (cell i l) (or_first _ (cell k j) (sym (λ t. cell (a t) (b t)) ∙ e)))
  by_four i j k l m n e (inr a) (inl b) =
      or_first _ (cell k l) (or_first _ (cell i l) (or_second (cell i j) _ (sym (λ t. cell (a t) (b t)) ∙ e)))
  by_four i j k l m n e (inl a) (inr b) =
      or_first _ (cell k l) (or_second (cell i j || cell k j) _ (sym (λ t. cell (a t) (b t)) ∙ e))
  by_four i j k l m n e (inr a) (inr b) =
      or_second (cell i j || cell k j || cell i l) _ (sym (λ t. cell (a t) (b t)) ∙ e)

  -- whether the place is on the door, by the cells of column p/D and the one before, and of rows so
  four_judged : 0 < D →
      Judged (OnDoor D outline w h p q) (four_cells (p / D) (q / D) (p / D - 1) (q / D - 1))
  four_judged d =
      record {
        told = four_tell (p / D) (q / D) (p / D - 1) (q / D - 1);
        denied = λ e o.
            let t = o.triangle in
            let x = lies_across D p q t o.lies in
            let here = told_by_cell D outline w h p q t.column t.row t.down o.has.0 o.has.1 o.lies in
            true≢false
            (sym (by_four (p / D) (q / D) (p / D - 1) (q / D - 1) t.column t.row here
            (column_of D p t.column d x.0 x.1) (column_of D q t.row d x.2 x.3)) ∙ e);
      }

  -- what the code finds of them
  pub found_in_four : bad_size w h ≡ false → 0 < D → {k l : ℕ} → k ≡ p / D - 1 → l ≡ q / D - 1 →
      {here left below both : Bool} → here ≡ cell (p / D) (q / D) → left ≡ cell k (q / D) → below ≡ cell (p / D) l →
      both ≡ cell k l →
      (here || left || below || both) ≡ on_door D outline w h p q
  found_in_four e d a b r s t u =
      let g = good_size w h e in
      (λ x. r x || s x || t x || u x)
      ∙ (λ x. four_cells (p / D) (q / D) (a x) (b x))
      ∙ judged_once (four_judged d) (on_door_judged D outline w h p q g.wide g.high)

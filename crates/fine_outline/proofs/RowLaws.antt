-- The fine outline by rows: runs regrouped, and the bytes of a part of a row.
use mathlib.Core.Path.{◌≡◌, refl, sym, ap, subst, ◌∙◌}
use mathlib.Core.Bool.{Bool, true, false, cond}
use mathlib.Core.List.{List, [], ◌∷◌, ◌++◌}
use Prim.Native.Nat.{ℕ, zero, suc, ◌+◌, ◌-◌, ◌*◌, ◌/◌, ◌%◌, ◌^◌, ◌≤◌, ◌<◌}
use native.Mathlib.Nat.{mul_comm, zero-mul, suc-mul, add-zero, mul-le-mul, mul-le-mul_left, mul-le-mul_right, mul-one, pow-le-pow_right, div-lt_iff_lt-mul}
use native.Mathlib.Omega.{arith}
use lib.Arith.{digits_lt, digits_div, digits_mod}
use lib.Dec.{leb, eqb, lit<}
use lib.ListN.{length, get_or}
use lib.Seq.{sets}
use Rattle.exact.specs.Filling.{over, runs}
use Rattle.exact.proofs.FillingLaws.{length_runs, runs_add, runs_same, runs_more, over_more}
use Rattle.net.specs.Net.{Triangle, triangle_at}
use Rattle.subdivision.specs.Refinement.{side_after}
use Rattle.outline.specs.Outline.{triangles, in_cell, byte_of, triangle_of}
use Rattle.outline.proofs.Numbers.{byte_in_cell}
use Rattle.steps.specs.Steps.{Depth}
use Rattle.steps.proofs.Sides.{some_cells, side_cells}
use Rattle.fine_outline.specs.FineOutline.{parent_by, parent, fine_outline}
use Rattle.fine_outline.specs.Rows.{cell_run, part_run, row_run, RowReady}
use Rattle.fine_outline.proofs.Parents.{split_of, parent_parts}

-- a runs of b runs each
runs_of_runs : {A : Type 0} (a b : ℕ) (f : ℕ → List A) → runs (a * b) f ≡ runs a (λ i. runs b (λ j. f (i * b + j)))
unfolding runs
runs_of_runs zero b f = ap (λ (n : ℕ). runs n f) (zero-mul b)
runs_of_runs {A} (suc a) b f =
    ap (λ (n : ℕ). runs n f) (suc-mul a b)
    ∙ runs_add (a * b) b f
    ∙ ap (λ (l : List A). l ++ runs b (λ j. f (a * b + j))) (runs_of_runs a b f)

cell_run_length : (up down s g : ℕ) → length (cell_run up down s g) ≡ 2 * s
cell_run_length up down s g =
    length_runs (2 * s) 1 (λ n. cond (leb s (n / 2 + g + n % 2)) down up ∷ []) (λ n h. refl) ∙ mul-one (2 * s)

-- ---- the fine outline by rows

-- the byte of one of two triangles of a cell
byte_by : (outline : List ℕ) (n : ℕ) (b : Bool) →
    get_or outline (2 * n + in_cell b) 0 ≡ cond b (get_or outline (2 * n + 1) 0) (get_or outline (2 * n) 0)
byte_by outline n true = refl
byte_by outline n false = ap (λ (m : ℕ). get_or outline m 0) (add-zero (2 * n))

-- byte n of the part of fine row r in cell i, with s fine cells to a side of a cell and a fine net of width v
module _ (outline : List ℕ) (w v s r i n : ℕ) (cells : v - 1 ≡ (w - 1) * s) (a : i < w - 1) (b : n < 2 * s) where
  abbrev at : ℕ
  at = r * ((w - 1) * (2 * s)) + (i * (2 * s) + n)

  half_at : at / 2 ≡ r * ((w - 1) * s) + (i * s + n / 2)
  half_at = omega arith

  odd_at : at % 2 ≡ n % 2
  odd_at = omega arith

  inside : i * s + n / 2 < (w - 1) * s
  inside = digits_lt a (omega (arith, b))

  triangle_at_lem : triangle_of v at ≡ triangle_at (i * s + n / 2) r (eqb (n % 2) 1)
  triangle_at_lem =
      let column : at / 2 % (v - 1) ≡ i * s + n / 2 = (λ t. half_at t % cells t) ∙ digits_mod r inside in
      let row : at / 2 / (v - 1) ≡ r = (λ t. half_at t / cells t) ∙ digits_div r inside in
      λ t. triangle_at (column t) (row t) (eqb (odd_at t) 1)

  parent_at : parent_by s (triangle_of v at) ≡ triangle_at i (r / s) (leb s (n / 2 + r % s + n % 2))
  parent_at =
      ap (parent_by s) triangle_at_lem
      ∙ parent_parts (eqb (n % 2) 1)
      (record { whole = omega (arith, mul_comm i s); below = omega (arith, b) })
      (split_of s r (omega (arith, b)))
      ∙ ap (λ (m : ℕ). triangle_at i (r / s) (leb s (n / 2 + r % s + m))) (byte_in_cell n)

  byte_at : get_or outline (byte_of w (parent_by s (triangle_of v at))) 0
      ≡ cond (leb s (n / 2 + r % s + n % 2)) (get_or outline (2 * (r / s * (w - 1) + i) + 1) 0)
      (get_or outline (2 * (r / s * (w - 1) + i)) 0)
  byte_at =
      ap (λ (t : Triangle). get_or outline (byte_of w t) 0) parent_at
      ∙ byte_by outline (r / s * (w - 1) + i) (leb s (n / 2 + r % s + n % 2))

-- the cells of a fine row, and all bytes
fine_columns : (w k : ℕ) → 2 ≤ w → side_after k w - 1 ≡ (w - 1) * 2 ^ k
fine_columns w k wide = omega (arith, side_cells k w (omega (arith, wide)), mul_comm (2 ^ k) (w - 1))

fine_size : (w h k : ℕ) → 2 ≤ w → 2 ≤ h →
    2 ^ k * (h - 1) * ((w - 1) * (2 * 2 ^ k)) ≡ triangles (side_after k w) (side_after k h)
fine_size w h k wide high =
    let s : ℕ = 2 ^ k in
    let rows : side_after k h - 1 ≡ s * (h - 1) = omega (arith, side_cells k h (omega (arith, high))) in
    omega (arith, mul_comm (s * (h - 1)) ((w - 1) * s)) ∙ (λ t. 2 * (sym (fine_columns w k wide) t * sym rows t))

pub by_rows_lem : (outline : List ℕ) (w h k : ℕ) → 2 ≤ w → 2 ≤ h →
    runs (2 ^ k * (h - 1)) (row_run outline w (2 ^ k)) ≡ fine_outline outline w h k
unfolding fine_outline
by_rows_lem outline w h k wide high =
    let s : ℕ = 2 ^ k in
    let v : ℕ = side_after k w in
    let F : ℕ → List ℕ = λ n. get_or outline (byte_of w (parent k (triangle_of v n))) 0 ∷ [] in
    sym
    (ap (λ (n : ℕ). runs n F) (sym (fine_size w h k wide high))
    ∙ runs_of_runs (s * (h - 1)) ((w - 1) * (2 * s)) F
    ∙ runs_same (s * (h - 1)) (λ r. runs ((w - 1) * (2 * s)) (λ j. F (r * ((w - 1) * (2 * s)) + j)))
    (row_run outline w s)
    (λ r a. runs_of_runs (w - 1) (2 * s) (λ j. F (r * ((w - 1) * (2 * s)) + j))
    ∙ runs_same (w - 1) (λ i. runs (2 * s) (λ n. F (r * ((w - 1) * (2 * s)) + (i * (2 * s) + n))))
    (part_run outline w s r)
    (λ i b. runs_same (2 * s) (λ n. F (r * ((w - 1) * (2 * s)) + (i * (2 * s) + n)))
    (λ n. cond (leb s (n / 2 + r % s + n % 2)) (get_or outline (2 * (r / s * (w - 1) + i) + 1) 0)
    (get_or outline (2 * (r / s * (w - 1) + i)) 0) ∷ [])
    (λ n c. ap (λ (x : ℕ). x ∷ []) (byte_at outline w v s r i n (fine_columns w k wide) b c)))))

-- ---- what is read and written lies in the slices, and the numbers are small

module _ {outline fine : List ℕ} {w h s : ℕ} (y : RowReady outline w h s fine) where
  pub few_cells : w - 1 ≤ 1024
  few_cells = omega (arith, y.narrow, mul-le-mul_left (w - 1) y.some)

  pub few_rows : h - 1 ≤ 1024
  few_rows = omega (arith, y.low, mul-le-mul_right (h - 1) y.some)

  pub row_length : (w - 1) * (2 * s) ≤ 2048
  row_length = omega (arith, y.narrow)

  pub all_length : s * (h - 1) * ((w - 1) * (2 * s)) ≤ 2097152
  all_length = mul-le-mul y.low row_length

  module _ {r : ℕ} (a : r < s * (h - 1)) where
    pub start_row : r / s < h - 1
    start_row = (div-lt_iff_lt-mul y.some).1 (omega (arith, a, mul_comm s (h - 1)))

    pub few_before : r / s * (w - 1) ≤ 1048576
    few_before = let low : r / s ≤ 1024 = omega (arith, start_row, few_rows) in mul-le-mul low few_cells

    pub row_ends : r * ((w - 1) * (2 * s)) + (w - 1) * (2 * s) ≤ s * (h - 1) * ((w - 1) * (2 * s))
    row_ends = omega (arith, mul-le-mul_right ((w - 1) * (2 * s)) a)

    module _ {i : ℕ} (b : i < w - 1) where
      pub cell_bytes : 2 * (r / s * (w - 1) + i) + 1 < length outline
      cell_bytes =
          omega (arith, y.long, digits_lt {m = h - 1} {c = w - 1} start_row b, mul_comm (h - 1) (w - 1))

      pub part_ends : r * ((w - 1) * (2 * s)) + i * (2 * s) + 2 * s ≤ s * (h - 1) * ((w - 1) * (2 * s))
      part_ends = omega (arith, row_ends, mul-le-mul_right (2 * s) b)

pub row_ready : {outline fine : List ℕ} {w h k s : ℕ} → Depth w h k → triangles w h ≤ length outline →
    triangles (side_after k w) (side_after k h) ≤ length fine → s ≡ 2 ^ k → RowReady outline w h s fine
row_ready {outline} {fine} {w} {h} {k} g long room e =
    subst (λ (s : ℕ). RowReady outline w h s fine) (sym e) (
    record {
      some = some_cells k;
      few = pow-le-pow_right {n = 2} (lit< tt) g.few;
      wide = g.wide;
      narrow = omega (arith, fine_columns w k g.wide, g.narrow);
      low = omega (arith, side_cells k h (omega (arith, g.high)), g.low);
      long = long;
      room = omega (arith, fine_size w h k g.wide g.high, room);
    }
    )

part_length : (outline : List ℕ) (w s r i : ℕ) → length (part_run outline w s r i) ≡ 2 * s
part_length outline w s r i =
    let n : ℕ = 2 * (r / s * (w - 1) + i) in cell_run_length (get_or outline n 0) (get_or outline (n + 1) 0) s (r % s)

row_run_length : (outline : List ℕ) (w s r : ℕ) → length (row_run outline w s r) ≡ (w - 1) * (2 * s)
row_run_length outline w s r =
    length_runs (w - 1) (2 * s)
    (part_run outline w s r)
    (λ i a. part_length outline w s r i)

-- one part more of a row, and one row more
pub parts_more : (outline old : List ℕ) {before after : List ℕ} (w s r at i : ℕ) →
    after ≡ sets before (at + i * (2 * s)) (part_run outline w s r i) →
    before ≡ sets old at (runs i (part_run outline w s r)) → after ≡ sets old at (runs (i + 1) (part_run outline w s r))
parts_more outline old w s r at i e b =
    e ∙ ap (λ (l : List ℕ). sets l (at + i * (2 * s)) (part_run outline w s r i)) b
    ∙ runs_more old at i (2 * s) (part_run outline w s r) (λ m h. part_length outline w s r m)

pub rows_more : (outline old : List ℕ) {before after : List ℕ} (w s r : ℕ) →
    (r + 1) * ((w - 1) * (2 * s)) ≤ length old →
    after ≡ sets before (r * ((w - 1) * (2 * s))) (row_run outline w s r) →
    before ≡ over (runs r (row_run outline w s)) old → after ≡ over (runs (r + 1) (row_run outline w s)) old
rows_more outline old w s r fits e b =
    e ∙ ap (λ (l : List ℕ). sets l (r * ((w - 1) * (2 * s))) (row_run outline w s r)) b
    ∙ over_more old r ((w - 1) * (2 * s)) (row_run outline w s) (λ m h. row_run_length outline w s m) fits

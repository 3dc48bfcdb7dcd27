-- A place is on the door of the fine outline exactly when it is on that of the starting outline: what lies in a fine
-- triangle lies in its parent, and each place of a triangle lies in a fine triangle of it.
use mathlib.Core.Path.{◌≡◌, refl, sym, ap, subst, ◌∙◌}
use mathlib.Core.Bool.{Bool, true, false}
use Prim.Native.Nat.{ℕ, ◌+◌, ◌-◌, ◌*◌, ◌/◌, ◌%◌, ◌^◌, ◌≤◌, ◌<◌}
use native.Mathlib.Nat.{mul_assoc}
use native.Mathlib.Omega.{arith}
use native.Mathlib.Decide.{dec_lt}
use lib.Dec.{leb}
use borrow.Author.Tests.{leb-true, leb-false, le-leb, lt-leb}
use Rattle.net.specs.Net.{Triangle, triangle_at}
use Rattle.places.specs.Places.{LiesIn, LiesBy}
use Rattle.outline.specs.Outline.{in_cell, Present}
use Rattle.steps.proofs.Sides.{some_cells}
use Rattle.fine_outline.specs.FineOutline.{parent_by, parent}
use Rattle.fine_outline.specs.Promises.{FineDoor}
use Rattle.fine_outline.proofs.Parents.{Split, split_of, parent_parts}
use Rattle.fine_outline.proofs.FineBytes.{parent_present, child_present}

-- ---- from a fine triangle to its parent

module _ {s c r i f j g : ℕ} (m : Split s c i f) (n : Split s r j g) (p q : ℕ) where
  lies_in_parent : (d b : Bool) → leb s (f + g + in_cell d) ≡ b → LiesBy d 1024 p q c r → LiesBy b (1024 * s) p q i j
  lies_in_parent false false e l =
      let a = leb-false s (f + g + 0) e in
      let x = mul_assoc 1024 s i in
      let y = mul_assoc 1024 s j in
      (omega (arith, a, x, y, l, m, n), omega (arith, a, x, y, l, m, n), omega (arith, a, x, y, l, m, n))
  lies_in_parent true false e l =
      let a = leb-false s (f + g + 1) e in
      let x = mul_assoc 1024 s i in
      let y = mul_assoc 1024 s j in
      (omega (arith, a, x, y, l, m, n), omega (arith, a, x, y, l, m, n), omega (arith, a, x, y, l, m, n))
  lies_in_parent false true e l =
      let a = leb-true s (f + g + 0) e in
      let x = mul_assoc 1024 s i in
      let y = mul_assoc 1024 s j in
      (omega (arith, a, x, y, l, m, n), omega (arith, a, x, y, l, m, n), omega (arith, a, x, y, l, m, n))
  lies_in_parent true true e l =
      let a = leb-true s (f + g + 1) e in
      let x = mul_assoc 1024 s i in
      let y = mul_assoc 1024 s j in
      (omega (arith, a, x, y, l, m, n), omega (arith, a, x, y, l, m, n), omega (arith, a, x, y, l, m, n))

-- ---- and back

-- a fine triangle of cell (0, 0) on the side b of its diagonal that holds place (x, y)
record Child (s x y : ℕ) (b : Bool) : Type 0 where
  column : ℕ
  row : ℕ
  down : Bool
  narrow : column < s
  low : row < s
  side : leb s (column + row + in_cell down) ≡ b
  lies : LiesBy down 1024 x y column row

-- below the diagonal: in the fine cell of the place; on the diagonal, where that cell lies above, in the cell before
child_up : (s x y : ℕ) → 0 < s → x + y ≤ 1024 * s → Child s x y false
child_up s x y some a = go (dec_lt (x / 1024 + y / 1024) s) (dec_lt 1024 (x % 1024 + y % 1024)) (dec_lt 0 (x / 1024))
  where
    f : ℕ
    f = x / 1024

    g : ℕ
    g = y / 1024

    go : Dec (f + g < s) → Dec (1024 < x % 1024 + y % 1024) → Dec (0 < f) → Child s x y false
    go (yes l) (no d) e =
        record {
          column = f;
          row = g;
          down = false;
          narrow = omega arith;
          low = omega arith;
          side = lt-leb s (f + g + 0) (omega arith);
          lies = (omega arith, omega arith, omega arith);
        }
    go (yes l) (yes d) e =
        record {
          column = f;
          row = g;
          down = true;
          narrow = omega arith;
          low = omega arith;
          side = lt-leb s (f + g + 1) (omega arith);
          lies = (omega arith, omega arith, omega arith);
        }
    go (no l) d (yes e) =
        record {
          column = f - 1;
          row = g;
          down = false;
          narrow = omega arith;
          low = omega arith;
          side = lt-leb s (f - 1 + g + 0) (omega arith);
          lies = (omega arith, omega arith, omega arith);
        }
    go (no l) d (no e) =
        record {
          column = f;
          row = g - 1;
          down = false;
          narrow = omega arith;
          low = omega arith;
          side = lt-leb s (f + (g - 1) + 0) (omega arith);
          lies = (omega arith, omega arith, omega arith);
        }

-- above the diagonal: the cell turned by half a turn
turned_by : (s x y : ℕ) (c : Child s (1024 * s - x) (1024 * s - y) false) → x ≤ 1024 * s → y ≤ 1024 * s →
    (b : Bool) → c.down ≡ b → Child s x y true
turned_by s x y c m n false e =
    let k = leb-false s (c.column + c.row + 0)
    (ap (λ (d : Bool). leb s (c.column + c.row + in_cell d)) (sym e) ∙ c.side) in
    let l : LiesBy false 1024 (1024 * s - x) (1024 * s - y) c.column c.row =
    subst (λ (d : Bool). LiesBy d 1024 (1024 * s - x) (1024 * s - y) c.column c.row) e c.lies in
    record {
      column = s - 1 - c.column;
      row = s - 1 - c.row;
      down = true;
      narrow = omega (arith, k);
      low = omega (arith, k);
      side = le-leb s (s - 1 - c.column + (s - 1 - c.row) + 1) (omega (arith, k));
      lies = (omega (arith, k, l), omega (arith, k, l), omega (arith, k, l));
    }
turned_by s x y c m n true e =
    let k = leb-false s (c.column + c.row + 1)
    (ap (λ (d : Bool). leb s (c.column + c.row + in_cell d)) (sym e) ∙ c.side) in
    let l : LiesBy true 1024 (1024 * s - x) (1024 * s - y) c.column c.row =
    subst (λ (d : Bool). LiesBy d 1024 (1024 * s - x) (1024 * s - y) c.column c.row) e c.lies in
    record {
      column = s - 1 - c.column;
      row = s - 1 - c.row;
      down = false;
      narrow = omega (arith, k);
      low = omega (arith, k);
      side = le-leb s (s - 1 - c.column + (s - 1 - c.row) + 0) (omega (arith, k));
      lies = (omega (arith, k, l), omega (arith, k, l), omega (arith, k, l));
    }

turned : (s x y : ℕ) → Child s (1024 * s - x) (1024 * s - y) false → x ≤ 1024 * s → y ≤ 1024 * s → Child s x y true
turned s x y c m n = turned_by s x y c m n c.down refl

-- in any cell
module _ (s p q i j : ℕ) (some : 0 < s) where
  abbrev x : ℕ
  x = p - 1024 * (s * i)

  abbrev y : ℕ
  y = q - 1024 * (s * j)

  record Inside (b : Bool) : Type 0 where
    left : 1024 * (s * i) ≤ p
    bottom : 1024 * (s * j) ≤ q
    child : Child s x y b

  inside : (b : Bool) → LiesBy b (1024 * s) p q i j → Inside b
  inside false l =
      let m = mul_assoc 1024 s i in
      let n = mul_assoc 1024 s j in
      record {
        left = omega (arith, l, m);
        bottom = omega (arith, l, n);
        child = child_up s x y some (omega (arith, l, m, n));
      }
  inside true l =
      let m = mul_assoc 1024 s i in
      let n = mul_assoc 1024 s j in
      let c = child_up s (1024 * s - x) (1024 * s - y) some (omega (arith, l, m, n)) in
      record {
        left = omega (arith, l, m, n);
        bottom = omega (arith, l, m, n);
        child = turned s x y c (omega (arith, l, m, n)) (omega (arith, l, m, n));
      }

  moved : (d : Bool) (f g : ℕ) → 1024 * (s * i) ≤ p → 1024 * (s * j) ≤ q → LiesBy d 1024 x y f g →
      LiesBy d 1024 p q (s * i + f) (s * j + g)
  moved false f g a b l = (omega (arith, l), omega (arith, l), omega (arith, l))
  moved true f g a b l = (omega (arith, l), omega (arith, l), omega (arith, l))

  in_child : (b : Bool) → LiesBy b (1024 * s) p q i j →
      (t : Triangle) × (parent_by s t ≡ triangle_at i j b) × LiesIn 1024 p q t
  in_child b l =
      let n = inside b l in
      let c = n.child in (
        triangle_at (s * i + c.column) (s * j + c.row) c.down,
        parent_parts c.down (record { whole = refl; below = c.narrow }) (record { whole = refl; below = c.low })
            ∙ ap (triangle_at i j) c.side,
        moved c.down c.column c.row n.left n.bottom c.lies,
      )

pub fine_door : FineDoor
fine_door outline w h k p q wide high = (
  (λ o.
      let t = o.triangle in
      let s : ℕ = 2 ^ k in
      record {
        triangle = parent k t;
        has = parent_present outline w h k wide high t o.has;
        lies = lies_in_parent (split_of s t.column (some_cells k)) (split_of s t.row (some_cells k)) p q t.down
            (leb s (t.column % s + t.row % s + in_cell t.down)) refl o.lies;
      }),
  λ o.
      let u = o.triangle in
      let c = in_child (2 ^ k) p q u.column u.row (some_cells k) u.down o.lies in
      record {
        triangle = c.0;
        has = child_present outline w h k wide high c.0 (subst (Present outline w h) (sym c.1) o.has);
        lies = c.2;
      },
)

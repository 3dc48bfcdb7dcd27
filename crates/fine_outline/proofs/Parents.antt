-- The starting triangle that a fine triangle lies in. A column of the refined net is s·i + f with f below s, where s =
-- 2^k is the fine cells of a starting cell's side: then every fact is linear in s·i, s·j, s, f and g.
use mathlib.Core.Path.{◌≡◌, refl, sym, ap, ◌∙◌}
use mathlib.Core.Bool.{Bool, true, false}
use Prim.Native.Nat.{ℕ, suc, ◌+◌, ◌-◌, ◌*◌, ◌/◌, ◌%◌, ◌^◌, ◌≤◌, ◌<◌}
use native.Mathlib.Nat.{mul_comm, mul_assoc, pow-succ', mod-lt, div-add-mod, div-one, mod-one, div-lt_iff_lt-mul}
use native.Mathlib.Omega.{arith}
use native.Mathlib.Decide.{dec_lt}
use lib.Arith.{digits_div, digits_mod}
use lib.Dec.{leb}
use borrow.Author.Tests.{leb-true, leb-false, le-leb, lt-leb}
use Rattle.net.specs.Net.{Index, one, two, three, Triangle, triangle_at, OfNet, corner_of}
use Rattle.places.specs.Places.{LiesBy}
use Rattle.subdivision.specs.Refinement.{side_after}
use Rattle.outline.specs.Outline.{in_cell}
use Rattle.outline.proofs.Numbers.{in_cell_lem}
use Rattle.steps.proofs.Sides.{some_cells, side_cells}
use Rattle.fine_outline.specs.FineOutline.{LiesWithin, parent_by, parent}

-- ---- quotients and remainders

-- n is fine cell f of starting cell i
pub record Split (s n i f : ℕ) : Type 0 where
  pub whole : n ≡ s * i + f
  pub below : f < s

pub split_of : (s n : ℕ) → 0 < s → Split s n (n / s) (n % s)
split_of s n a = record { whole = sym (div-add-mod n s); below = mod-lt n a }

pub split_quotient : {s n i f : ℕ} → Split s n i f → n / s ≡ i
split_quotient {s} {n} {i} {f} p =
    ap (λ (m : ℕ). m / s) (omega (arith, p.whole, mul_comm s i)) ∙ digits_div i p.below

pub split_remainder : {s n i f : ℕ} → Split s n i f → n % s ≡ f
split_remainder {s} {n} {i} {f} p =
    ap (λ (m : ℕ). m % s) (omega (arith, p.whole, mul_comm s i)) ∙ digits_mod i p.below

-- the parent by the parts of the column and of the row
pub parent_parts : {s c r i f j g : ℕ} (d : Bool) → Split s c i f → Split s r j g →
    parent_by s (triangle_at c r d) ≡ triangle_at i j (leb s (f + g + in_cell d))
parent_parts {s} d p q =
    λ t. triangle_at (split_quotient p t) (split_quotient q t)
    (leb s (split_remainder p t + split_remainder q t + in_cell d))

-- ---- it holds the triangle, and no other does

module _ {s c r i f j g : ℕ} (p : Split s c i f) (q : Split s r j g) where
  held_up : (d : Bool) → f + g + in_cell d < s → (P : Index) →
      LiesBy false s (corner_of d c r P).column (corner_of d c r P).row i j
  held_up false a one = (omega (arith, p, q), omega (arith, p, q), omega (arith, p, q))
  held_up false a two = (omega (arith, p, q), omega (arith, p, q), omega (arith, p, q))
  held_up false a three = (omega (arith, p, q), omega (arith, p, q), omega (arith, p, q))
  held_up true a one = (omega (arith, p, q), omega (arith, p, q), omega (arith, p, q))
  held_up true a two = (omega (arith, p, q), omega (arith, p, q), omega (arith, p, q))
  held_up true a three = (omega (arith, p, q), omega (arith, p, q), omega (arith, p, q))

  held_down : (d : Bool) → s ≤ f + g + in_cell d → (P : Index) →
      LiesBy true s (corner_of d c r P).column (corner_of d c r P).row i j
  held_down false a one = (omega (arith, p, q), omega (arith, p, q), omega (arith, p, q))
  held_down false a two = (omega (arith, p, q), omega (arith, p, q), omega (arith, p, q))
  held_down false a three = (omega (arith, p, q), omega (arith, p, q), omega (arith, p, q))
  held_down true a one = (omega (arith, p, q), omega (arith, p, q), omega (arith, p, q))
  held_down true a two = (omega (arith, p, q), omega (arith, p, q), omega (arith, p, q))
  held_down true a three = (omega (arith, p, q), omega (arith, p, q), omega (arith, p, q))

  held_by : (d b : Bool) → leb s (f + g + in_cell d) ≡ b → (P : Index) →
      LiesBy b s (corner_of d c r P).column (corner_of d c r P).row i j
  held_by d false e = held_up d (leb-false s (f + g + in_cell d) e)
  held_by d true e = held_down d (leb-true s (f + g + in_cell d) e)

pub parent_holds : (k : ℕ) (t : Triangle) → LiesWithin k t (parent k t)
parent_holds k t =
    let s : ℕ = 2 ^ k in
    held_by (split_of s t.column (some_cells k)) (split_of s t.row (some_cells k)) t.down
    (leb s (t.column % s + t.row % s + in_cell t.down)) refl

-- the cell of a triangle that holds the corners, and on which side of its diagonal they lie
record Found (s c r i j : ℕ) (d b : Bool) : Type 0 where
  left : s * i ≤ c
  right : c < s * i + s
  low : s * j ≤ r
  high : r < s * j + s
  side : leb s ((c - s * i) + (r - s * j) + in_cell d) ≡ b

found : (s c r i j : ℕ) (d b : Bool) →
    ((P : Index) → LiesBy b s (corner_of d c r P).column (corner_of d c r P).row i j) → Found s c r i j d b
found s c r i j false false a =
    let x = a one in
    let y = a two in
    record {
      left = x.0;
      right = omega (arith, x, y);
      low = x.1;
      high = omega (arith, x, y);
      side = lt-leb s ((c - s * i) + (r - s * j) + 0) (omega (arith, x, y));
    }
found s c r i j true false a =
    let x = a one in
    let y = a two in
    let z = a three in
    record {
      left = y.0;
      right = omega (arith, x, y, z);
      low = x.1;
      high = omega (arith, x, y, z);
      side = lt-leb s ((c - s * i) + (r - s * j) + 1) (omega (arith, x, y, z));
    }
found s c r i j false true a =
    let x = a one in
    let y = a two in
    let z = a three in
    record {
      left = omega (arith, x, y, z);
      right = omega (arith, x, y, z);
      low = omega (arith, x, y, z);
      high = omega (arith, x, y, z);
      side = le-leb s ((c - s * i) + (r - s * j) + 0) (omega (arith, x, y, z));
    }
found s c r i j true true a =
    let x = a one in
    let y = a two in
    let z = a three in
    record {
      left = omega (arith, x, y, z);
      right = omega (arith, x, y, z);
      low = omega (arith, x, y, z);
      high = omega (arith, x, y, z);
      side = le-leb s ((c - s * i) + (r - s * j) + 1) (omega (arith, x, y, z));
    }

pub parent_only : (k : ℕ) (t u : Triangle) → LiesWithin k t u → u ≡ parent k t
parent_only k t u a =
    let s : ℕ = 2 ^ k in
    let o = found s t.column t.row u.column u.row t.down u.down a in
    let p : Split s t.column u.column (t.column - s * u.column) =
    record { whole = omega (arith, o.left); below = omega (arith, o.right, some_cells k) } in
    let q : Split s t.row u.row (t.row - s * u.row) =
    record { whole = omega (arith, o.low); below = omega (arith, o.high, some_cells k) } in
    (λ i. triangle_at u.column u.row (sym o.side i)) ∙ sym (parent_parts t.down p q)

-- ---- no step, and one step more

leb_same : (a b c d : ℕ) → (a ≤ b → c ≤ d) → (c ≤ d → a ≤ b) → leb a b ≡ leb c d
leb_same a b c d f g = go (dec_lt b a)
  where
    go : Dec (b < a) → leb a b ≡ leb c d
    go (yes l) = lt-leb a b l ∙ sym (lt-leb c d (after (dec_lt d c)))
      where
        after : Dec (d < c) → d < c
        after (yes m) = m
        after (no m) = let h : a ≤ b = g (omega arith) in absurd (omega arith)
    go (no l) = le-leb a b (omega arith) ∙ sym (le-leb c d (f (omega arith)))

pub parent_none : (t : Triangle) → parent 0 t ≡ t
parent_none t =
    λ i. triangle_at (div-one t.column i) (div-one t.row i)
    ((ap (λ (m : ℕ). leb 1 (m + t.row % 1 + in_cell t.down)) (mod-one t.column)
    ∙ ap (λ (m : ℕ). leb 1 (0 + m + in_cell t.down)) (mod-one t.row) ∙ by t.down) i)
  where
    by : (d : Bool) → leb 1 (0 + 0 + in_cell d) ≡ d
    by true = refl
    by false = refl

-- one step: which child of its parent a triangle is
half : (n : ℕ) → n < 4 → in_cell (leb 2 n) ≡ n / 2
half n h = go (leb 2 n) refl
  where
    go : (b : Bool) → leb 2 n ≡ b → in_cell b ≡ n / 2
    go true e = omega (arith, leb-true 2 n e)
    go false e = omega (arith, leb-false 2 n e)

-- a step more has twice the cells
split_double : (k n : ℕ) → Split (2 ^ suc k) n (n / 2 / 2 ^ k) (2 * (n / 2 % 2 ^ k) + n % 2)
split_double k n =
    let p = split_of (2 ^ k) (n / 2) (some_cells k) in
    let twice : 2 ^ suc k * (n / 2 / 2 ^ k) ≡ 2 * (2 ^ k * (n / 2 / 2 ^ k)) =
    ap (λ (m : ℕ). m * (n / 2 / 2 ^ k)) (pow-succ' 2 k) ∙ mul_assoc 2 (2 ^ k) (n / 2 / 2 ^ k) in
    record { whole = omega (arith, p.whole, twice); below = omega (arith, p.below, pow-succ' 2 k) }

pub parent_steps : (k : ℕ) (t : Triangle) → parent (suc k) t ≡ parent k (parent 1 t)
parent_steps k t =
    let s : ℕ = 2 ^ k in
    let f : ℕ = t.column / 2 % s in
    let g : ℕ = t.row / 2 % s in
    let x : ℕ = t.column % 2 + t.row % 2 + in_cell t.down in
    let halved : in_cell (leb 2 x) ≡ x / 2 = half x (omega (arith, in_cell_lem t.down)) in
    parent_parts t.down (split_double k t.column) (split_double k t.row)
    ∙ ap (triangle_at (t.column / 2 / s) (t.row / 2 / s))
    (leb_same (2 ^ suc k) (2 * f + t.column % 2 + (2 * g + t.row % 2) + in_cell t.down) s (f + g + in_cell (leb 2 x))
    (λ h. omega (arith, h, halved, pow-succ' 2 k)) (λ h. omega (arith, h, halved, pow-succ' 2 k)))

-- ---- the triangles of the refined net are those whose parent is of the net

cell_of_side : (k n c : ℕ) → 2 ≤ n → c + 2 ≤ side_after k n → c / 2 ^ k + 2 ≤ n
cell_of_side k n c a b =
    let cells : side_after k n ≡ 2 ^ k * (n - 1) + 1 = side_cells k n (omega (arith, a)) in
    let below : c / 2 ^ k < n - 1 =
    (div-lt_iff_lt-mul (some_cells k)).1 (omega (arith, b, cells, mul_comm (2 ^ k) (n - 1))) in
    omega (arith, below)

side_of_cell : (k n c : ℕ) → 2 ≤ n → c / 2 ^ k + 2 ≤ n → c + 2 ≤ side_after k n
side_of_cell k n c a b =
    let cells : side_after k n ≡ 2 ^ k * (n - 1) + 1 = side_cells k n (omega (arith, a)) in
    let below : c < (n - 1) * 2 ^ k = (div-lt_iff_lt-mul (some_cells k)).0 (omega (arith, b)) in
    omega (arith, below, cells, mul_comm (2 ^ k) (n - 1))

module _ (k w h : ℕ) (wide : 2 ≤ w) (high : 2 ≤ h) (t : Triangle) where
  pub parent_of_net : OfNet (side_after k w) (side_after k h) t → OfNet w h (parent k t)
  parent_of_net o = (cell_of_side k w t.column wide o.0, cell_of_side k h t.row high o.1)

  pub child_of_net : OfNet w h (parent k t) → OfNet (side_after k w) (side_after k h) t
  child_of_net o = (side_of_cell k w t.column wide o.0, side_of_cell k h t.row high o.1)

-- The byte of a triangle and the triangle of a byte: each is the other's inverse on the triangles of a net.
use mathlib.Core.Path.{◌≡◌, refl, sym, ap, ◌∙◌}
use mathlib.Core.Bool.{Bool, true, false}
use Prim.Native.Nat.{ℕ, ◌+◌, ◌-◌, ◌*◌, ◌/◌, ◌%◌, ◌≤◌, ◌<◌}
use native.Mathlib.Nat.{add-mul, mul_comm}
use native.Mathlib.Omega.{arith}
use lib.Arith.{digits_lt, digits_div, digits_mod}
use lib.Dec.{ltb, eqb, lit≤}
use borrow.Author.Tests.{ltb-true, eqb-true, eqb-false}
use Rattle.net.specs.Net.{Triangle, triangle_at, OfNet}
use Rattle.net.specs.Refusals.{bad_size}
use Rattle.net.proofs.Places.{good_size}
use Rattle.net.proofs.Grids.{vertex_in_grid}
use Rattle.outline.specs.Outline.{triangles, in_cell, byte_of, triangle_of}
use Rattle.outline.proofs.ByteLaws.{few_cells}

pub in_cell_lem : (d : Bool) → in_cell d ≤ 1
in_cell_lem true = lit≤ tt
in_cell_lem false = lit≤ tt

-- which of the two triangles of a cell it is, from its byte and back
down_of : (d : Bool) (n : ℕ) → eqb ((2 * n + in_cell d) % 2) 1 ≡ d
down_of d n =
    let last : (2 * n + in_cell d) % 2 ≡ in_cell d = omega (arith, in_cell_lem d) in
    ap (λ (k : ℕ). eqb k 1) last ∙ by d
  where
    by : (d : Bool) → eqb (in_cell d) 1 ≡ d
    by true = refl
    by false = refl

pub byte_in_cell : (n : ℕ) → in_cell (eqb (n % 2) 1) ≡ n % 2
byte_in_cell n = by (eqb (n % 2) 1) refl
  where
    by : (b : Bool) → eqb (n % 2) 1 ≡ b → in_cell b ≡ n % 2
    by true e = sym (eqb-true (n % 2) 1 e)
    by false e = let k = eqb-false (n % 2) 1 e in omega arith

pub byte_below : (w h : ℕ) (t : Triangle) → OfNet w h t → byte_of w t < triangles w h
byte_below w h t o =
    let row : t.row < h - 1 = omega arith in
    let column : t.column < w - 1 = omega arith in
    let cell : t.row * (w - 1) + t.column < (h - 1) * (w - 1) = digits_lt row column in
    omega (arith, cell, mul_comm (h - 1) (w - 1), in_cell_lem t.down)

pub triangle_of_byte : (w h : ℕ) (t : Triangle) → OfNet w h t → triangle_of w (byte_of w t) ≡ t
triangle_of_byte w h t o =
    let inside : t.column < w - 1 = omega (arith, o.0) in
    let cell : byte_of w t / 2 ≡ t.row * (w - 1) + t.column = omega (arith, in_cell_lem t.down) in
    let column = ap (λ (n : ℕ). n % (w - 1)) cell ∙ digits_mod t.row inside in
    let row = ap (λ (n : ℕ). n / (w - 1)) cell ∙ digits_div t.row inside in
    λ i. triangle_at (column i) (row i) (down_of t.down (t.row * (w - 1) + t.column) i)

pub byte_once : (w h : ℕ) (t u : Triangle) → OfNet w h t → OfNet w h u → byte_of w t ≡ byte_of w u → t ≡ u
byte_once w h t u a b e = sym (triangle_of_byte w h t a) ∙ ap (triangle_of w) e ∙ triangle_of_byte w h u b

-- the cell of a byte lies in the net
module _ (w h n : ℕ) (below : n < triangles w h) where
  cell_in_grid :
      (n / 2 % (w - 1) < w - 1) × (n / 2 / (w - 1) < h - 1)
      × (n / 2 / (w - 1) * (w - 1) + n / 2 % (w - 1) ≡ n / 2)
  cell_in_grid = vertex_in_grid (w - 1) (h - 1) (n / 2) (omega arith)

  pub triangle_of_net : OfNet w h (triangle_of w n)
  triangle_of_net = (omega (arith, cell_in_grid.0), omega (arith, cell_in_grid.1))

  pub byte_of_triangle : byte_of w (triangle_of w n) ≡ n
  byte_of_triangle = omega (arith, cell_in_grid.2, byte_in_cell n)

-- there are few triangles
pub few_triangles : (w h : ℕ) → bad_size w h ≡ false → triangles w h ≤ 2097152
few_triangles w h e = omega (arith, few_cells (good_size w h e))

-- the bytes of cell (i, j), of the up triangle beside it and of the one above it, counted from the cell's first
pub record CellBytes (w h i j at : ℕ) : Type 0 where
  pub own : at + 1 < triangles w h
  pub beside : ltb (i + 2) w ≡ true → at + 2 < triangles w h
  pub above : ltb (j + 2) h ≡ true → at + 2 * (w - 1) < triangles w h
  pub beside_byte : at + 2 ≡ byte_of w (triangle_at (i + 1) j false)
  pub above_byte : at + 2 * (w - 1) ≡ byte_of w (triangle_at i (j + 1) false)

pub cell_bytes : (w h i j : ℕ) → i + 2 ≤ w → j + 2 ≤ h → CellBytes w h i j (2 * (j * (w - 1) + i))
cell_bytes w h i j p q =
    let next : (j + 1) * (w - 1) ≡ j * (w - 1) + (w - 1) = omega (arith, add-mul j 1 (w - 1)) in
    record {
      own = byte_below w h (triangle_at i j true) (p, q);
      beside = λ e. omega (arith, byte_below w h (triangle_at (i + 1) j false) (omega (arith, ltb-true (i + 2) w e), q));
      above = λ e.
          omega (arith, next, byte_below w h (triangle_at i (j + 1) false) (p, omega (arith, ltb-true (j + 2) h e)));
      beside_byte = omega arith;
      above_byte = omega (arith, next);
    }

-- The triangle that is asked of a net, and its byte.
use mathlib.Core.Path.{◌≡◌, refl, ap}
use mathlib.Core.List.{List}
use Prim.Native.Nat.{ℕ, zero, suc, ◌+◌, ◌-◌, ◌*◌, ◌≤◌, ◌<◌}
use native.Mathlib.Omega.{arith}
use lib.Dec.{ltb, eqb}
use lib.IntN.{ℤ}
use lib.ListN.{length}
use borrow.Author.Tests.{ltb-false}
use Rattle.net.proofs.Faults.{Clear, or_none}
use Rattle.net.proofs.Places.{good_size}
use Rattle.outline.specs.Outline.{triangles, in_cell, byte_of, present_at, present}
use Rattle.outline.proofs.ByteLaws.{few_cells}
use Rattle.outline.proofs.Numbers.{byte_below}
use Rattle.bezier.specs.Refusals.{no_triangle}
use Rattle.bezier.proofs.BezierNets.{cell_in_grid}
use Rattle.outline.specs.Refusals.{outline_faults}
use Rattle.outlined_points.specs.Refusals.{triangle_by}
use Rattle.outlined_points.specs.Rows.{triangle_faults, AskedTriangle}

-- where none of the rows of the net, of the triangle and of the outline is there
pub asked : (net : List ℤ) (w h : ℕ) (outline : List ℕ) (i j down : ℕ) → Clear (triangle_faults net w h i j down) →
    Clear (outline_faults outline w h) → AskedTriangle outline w h i j down
asked net w h outline i j down k l =
    let kinds = or_none (no_triangle w h i j) (ltb 1 down) k.1.0 in
    let g = cell_in_grid w h i j k.0 kinds.0 in
    record {
      size = k.0;
      long = ltb-false (length outline) (triangles w h) l.0;
      inside = (omega (arith, g.column), omega (arith, g.row));
      kind = ltb-false 1 down kinds.1;
    }

-- the byte of an up triangle is the first of its cell, and that of a down triangle the next
in_cell_by : (down : ℕ) → down ≤ 1 → in_cell (eqb down 1) ≡ down
in_cell_by zero k = refl
in_cell_by (suc zero) k = refl
in_cell_by (suc (suc n)) k = absurd (omega (arith, k))

module _ (outline : List ℕ) (w h i j down : ℕ) (a : AskedTriangle outline w h i j down) where
  -- it lies in the outline, and its place is a small number
  pub byte_lies : (2 * (j * (w - 1) + i) + down < length outline) × (2 * (j * (w - 1) + i) + down < 2097152)
  byte_lies =
      let below = byte_below w h (triangle_by i j down) a.inside in
      let at = in_cell_by down a.kind in
      let few = few_cells (good_size w h a.size) in
      (omega (arith, below, at, a.long), omega (arith, below, at, few))

  pub byte_tells : present_at outline (2 * (j * (w - 1) + i) + down) ≡ present outline w (triangle_by i j down)
  byte_tells =
      let at : 2 * (j * (w - 1) + i) + down ≡ byte_of w (triangle_by i j down) = omega (arith, in_cell_by down a.kind) in
      ap (present_at outline) at

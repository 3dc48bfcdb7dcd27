-- Accepted nets: their surface points are answered at every place of the grid.
use mathlib.Core.Path.{◌≡◌, refl, sym}
use mathlib.Core.Bool.{Bool, true, false}
use mathlib.Core.List.{List}
use Prim.Native.Nat.{ℕ, ◌+◌, ◌-◌, ◌*◌, ◌≤◌, ◌<◌}
use native.Mathlib.Omega.{arith}
use lib.Dec.{ltb}
use lib.IntN.{ℤ}
use borrow.Author.Tests.{le-ltb}
use Rattle.net.specs.Net.{Index, one, two, three, corner_of, corner, start, vertex_numbers, stride}
use Rattle.net.specs.Refusals.{bad_size, any_beyond, AcceptedNet}
use Rattle.net.proofs.Faults.{or_no, cond_false}
use Rattle.net.proofs.Places.{vertex_ends}
use Rattle.net.proofs.Ranges.{part_in_range}
use Rattle.places.specs.Places.{OnGrid, chosen}
use Rattle.places.specs.Refusals.{no_place}
use Rattle.places.proofs.Cells.{cells_in_grid}
use Rattle.triangles.specs.Refusals.{triangle_beyond}
use Rattle.surface.specs.Refusals.{point_refusal}

-- ---- the corners of a place's triangle are vertices of the net

corner_near : (down : Bool) (i j : ℕ) (P : Index) →
    ((corner_of down i j P).column ≤ i + 1) × ((corner_of down i j P).row ≤ j + 1)
corner_near false i j one = (omega arith, omega arith)
corner_near false i j two = (omega arith, omega arith)
corner_near false i j three = (omega arith, omega arith)
corner_near true i j one = (omega arith, omega arith)
corner_near true i j two = (omega arith, omega arith)
corner_near true i j three = (omega arith, omega arith)

pub on_the_grid : (D w h p q : ℕ) → OnGrid D w h p q → no_place D w h p q ≡ false
on_the_grid D w h p q g = sym (or_no (ltb (D * (w - 1)) p) _ (le-ltb _ _ g.0) (sym (le-ltb _ _ g.1)))

pub corner_in_net : (w h p q : ℕ) → bad_size w h ≡ false → OnGrid 1024 w h p q → (P : Index) →
    ((corner (chosen 1024 w h p q) P).column < w) × ((corner (chosen 1024 w h p q) P).row < h)
corner_in_net w h p q e g P =
    let t = chosen 1024 w h p q in
    let c = cells_in_grid w h p q e (on_the_grid 1024 w h p q g) in
    let near = corner_near t.down t.column t.row P in
    (omega (arith, near.0, c.column), omega (arith, near.1, c.row))

pub point_not_refused : (net : List ℤ) (w h : ℕ) → AcceptedNet net w h → (p q : ℕ) → OnGrid 1024 w h p q →
    point_refusal net w h p q ≡ 0
point_not_refused net w h a p q g =
    let t = chosen 1024 w h p q in
    let fine : (P : Index) → any_beyond (vertex_numbers net w (corner t P)) ≡ false =
    λ P.
    let c = corner_in_net w h p q a.size g P in
    let v = corner t P in
    part_in_range net w h (start w v) stride a.in_range (vertex_ends {w =
    w} {h = h} {i = v.column} {j = v.row} c.0 c.1) in
    let triangle : triangle_beyond net w t
    ≡ false = sym (or_no _ _ (fine one) (or_no _ _ (fine two) (sym (fine three)))) in
    sym (cond_false _ 1 _ a.size
    (cond_false _ 6 _ (on_the_grid 1024 w h p q g) (cond_false _ 2 _ a.long (cond_false _ 3 _ triangle refl))))

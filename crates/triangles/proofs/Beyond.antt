-- Numbers beyond 9wh do not matter to a triangle of the net: its control values and their range are those of the net
-- cut after its 9wh numbers.
use mathlib.Core.Path.{◌≡◌}
use mathlib.Core.Bool.{◌||◌}
use mathlib.Core.List.{List}
use Prim.Native.Nat.{ℕ, ◌+◌, ◌≤◌, ◌<◌}
use native.Mathlib.Omega.{arith}
use lib.IntN.{ℤ}
use lib.ListN.{length}
use Rattle.net.specs.Net.{Index, one, two, three, Triangle, corner, start, numbers, vertex_numbers, field, stride}
use Rattle.net.specs.Refusals.{any_beyond}
use Rattle.net.proofs.Places.{vertex_ends}
use Rattle.net.proofs.Beyond.{cut, cut_vertex, cut_field}
use Rattle.places.proofs.Cells.{InGrid}
use Rattle.triangles.specs.BezierPoints.{controls_of}
use Rattle.triangles.specs.Refusals.{triangle_beyond}
use Rattle.triangles.proofs.Corners.{corner_before}

module _ (net : List ℤ) (w h : ℕ) (t : Triangle) (g : InGrid w h t.column t.row) where
  ends : (P : Index) → start w (corner t P) + stride ≤ numbers w h
  ends P =
      let last = vertex_ends {w = w} {h = h} {i = t.column + 1} {j = t.row + 1} g.column g.row in
      omega (arith, corner_before w t.column t.row g.column t.down P, last)

  pub cut_controls : (x : ℕ) → x < 3 → controls_of (field net w x) t ≡ controls_of (field (cut net w h) w x) t
  cut_controls x b = λ i P k. cut_field net w h (corner t P) (ends P) k x b i

  pub cut_triangle : numbers w h ≤ length net → triangle_beyond net w t ≡ triangle_beyond (cut net w h) w t
  cut_triangle l =
      let same : (P : Index) → vertex_numbers net w (corner t P) ≡ vertex_numbers (cut net w h) w (corner t P) =
      λ P. cut_vertex net w h (corner t P) (ends P) l in
      λ i. any_beyond (same one i) || (any_beyond (same two i) || any_beyond (same three i))

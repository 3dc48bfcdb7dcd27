-- A row of a net that stands in a slice of its own.
use mathlib.Core.Path.{◌≡◌, ap, ◌∙◌}
use mathlib.Core.List.{List}
use Prim.Native.Nat.{ℕ, ◌*◌, ◌≤◌, ◌<◌}
use native.Mathlib.Omega.{arith}
use lib.Dec.{lit<}
use lib.IntN.{ℤ}
use lib.ListN.{length}
use lib.Seq.{sets}
use Rattle.exact.specs.Filling.{over, runs}
use Rattle.exact.proofs.FillingLaws.{sets_over}
use Rattle.net.specs.Net.{Index, vertex_at, field, stride, grid}
use Rattle.steps.specs.RefinedNet.{Fields, row_run, stored}
use Rattle.steps.proofs.StoredNets.{stored_length, stored_field}

-- the slice holds a net of one row, whose vertex (i, 0) has the numbers of vertex (i, j)
pub row_field : (F : Fields) (w j : ℕ) (old : List ℤ) → stride * w ≤ length old → (i : ℕ) → i < w → (l : Index) (x : ℕ) →
    x < 3 → field (sets old 0 (row_run F w j)) w x (vertex_at i 0) l ≡ F x (vertex_at i j) l
unfolding stored grid runs
row_field F w j old room i a l x c =
    let G : Fields = λ y v k. F y (vertex_at v.column j) k in
    let whole : sets old 0 (row_run F w j) ≡ over (stored G w 1) old =
    sets_over (stored G w 1) old (omega (arith, stored_length G w 1, room)) in
    ap (λ (s : List ℤ). field s w x (vertex_at i 0) l) whole ∙ stored_field G w 1 old i 0 a (lit< tt) l x c

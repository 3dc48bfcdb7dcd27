-- Grids in storage, whatever the length n of a vertex's record: how long they are, where their numbers stand, and what
-- they are made of.
use mathlib.Core.Path.{◌≡◌, refl, sym, ap, ◌∙◌}
use mathlib.Core.Bool.{false}
use mathlib.Core.List.{List, ◌++◌}
use Prim.Native.Nat.{ℕ, zero, suc, ◌+◌, ◌*◌, ◌/◌, ◌%◌, ◌<◌}
use native.Mathlib.Nat.{mul-add, mul_assoc, mul_comm, mul-zero, mul-suc, mod-lt, div-lt_iff_lt-mul, div-add-mod'}
use native.Mathlib.Omega.{arith}
use lib.Arith.{digits_lt, digits_div, digits_mod}
use lib.IntN.{ℤ, pos}
use lib.ListN.{length, take, drop}
use lib.Seq.{drop-drop}
use Rattle.exact.specs.Filling.{runs}
use Rattle.exact.proofs.FillingLaws.{length_runs, get_or_runs, runs_add, runs_same, runs_of_parts}
use Rattle.net.specs.Net.{Vertex, vertex_at, number, record_start, vertex_of, grid_row, grid}
use Rattle.net.specs.Refusals.{any_outside}
use Rattle.net.proofs.Ranges.{any_runs}

-- where the record of a vertex begins, by rows, and the numbers of all rows
row_start : (n w i j : ℕ) → record_start n w (vertex_at i j) ≡ j * (w * n) + i * n
row_start n w i j = omega (arith, mul-add n (j * w) i, mul_comm n (j * w), mul_comm n i, mul_assoc j w n)

all_rows : (n w h : ℕ) → h * (w * n) ≡ n * (w * h)
all_rows n w h = omega (arith, mul_assoc h w n, mul_comm (h * w) n, ap (λ (m : ℕ). n * m) (mul_comm h w))

module _ (n : ℕ) (f : Vertex → List ℤ) (e : (v : Vertex) → length (f v) ≡ n) where
  pub row_length : (w j : ℕ) → length (grid_row f w j) ≡ w * n
  row_length w j = length_runs w n (λ i. f (vertex_at i j)) (λ i h. e (vertex_at i j))

  pub grid_length : (w h : ℕ) → length (grid f w h) ≡ n * (w * h)
  unfolding grid
  grid_length w h = length_runs h (w * n) (grid_row f w) (λ j k. row_length w j) ∙ all_rows n w h

  pub grid_number : (w h i j r : ℕ) → i < w → j < h → r < n →
      number (grid f w h) (record_start n w (vertex_at i j) + r) ≡ number (f (vertex_at i j)) r
  unfolding grid
  grid_number w h i j r a b c =
      ap (number (runs h (grid_row f w))) (omega (arith, row_start n w i j))
      ∙ get_or_runs h (w * n) (grid_row f w) (pos 0) (λ m k. row_length w m) j (i * n + r) b (digits_lt a c)
      ∙ get_or_runs w n (λ m. f (vertex_at m j)) (pos 0) (λ m k. e (vertex_at m j)) i r a c

-- ---- vertices by their number

pub vertex_in_grid : (w h n : ℕ) → n < w * h → (n % w < w) × (n / w < h) × (n / w * w + n % w ≡ n)
vertex_in_grid w h n a =
    let some : 0 < w = positive w (λ e. omega (arith, a, ap (λ (m : ℕ). m * h) e)) in
    (mod-lt n some, (div-lt_iff_lt-mul some).1 (omega (arith, a, mul_comm w h)), div-add-mod' n w)
  where
    positive : (w : ℕ) → (w ≡ 0 → ⊥) → 0 < w
    positive zero e = absurd (e refl)
    positive (suc w) e = omega arith

pub record_place : (s w h n : ℕ) → n < w * h → record_start s w (vertex_of w n) ≡ s * n
record_place s w h n a = ap (λ (m : ℕ). s * m) (vertex_in_grid w h n a).2

pub grid_by_number : (f : Vertex → List ℤ) (w h : ℕ) → grid f w h ≡ runs (w * h) (λ n. f (vertex_of w n))
unfolding grid runs
grid_by_number f w zero = ap (λ (k : ℕ). runs k (λ n. f (vertex_of w n))) (sym (mul-zero w))
grid_by_number f w (suc h) =
    ap (λ (l : List ℤ). l ++ grid_row f w h) (grid_by_number f w h)
    ∙ ap (λ (l : List ℤ). runs (w * h) (λ n. f (vertex_of w n)) ++ l)
    (runs_same w (λ i. f (vertex_at i h)) (λ i. f (vertex_of w (w * h + i))) (λ i a.
    λ t. f (vertex_at (sym (ap (λ (m : ℕ). (m + i) % w) (mul_comm w h) ∙ digits_mod h a) t)
    (sym (ap (λ (m : ℕ). (m + i) / w) (mul_comm w h) ∙ digits_div h a) t))))
    ∙ sym (runs_add (w * h) w (λ n. f (vertex_of w n)))
    ∙ ap (λ (k : ℕ). runs k (λ n. f (vertex_of w n))) (sym (mul-suc w h))

-- records that agree on the vertices of the grid
pub grid_same : (f g : Vertex → List ℤ) (w h : ℕ) → ((i j : ℕ) → i < w → j < h → f (vertex_at i j) ≡ g (vertex_at i j)) →
    grid f w h ≡ grid g w h
unfolding grid
grid_same f g w h e =
    runs_same h (grid_row f w) (grid_row g w)
    (λ j b. runs_same w (λ i. f (vertex_at i j)) (λ i. g (vertex_at i j)) (λ i a. e i j a b))

-- the records of a list, part by part, are its first numbers
pub grid_of_parts : (n w h : ℕ) (l : List ℤ) →
    grid (λ v. take n (drop (record_start n w v) l)) w h ≡ take (n * (w * h)) l
unfolding grid
grid_of_parts n w h l =
    let row : ℕ → List ℤ = λ j. drop (j * (w * n)) l in
    runs_same h (grid_row (λ v. take n (drop (record_start n w v) l)) w) (λ j. take (w * n) (row j)) (λ j b.
    runs_same w (λ i. take n (drop (record_start n w (vertex_at i j)) l)) (λ i. take n (drop (i * n) (row j))) (λ i a.
    ap (λ (m : ℕ). take n (drop m l)) (row_start n w i j)
    ∙ ap (take n) (sym (drop-drop (i * n) (j * (w * n)) l)))
    ∙ runs_of_parts (row j) n w)
    ∙ runs_of_parts l (w * n) h
    ∙ ap (λ (m : ℕ). take m l) (all_rows n w h)

-- a grid is in range where each record is
pub any_grid : (limit : ℕ) (f : Vertex → List ℤ) (w h : ℕ) →
    ((i j : ℕ) → i < w → j < h → any_outside limit (f (vertex_at i j)) ≡ false) → any_outside limit (grid f w h) ≡ false
unfolding grid
any_grid limit f w h e =
    any_runs limit h (grid_row f w) (λ j b. any_runs limit w (λ i. f (vertex_at i j)) (λ i a. e i j a b))

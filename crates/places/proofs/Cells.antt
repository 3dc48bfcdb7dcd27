-- Cells of places: where they lie, and what is left of a place in its cell.
use mathlib.Core.Path.{◌≡◌, refl, sym, ap, subst, ◌∙◌}
use mathlib.Core.Bool.{Bool, true, false, cond}
use Prim.Native.Nat.{ℕ, ◌+◌, ◌-◌, ◌*◌, ◌/◌, ◌≤◌, ◌<◌, min}
use native.Mathlib.Nat.{le_refl, le_trans, mul-le-mul, mul-div-le, lt-mul-div-succ, mul-add, mul-one, min-le_left}
use native.Mathlib.Omega.{arith, min_cases}
use lib.Dec.{ltb}
use mir.Syntax.{w64}
use mir.Val.{Fits}
use borrow.Author.Tests.{ltb-true, ltb-false}
use Rattle.net.specs.Net.{Index, one, two, three}
use Rattle.net.specs.Refusals.{bad_size}
use Rattle.net.proofs.Faults.{or_none}
use Rattle.net.proofs.Places.{good_size}
use Rattle.places.specs.Places.{cell, rest, is_down, up_share, down_share, share, OnGrid, chosen, LiesBy, LiesIn}
use Rattle.places.specs.Refusals.{no_place}
use Rattle.places.specs.Located.{Placed}

pub record InCell (n p : ℕ) : Type 0 where
  pub inside : cell 1024 n p + 1 < n
  pub small : cell 1024 n p ≤ 1023
  pub begins : 1024 * cell 1024 n p ≤ p
  pub left : rest 1024 n p ≤ 1024

in_cell_lem : (n p : ℕ) → 2 ≤ n → n ≤ 1025 → p ≤ 1024 * (n - 1) → InCell n p
in_cell_lem n p a b h = record { inside = omega arith; small = omega arith; begins = omega arith; left = omega arith }

-- a place that is not refused is on the grid
pub on_grid : (D w h p q : ℕ) → no_place D w h p q ≡ false → OnGrid D w h p q
on_grid D w h p q e =
    let g = or_none (ltb (D * (w - 1)) p) (ltb (D * (h - 1)) q) e in
    (ltb-false (D * (w - 1)) p g.0, ltb-false (D * (h - 1)) q g.1)

-- both coordinates of a place of the grid
pub in_cells : (w h p q : ℕ) → bad_size w h ≡ false → no_place 1024 w h p q ≡ false → InCell w p × InCell h q
in_cells w h p q e f =
    let s = good_size w h e in
    let g = on_grid 1024 w h p q f in
    (in_cell_lem w p s.wide s.narrow g.0, in_cell_lem h q s.high s.low g.1)

-- a cell of the grid
pub record InGrid (w h i j : ℕ) : Type 0 where
  pub column : i + 1 < w
  pub row : j + 1 < h

-- the cell of a place of the grid is one of the grid
pub cells_in_grid : (w h p q : ℕ) → bad_size w h ≡ false → no_place 1024 w h p q ≡ false →
    InGrid w h (cell 1024 w p) (cell 1024 h q)
cells_in_grid w h p q e f =
    let k = in_cells w h p q e f in
    record { column = k.0.inside; row = k.1.inside }

-- what is left in a cell that the code found
pub left_at : {n p i : ℕ} → i ≡ cell 1024 n p → InCell n p → p - 1024 * i ≤ 1024
left_at {n} {p} e k = subst (λ (j : ℕ). p - 1024 * j ≤ 1024) (sym e) k.left

-- sums and differences of f and g
pub sum_fits : (f g : ℕ) → f ≤ 1024 → g ≤ 1024 → Fits w64 (f + g)
sum_fits f g a b = omega (arith, a, b)

pub left_over : (f g : ℕ) → f + g ≤ 1024 → g ≤ 1024 - f
left_over f g a = omega (arith, a)

-- what the code computes from a cell and a kind that it found
pub placed : (w h p q : ℕ) {i j : ℕ} (b : Bool) → i ≡ cell 1024 w p → j ≡ cell 1024 h q →
    is_down 1024 (p - 1024 * i) (q - 1024 * j) ≡ b →
    (let s = cond b (down_share 1024 (p - 1024 * i) (q - 1024 * j)) (up_share 1024 (p - 1024 * i) (q - 1024 * j)) in
    Placed w h p q i j b (s one) (s two) (s three))
placed w h p q b ei ej e =
    let f : 𝕀 → ℕ = λ t. p - 1024 * ei t in
    let g : 𝕀 → ℕ = λ t. q - 1024 * ej t in
    let kind : b ≡ is_down 1024 (rest 1024 w p) (rest 1024 h q) = sym e ∙ (λ t. is_down 1024 (f t) (g t)) in
    let share_of : (k : Index) →
    (cond b (down_share 1024 (f 0) (g 0)) (up_share 1024 (f 0) (g 0))) k ≡ share 1024 w h p q k =
    λ k t. (cond (kind t) (down_share 1024 (f t) (g t)) (up_share 1024 (f t) (g t))) k in
    record { column = ei; row = ej; kind = kind; share_1 = share_of one; share_2 = share_of two; share_3 = share_of three }

-- ---- at any edge count, a place of the grid lies in the triangle that is chosen for it

cell_begins : (D n p : ℕ) → D * cell D n p ≤ p
cell_begins D n p = le_trans (mul-le-mul (le_refl D) (min-le_left (p / D) (n - 2))) (mul-div-le p D)

cell_ends : (D n p : ℕ) → 0 < D → 2 ≤ n → p ≤ D * (n - 1) → p ≤ D * cell D n p + D
cell_ends D n p d k h = min_cases (p / D) (n - 2) (p ≤ D * cell D n p + D) inner last
  where
    inner : p / D ≤ n - 2 → min (p / D) (n - 2) ≡ p / D → p ≤ D * min (p / D) (n - 2) + D
    inner a e =
        subst (λ (i : ℕ). p ≤ D * i + D) (sym e) (omega (arith, lt-mul-div-succ p d, mul-add D (p / D) 1, mul-one D))

    last : n - 2 ≤ p / D → min (p / D) (n - 2) ≡ n - 2 → p ≤ D * min (p / D) (n - 2) + D
    last a e =
        let one_more : n - 1 ≡ n - 2 + 1 = omega (arith, k) in
        subst (λ (i : ℕ). p ≤ D * i + D) (sym e)
        (omega (arith, h, ap (λ (i : ℕ). D * i) one_more, mul-add D (n - 2) 1, mul-one D))

pub chosen_lies : (D w h p q : ℕ) → 0 < D → 2 ≤ w → 2 ≤ h → OnGrid D w h p q → LiesIn D p q (chosen D w h p q)
chosen_lies D w h p q d k l g = by (is_down D (rest D w p) (rest D h q)) refl
  where
    by : (down : Bool) → is_down D (rest D w p) (rest D h q) ≡ down → LiesBy down D p q (cell D w p) (cell D h q)
    by false e =
        let f = ltb-false D (rest D w p + rest D h q) e in
        (cell_begins D w p, cell_begins D h q, omega (arith, f))
    by true e =
        let f = ltb-true D (rest D w p + rest D h q) e in
        let x = cell_begins D w p in
        let y = cell_begins D h q in
        (cell_ends D w p d k g.0, cell_ends D h q d l g.1, omega (arith, f, x, y))

-- What an accepted Bézier net is known by, and what a call leaves in its output.
use mathlib.Core.Path.{◌≡◌, sym, ap, ◌∙◌}
use mathlib.Core.Bool.{Bool, true, false}
use mathlib.Core.List.{List}
use Prim.Native.Nat.{ℕ, ◌≤◌, ◌<◌, ◌-◌}
use lib.Dec.{ltb, lit<, leb}
use lib.IntN.{ℤ}
use lib.ListN.{length}
use borrow.Author.Tests.{ltb-false, eq-eqb, ne_eqb, leb-false}
use native.Mathlib.Omega.{arith}
use Rattle.exact.specs.WeightedSum.{Within}
use Rattle.exact.specs.Filling.{over, runs}
use Rattle.net.specs.Net.{Triangle, triangle_at, field}
use Rattle.net.specs.Refusals.{bad_size, short_net}
use Rattle.net.proofs.Faults.{fault_none, when_accepted, when_refused, or_none}
use Rattle.net.proofs.Places.{good_size}
use Rattle.places.specs.Places.{o123}
use Rattle.places.proofs.Cells.{InGrid}
use Rattle.triangles.specs.BezierPoints.{controls_of}
use Rattle.triangles.specs.Refusals.{triangle_beyond}
use Rattle.triangles.specs.Corners.{InNet, corner_controls, reordered_controls, values_in}
use Rattle.triangles.proofs.Corners.{value_size, in_net_lem}
use Rattle.triangles.proofs.CornerForm.{in_form, form_values, loaded_form, form_within}
use Rattle.bezier.specs.BezierNet.{bezier_points, bezier_numbers}
use Rattle.bezier.specs.Refusals.{no_triangle, bezier_refusal}
use Rattle.bezier.specs.Answers.{bezier_answer, bezier_output}
use Rattle.bezier.specs.Weights.{points_of, three_at}
use Rattle.bezier.proofs.Weights.{points_by_rows}

-- the cell of a triangle is one of the grid, and the triangle lies in the net
pub cell_in_grid : (w h i j : ℕ) → bad_size w h ≡ false → no_triangle w h i j ≡ false → InGrid w h i j
cell_in_grid w h i j e f =
    let s = good_size w h e in
    let t = or_none (leb (w - 1) i) (leb (h - 1) j) f in
    record {
      column = omega (arith, leb-false (w - 1) i t.0, s.wide);
      row = omega (arith, leb-false (h - 1) j t.1, s.high);
    }

pub in_net_triangle : (net : List ℤ) (w h i j : ℕ) →
    bad_size w h ≡ false → no_triangle w h i j ≡ false → short_net net w h ≡ false → InNet net w i j
in_net_triangle net w h i j e₁ e₆ e₂ = in_net_lem net e₁ e₂ (cell_in_grid w h i j e₁ e₆)

-- what is known where nothing is refused
pub record GoodTriangle (net : List ℤ) (w i j : ℕ) (down : Bool) (room : ℕ) : Type 0 where
  pub lies : InNet net w i j
  pub room_enough : 57 ≤ room
  pub range : triangle_beyond net w (triangle_at i j down) ≡ false

pub good_triangle : (net : List ℤ) (w h i j : ℕ) (down : Bool) (room : ℕ) →
    bezier_refusal net w h i j down room ≡ 0 → GoodTriangle net w i j down room
good_triangle net w h i j down room e =
    let e₁ = fault_none (bad_size w h) 1 _ (lit< tt) e in
    let e₆ = fault_none (no_triangle w h i j) 6 _ (lit< tt) e₁.1 in
    let e₂ = fault_none (short_net net w h) 2 _ (lit< tt) e₆.1 in
    let e₅ = fault_none (ltb room 57) 5 _ (lit< tt) e₂.1 in
    let e₃ = fault_none (triangle_beyond net w (triangle_at i j down)) 3 _ (lit< tt) e₅.1 in
    record {
      lies = in_net_triangle net w h i j e₁.0 e₆.0 e₂.0;
      room_enough = ltb-false room 57 e₅.0;
      range = e₃.0;
    }

-- the nine control values in coordinate x, in corner form
abbrev pub formed : List ℤ → ℕ → Triangle → ℕ → List ℤ
formed net w t x = in_form t.down (controls_of (field net w x) t) o123

-- what the code reads of the loaded and reordered control triangles
pub reordered_values : (net : List ℤ) (w : ℕ) (t : Triangle) {c d : List (List (List ℤ))} → c ≡ corner_controls net w t →
    d ≡ reordered_controls t.down c → (x : ℕ) → values_in d x ≡ formed net w t x
reordered_values net w t ec ed x =
    ap (λ (d : List (List (List ℤ))). values_in d x) (ed ∙ ap (reordered_controls t.down) ec)
    ∙ form_values t.down o123 (corner_controls net w t) x
    ∙ loaded_form net w t t.down o123 x

-- they are in range
pub formed_within : (net : List ℤ) (w i j : ℕ) (down : Bool) → InNet net w i j →
    triangle_beyond net w (triangle_at i j down) ≡ false →
    (x : ℕ) → x < 3 → Within 16777216 (formed net w (triangle_at i j down) x)
formed_within net w i j down l e x h =
    form_within 16777216 down (controls_of (field net w x) (triangle_at i j down)) o123
    (value_size net w i j down l e x h)

-- the points of the control values are the points of the net
pub points_of_net : (net : List ℤ) (w : ℕ) (t : Triangle) →
    runs 19 (three_at (points_of (formed net w t 0)) (points_of (formed net w t 1)) (points_of (formed net w t 2))) ≡ bezier_numbers net w t
points_of_net net w t =
    let same : (x : ℕ) → points_of (formed net w t x) ≡ bezier_points t.down (controls_of (field net w x) t) =
    λ x. points_by_rows t.down (controls_of (field net w x) t) in
    λ i. runs 19 (three_at (same 0 i) (same 1 i) (same 2 i))

-- answer and output where the call is accepted, and where it is refused
pub accepted_bezier : (net : List ℤ) (w h i j : ℕ) (down : Bool) (out : List ℤ) {l : List ℤ} →
    bezier_refusal net w h i j down (length out) ≡ 0 →
    l ≡ over (bezier_numbers net w (triangle_at i j down)) out →
    (◌≡◌ {A = ℕ × Bool} (0, true) (bezier_answer net w h i j down (length out)))
    × (l ≡ bezier_output net w h i j down out)
unfolding bezier_output
accepted_bezier net w h i j down out e q = (
  (λ t. (sym e t, sym (eq-eqb (bezier_refusal net w h i j down (length out)) 0 e) t)),
  q ∙ when_accepted (bezier_refusal net w h i j down (length out))
      (over (bezier_numbers net w (triangle_at i j down)) out) out e,
)

pub refused_bezier : (net : List ℤ) (w h i j : ℕ) (down : Bool) (out : List ℤ) {n : ℕ} →
    n ≡ bezier_refusal net w h i j down (length out) → (n ≡ 0 → ⊥) →
    (◌≡◌ {A = ℕ × Bool} (n, false) (bezier_answer net w h i j down (length out)))
    × (out ≡ bezier_output net w h i j down out)
unfolding bezier_output
refused_bezier net w h i j down out e k =
    let there : bezier_refusal net w h i j down (length out) ≡ 0 → ⊥ = λ z. k (e ∙ z) in (
      (λ t. (e t, sym (ne_eqb (bezier_refusal net w h i j down (length out)) 0 there) t)),
      when_refused (bezier_refusal net w h i j down (length out))
          (over (bezier_numbers net w (triangle_at i j down)) out) out there,
    )

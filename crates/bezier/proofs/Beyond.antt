-- Numbers beyond 9wh do not matter to Bézier nets: each answer is that of the net cut after its 9wh numbers.
use mathlib.Core.Path.{◌≡◌, ap, ◌∙◌}
use mathlib.Core.Bool.{Bool, cond}
use mathlib.Core.List.{List, [], ◌∷◌}
use Prim.Native.Nat.{ℕ, ◌<◌}
use lib.Dec.{ltb, lit<}
use lib.IntN.{ℤ, pos}
use lib.ListN.{length, get_or}
use borrow.Author.Tests.{ltb-false, eqb-true}
use Rattle.exact.specs.Filling.{over, runs}
use Rattle.net.specs.Net.{Triangle, triangle_at, numbers, field}
use Rattle.net.specs.Refusals.{accepted, bad_size, short_net}
use Rattle.net.proofs.Faults.{fault_none}
use Rattle.net.proofs.Beyond.{cut, cond_where, cond_else, cut_short}
use Rattle.places.proofs.Cells.{InGrid}
use Rattle.triangles.specs.BezierPoints.{controls_of}
use Rattle.triangles.specs.Refusals.{triangle_beyond}
use Rattle.triangles.proofs.Beyond.{cut_controls, cut_triangle}
use Rattle.bezier.specs.BezierNet.{bezier_points, bezier_numbers}
use Rattle.bezier.specs.Refusals.{no_triangle, bezier_refusal}
use Rattle.bezier.specs.Answers.{bezier_output}
use Rattle.bezier.proofs.BezierNets.{cell_in_grid}

pub cut_numbers : (net : List ℤ) (w h : ℕ) (t : Triangle) → InGrid w h t.column t.row →
    bezier_numbers net w t ≡ bezier_numbers (cut net w h) w t
cut_numbers net w h t g =
    let same : (x : ℕ) → x < 3 →
    bezier_points t.down (controls_of (field net w x) t)
    ≡ bezier_points t.down (controls_of (field (cut net w h) w x) t) =
    λ x b. ap (bezier_points t.down) (cut_controls net w h t g x b) in
    λ i. runs 19 (λ (n : ℕ). get_or (same 0 (lit< tt) i) n (pos 0) ∷ get_or (same 1 (lit< tt) i) n (pos 0) ∷ get_or (same 2 (lit< tt) i) n (pos 0) ∷ [])

pub cut_bezier_refusal : (net : List ℤ) (w h i j : ℕ) (down : Bool) (room : ℕ) →
    bezier_refusal net w h i j down room ≡ bezier_refusal (cut net w h) w h i j down room
cut_bezier_refusal net w h i j down room =
    cond_else (bad_size w h) 1 (λ e₁. cond_else (no_triangle w h i j) 6 (λ e₆.
    cond_else (short_net net w h) 2 (λ e₂. cond_else (ltb room 57) 5 (λ e₅.
    ap (λ (b : Bool). cond b 3 0)
    (cut_triangle net w h (triangle_at i j down) (cell_in_grid w h i j e₁ e₆)
    (ltb-false (length net) (numbers w h) e₂))))
    ∙ ap (λ (b : Bool). cond b 2
    (cond (ltb room 57) 5 (cond (triangle_beyond (cut net w h) w (triangle_at i j down)) 3 0))) (cut_short net w h)))

-- an accepted one lies in the grid
grid_of : (net : List ℤ) (w h i j : ℕ) (down : Bool) (room : ℕ) → bezier_refusal net w h i j down room ≡ 0 →
    InGrid w h i j
grid_of net w h i j down room e =
    let e₁ = fault_none (bad_size w h) 1 _ (lit< tt) e in
    cell_in_grid w h i j e₁.0 (fault_none (no_triangle w h i j) 6 _ (lit< tt) e₁.1).0

pub cut_bezier_output : (net : List ℤ) (w h i j : ℕ) (down : Bool) (out : List ℤ) →
    bezier_output net w h i j down out ≡ bezier_output (cut net w h) w h i j down out
unfolding bezier_output
cut_bezier_output net w h i j down out =
    let refusal = bezier_refusal net w h i j down (length out) in
    cond_where (accepted refusal) out
    (λ e.
    let g = grid_of net w h i j down (length out) (eqb-true refusal 0 e) in
    ap (λ (l : List ℤ). over l out) (cut_numbers net w h (triangle_at i j down) g))
    ∙ ap (λ (n : ℕ). cond (accepted n) (over (bezier_numbers (cut net w h) w (triangle_at i j down)) out) out)
    (cut_bezier_refusal net w h i j down (length out))

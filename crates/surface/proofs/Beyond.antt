-- Numbers beyond 9wh do not matter to surface points and the viewer's points: each answer is that of the net cut after
-- its 9wh numbers.
use mathlib.Core.Path.{◌≡◌, ap, ◌∙◌}
use mathlib.Core.Bool.{Bool, true, cond}
use mathlib.Core.List.{List, [], ◌∷◌, map}
use Prim.Native.Nat.{ℕ, ◌<◌}
use lib.Dec.{lit<}
use lib.IntN.{ℤ}
use lib.ListN.{length}
use borrow.Author.Tests.{ltb-false, eqb-true}
use Rattle.exact.specs.Rounding.{rounded}
use Rattle.net.specs.Net.{numbers}
use Rattle.net.specs.Refusals.{accepted, bad_size, short_net}
use Rattle.net.proofs.Faults.{fault_none}
use Rattle.net.proofs.Beyond.{cut, cond_where, cond_else, cut_short}
use Rattle.places.specs.Places.{cell, chosen, share, order_of}
use Rattle.places.specs.Refusals.{no_place}
use Rattle.places.proofs.Cells.{InGrid, cells_in_grid}
use Rattle.triangles.specs.Refusals.{triangle_beyond}
use Rattle.triangles.proofs.Beyond.{cut_triangle, cut_controls}
use Rattle.spline.specs.Spline.{value_in, spline}
use Rattle.surface.specs.SurfacePoint.{coordinate, surface_point}
use Rattle.surface.specs.Refusals.{point_refusal}
use Rattle.surface.specs.Answers.{point_answer, view_answer, millimetres}

place_grid_of : (net : List ℤ) (w h p q : ℕ) → point_refusal net w h p q ≡ 0 → InGrid w h (cell 1024 w p) (cell 1024 h q)
place_grid_of net w h p q e =
    let e₁ = fault_none (bad_size w h) 1 _ (lit< tt) e in
    cells_in_grid w h p q e₁.0 (fault_none (no_place 1024 w h p q) 6 _ (lit< tt) e₁.1).0

pub cut_point_refusal : (net : List ℤ) (w h p q : ℕ) → point_refusal net w h p q ≡ point_refusal (cut net w h) w h p q
cut_point_refusal net w h p q =
    cond_else (bad_size w h) 1 (λ e₁. cond_else (no_place 1024 w h p q) 6 (λ e₆.
    cond_else (short_net net w h) 2 (λ e₂.
    ap (λ (b : Bool). cond b 3 0)
    (cut_triangle net w h (chosen 1024 w h p q) (cells_in_grid w h p q e₁ e₆)
    (ltb-false (length net) (numbers w h) e₂)))
    ∙ ap (λ (b : Bool). cond b 2 (cond (triangle_beyond (cut net w h) w (chosen 1024 w h p q)) 3 0))
    (cut_short net w h)))

cut_coordinate : (net : List ℤ) (w h p q : ℕ) → InGrid w h (cell 1024 w p) (cell 1024 h q) → (x : ℕ) → x < 3 →
    coordinate net w h p q x ≡ coordinate (cut net w h) w h p q x
unfolding coordinate spline
cut_coordinate net w h p q g x b =
    let t = chosen 1024 w h p q in
    let s = share 1024 w h p q in
    λ i. rounded (value_in t.down (cut_controls net w h t g x b i) (order_of s) s) 37748736

-- a point that is accepted is the same
pub cut_point : (net : List ℤ) (w h p q : ℕ) → accepted (point_refusal net w h p q) ≡ true →
    surface_point net w h p q ≡ surface_point (cut net w h) w h p q
cut_point net w h p q e =
    let g = place_grid_of net w h p q (eqb-true (point_refusal net w h p q) 0 e) in
    λ i. cut_coordinate net w h p q g 0 (lit< tt) i ∷ cut_coordinate net w h p q g 1 (lit< tt) i
    ∷ cut_coordinate net w h p q g 2 (lit< tt) i ∷ []

-- so the answers are
pub answers_alike : {A : Type 0} {r r' : ℕ} {v v' : List A} → r ≡ r' → (accepted r ≡ true → v ≡ v') →
    ◌≡◌ {A = ℕ × List A} (r, cond (accepted r) v []) (r', cond (accepted r') v' [])
answers_alike {r = r} {v' = v'} e f =
    (λ i. (r, cond_where (accepted r) [] f i)) ∙ (λ i. (e i, cond (accepted (e i)) v' []))

pub cut_point_answer : (net : List ℤ) (w h p q : ℕ) → point_answer net w h p q ≡ point_answer (cut net w h) w h p q
unfolding point_answer
cut_point_answer net w h p q = answers_alike (cut_point_refusal net w h p q) (cut_point net w h p q)

pub cut_view_answer : (net : List ℤ) (w h p q : ℕ) → view_answer net w h p q ≡ view_answer (cut net w h) w h p q
unfolding view_answer
cut_view_answer net w h p q =
    answers_alike (cut_point_refusal net w h p q) (λ e. ap (map millimetres) (cut_point net w h p q e))

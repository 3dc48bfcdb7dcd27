-- Numbers beyond 9wh and bytes past the last triangle do not matter: each answer is that of the net cut after its 9wh
-- numbers and of the outline cut after its last triangle.
use mathlib.Core.Path.{◌≡◌, refl, sym, ap, ◌∙◌}
use mathlib.Core.Bool.{Bool, true, false, ◌||◌, not, cond}
use mathlib.Core.List.{List, [], ◌∷◌, ◌++◌, map}
use Prim.Native.Nat.{ℕ}
use native.Mathlib.Omega.{arith}
use lib.Dec.{ltb, lit<}
use lib.IntN.{ℤ}
use lib.ListN.{length}
use borrow.Author.Tests.{ltb-false, eq-eqb, eqb-true}
use Rattle.exact.specs.Filling.{over}
use Rattle.net.specs.Net.{OfNet, numbers}
use Rattle.net.specs.Refusals.{bad_size, short_net, accepted, answer_by}
use Rattle.net.proofs.Faults.{none_clear, clear_none, or_none}
use Rattle.net.proofs.Beyond.{cut, cond_where, cond_else, cut_short}
use Rattle.places.specs.Places.{chosen}
use Rattle.places.specs.Refusals.{no_place}
use Rattle.places.proofs.Cells.{InGrid, cells_in_grid}
use Rattle.triangles.specs.Refusals.{triangle_beyond}
use Rattle.triangles.proofs.Beyond.{cut_triangle}
use Rattle.outline.specs.Outline.{present}
use Rattle.outline.specs.Refusals.{short_outline, bad_byte}
use Rattle.outline.proofs.CutOutlines.{cut_outline, cut_present, cut_short_outline, cut_bad_byte}
use Rattle.door.specs.Door.{on_door}
use Rattle.door.proofs.CutDoors.{cut_on_door}
use Rattle.bezier.specs.BezierNet.{bezier_numbers}
use Rattle.bezier.specs.Refusals.{no_triangle}
use Rattle.bezier.proofs.Beyond.{cut_numbers}
use Rattle.bezier.proofs.BezierNets.{cell_in_grid}
use Rattle.surface.specs.Refusals.{point_refusal}
use Rattle.surface.specs.SurfacePoint.{surface_point}
use Rattle.surface.specs.Answers.{millimetres}
use Rattle.surface.proofs.Beyond.{cut_point, answers_alike}
use Rattle.outlined_points.specs.Refusals.{triangle_by, point_faults, outlined_point_refusal, bezier_faults, outlined_bezier_refusal}
use Rattle.outlined_points.specs.Answers.{outlined_point_answer, outlined_point_answer_with, outlined_view_answer, outlined_view_answer_with, outlined_bezier_answer, outlined_bezier_output}

module _ (net : List ℤ) (w h : ℕ) (outline : List ℕ) where
  abbrev net' : List ℤ
  net' = cut net w h

  abbrev outline' : List ℕ
  outline' = cut_outline outline w h

  -- row 2
  cut_two : (short_net net w h || short_outline outline w h) ≡ (short_net net' w h || short_outline outline' w h)
  cut_two = λ t. cut_short net w h t || sym (cut_short_outline outline w h) t

  -- ---- points

  module _ (p q : ℕ) where
    pub cut_outlined_point_refusal : (short : Bool) →
        outlined_point_refusal net w h outline p q short ≡ outlined_point_refusal net' w h outline' p q short
    cut_outlined_point_refusal short =
        cond_else (bad_size w h) 1 (λ e₁. cond_else (no_place 1024 w h p q) 6 (λ e₆.
        cond_else (short_net net w h || short_outline outline w h) 2 (λ e₂.
        let long = ltb-false (length net) (numbers w h) (or_none (short_net net w h) _ e₂).0 in
        let range = cut_triangle net w h (chosen 1024 w h p q) (cells_in_grid w h p q e₁ e₆) long in
        λ t.
        cond (sym (cut_bad_byte outline w h) t) 13
        (cond (not (sym (cut_on_door 1024 outline w h p q) t)) 15 (cond short 5 (cond (range t) 3 0))))
        ∙ (λ t. cond (cut_two t) 2
        (cond (bad_byte outline' w h) 13
        (cond (not (on_door 1024 outline' w h p q)) 15
        (cond short 5 (cond (triangle_beyond net' w (chosen 1024 w h p q)) 3 0)))))))

    -- a point that is accepted is accepted by the plain call, and the same
    plainly_accepted : (short : Bool) → outlined_point_refusal net w h outline p q short ≡ 0 →
        accepted (point_refusal net w h p q) ≡ true
    plainly_accepted short e =
        let k = none_clear
        (point_faults net w h outline p q ++ (short, 5) ∷ (triangle_beyond net w (chosen 1024 w h p q), 3) ∷ [])
        (lit< tt, (lit< tt, (lit< tt, (lit< tt, (lit< tt, (lit< tt, (lit< tt, tt))))))) e in
        let after = k.1.1 in
        eq-eqb (point_refusal net w h p q) 0
        (clear_none
        ((bad_size w h, 1) ∷ (no_place 1024 w h p q, 6) ∷ (short_net net w h, 2) ∷ (false, 5)
        ∷ (triangle_beyond net w (chosen 1024 w h p q), 3) ∷ [])
        (k.0, (k.1.0, ((or_none (short_net net w h) _ after.0).0, (refl, (after.1.1.1.1.0, tt))))))

    cut_outlined_point : (short : Bool) → accepted (outlined_point_refusal net w h outline p q short) ≡ true →
        surface_point net w h p q ≡ surface_point net' w h p q
    cut_outlined_point short e =
        cut_point net w h p q (plainly_accepted short (eqb-true (outlined_point_refusal net w h outline p q short) 0 e))

    pub cut_outlined_point_answer_with : (short : Bool) →
        outlined_point_answer_with net w h outline p q short ≡ outlined_point_answer_with net' w h outline' p q short
    cut_outlined_point_answer_with short =
        answers_alike (cut_outlined_point_refusal short) (cut_outlined_point short)

    pub cut_outlined_view_answer_with : (short : Bool) →
        outlined_view_answer_with net w h outline p q short ≡ outlined_view_answer_with net' w h outline' p q short
    cut_outlined_view_answer_with short =
        answers_alike (cut_outlined_point_refusal short) (λ e. ap (map millimetres) (cut_outlined_point short e))

    pub cut_outlined_point_answer : outlined_point_answer net w h outline p q ≡ outlined_point_answer net' w h outline' p q
    unfolding outlined_point_answer
    cut_outlined_point_answer = cut_outlined_point_answer_with false

    pub cut_outlined_view_answer : outlined_view_answer net w h outline p q ≡ outlined_view_answer net' w h outline' p q
    unfolding outlined_view_answer
    cut_outlined_view_answer = cut_outlined_view_answer_with false

  -- ---- Bézier nets

  module _ (i j down : ℕ) where
    asked_in_grid : bad_size w h ≡ false → (no_triangle w h i j || ltb 1 down) ≡ false → InGrid w h i j
    asked_in_grid e₁ e₆ = cell_in_grid w h i j e₁ (or_none (no_triangle w h i j) _ e₆).0

    pub cut_outlined_bezier_refusal : (room : ℕ) →
        outlined_bezier_refusal net w h outline i j down room ≡ outlined_bezier_refusal net' w h outline' i j down room
    cut_outlined_bezier_refusal room =
        let u = triangle_by i j down in
        cond_else (bad_size w h) 1 (λ e₁. cond_else (no_triangle w h i j || ltb 1 down) 6 (λ e₆.
        let g = asked_in_grid e₁ e₆ in
        let o : OfNet w h u = (omega (arith, g.column), omega (arith, g.row)) in
        cond_else (short_net net w h || short_outline outline w h) 2 (λ e₂.
        let long = ltb-false (length net) (numbers w h) (or_none (short_net net w h) _ e₂).0 in
        λ t.
        cond (sym (cut_bad_byte outline w h) t) 13
        (cond (not (sym (cut_present outline w h u o) t)) 15
        (cond (ltb room 57) 5 (cond (cut_triangle net w h u g long t) 3 0))))
        ∙ (λ t. cond (cut_two t) 2
        (cond (bad_byte outline' w h) 13
        (cond (not (present outline' w u)) 15 (cond (ltb room 57) 5 (cond (triangle_beyond net' w u) 3 0)))))))

    pub cut_outlined_bezier_answer : (room : ℕ) →
        outlined_bezier_answer net w h outline i j down room ≡ outlined_bezier_answer net' w h outline' i j down room
    cut_outlined_bezier_answer room = ap answer_by (cut_outlined_bezier_refusal room)

    -- an accepted one lies in the grid
    accepted_in_grid : (room : ℕ) → outlined_bezier_refusal net w h outline i j down room ≡ 0 → InGrid w h i j
    accepted_in_grid room e =
        let k = none_clear
        (bezier_faults net w h outline i j down
        ++ (ltb room 57, 5) ∷ (triangle_beyond net w (triangle_by i j down), 3) ∷ [])
        (lit< tt, (lit< tt, (lit< tt, (lit< tt, (lit< tt, (lit< tt, (lit< tt, tt))))))) e in
        asked_in_grid k.0 k.1.0

    pub cut_outlined_bezier_output : (out : List ℤ) →
        outlined_bezier_output net w h outline i j down out ≡ outlined_bezier_output net' w h outline' i j down out
    unfolding outlined_bezier_output
    cut_outlined_bezier_output out =
        let r = outlined_bezier_refusal net w h outline i j down (length out) in
        cond_where (accepted r) out
        (λ e.
        ap (λ (l : List ℤ). over l out)
        (cut_numbers net w h (triangle_by i j down) (accepted_in_grid (length out) (eqb-true r 0 e))))
        ∙ ap (λ (n : ℕ). cond (accepted n) (over (bezier_numbers net' w (triangle_by i j down)) out) out)
        (cut_outlined_bezier_refusal (length out))

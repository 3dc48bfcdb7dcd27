-- With all triangles present the answers are the plain ones: no byte is above 1, every place of the grid lies in a
-- present triangle, the one that is chosen for it, and no triangle of the net is missing.
use mathlib.Core.Path.{◌≡◌, refl, ap, ◌∙◌}
use mathlib.Core.Bool.{Bool, true, false, ◌||◌, not, cond, or-false}
use mathlib.Core.List.{List}
use Prim.Native.Nat.{ℕ, ◌≤◌}
use native.Mathlib.Omega.{arith}
use lib.Dec.{ltb, eqb, lit<}
use lib.IntN.{ℤ}
use lib.ListN.{length}
use borrow.Author.Tests.{le-ltb}
use Rattle.net.specs.Net.{OfNet}
use Rattle.net.specs.Refusals.{bad_size, short_net, answer_by, output_after}
use Rattle.net.proofs.Beyond.{cond_else}
use Rattle.net.proofs.Places.{good_size}
use Rattle.places.specs.Places.{chosen}
use Rattle.places.specs.Refusals.{no_place}
use Rattle.triangles.specs.Refusals.{triangle_beyond}
use Rattle.outline.specs.Outline.{present}
use Rattle.outline.specs.Refusals.{short_outline, bad_byte}
use Rattle.outline.specs.Promises.{Full}
use Rattle.outline.proofs.FullOutlines.{full_two, full_bytes, full_present}
use Rattle.door.specs.Door.{on_door}
use Rattle.door.proofs.FullDoors.{full_on_door}
use Rattle.bezier.specs.BezierNet.{bezier_numbers}
use Rattle.bezier.specs.Refusals.{no_triangle, bezier_refusal}
use Rattle.bezier.specs.Answers.{bezier_output}
use Rattle.bezier.proofs.BezierNets.{cell_in_grid}
use Rattle.surface.specs.Refusals.{point_refusal_with}
use Rattle.surface.specs.Answers.{point_answer, point_answer_with, view_answer, view_answer_with}
use Rattle.surface.proofs.Beyond.{answers_alike}
use Rattle.outlined_points.specs.Refusals.{triangle_by, outlined_point_refusal, outlined_bezier_refusal}
use Rattle.outlined_points.specs.Answers.{outlined_point_answer, outlined_point_answer_with, outlined_view_answer, outlined_view_answer_with, outlined_bezier_output}
use Rattle.outlined_points.specs.Promises.{FullOutlinePoints, FullOutlineViews, FullOutlineBezier}

module _ (outline : List ℕ) (w h : ℕ) (full : Full outline w h) where
  full_door : (p q : ℕ) → bad_size w h ≡ false → no_place 1024 w h p q ≡ false → on_door 1024 outline w h p q ≡ true
  full_door p q e f =
      let s = good_size w h e in
      full_on_door 1024 outline w h p q full (lit< tt) s.wide s.high f

  module _ (net : List ℤ) (p q : ℕ) (short : Bool) where
    abbrev after_two : ℕ
    after_two = cond short 5 (cond (triangle_beyond net w (chosen 1024 w h p q)) 3 0)

    full_point_refusal : outlined_point_refusal net w h outline p q short ≡ point_refusal_with net w h p q short
    full_point_refusal =
        cond_else (bad_size w h) 1 (λ e₁. cond_else (no_place 1024 w h p q) 6 (λ e₆. λ t.
        cond (full_two outline w h full (short_net net w h) t) 2
        (cond (full_bytes outline w h full t) 13 (cond (not (full_door p q e₁ e₆ t)) 15 after_two))))

  module _ (net : List ℤ) (i j down : ℕ) (kind : down ≤ 1) (room : ℕ) where
    abbrev after_net_two : ℕ
    after_net_two = cond (ltb room 57) 5 (cond (triangle_beyond net w (triangle_by i j down)) 3 0)

    full_bezier_refusal :
        outlined_bezier_refusal net w h outline i j down room ≡ bezier_refusal net w h i j (eqb down 1) room
    full_bezier_refusal =
        let asked : (no_triangle w h i j || ltb 1 down) ≡ no_triangle w h i j =
        ap (λ (b : Bool). no_triangle w h i j || b) (le-ltb 1 down kind) ∙ or-false (no_triangle w h i j) in
        (λ t. cond (bad_size w h) 1
        (cond (asked t) 6
        (cond (short_net net w h || short_outline outline w h) 2
        (cond (bad_byte outline w h) 13 (cond (not (present outline w (triangle_by i j down))) 15 after_net_two)))))
        ∙ cond_else (bad_size w h) 1 (λ e₁. cond_else (no_triangle w h i j) 6 (λ e₆.
        let g = cell_in_grid w h i j e₁ e₆ in
        let o : OfNet w h (triangle_by i j down) = (omega (arith, g.column), omega (arith, g.row)) in
        λ t.
        cond (full_two outline w h full (short_net net w h) t) 2
        (cond (full_bytes outline w h full t) 13
        (cond (not (full_present outline w h full (triangle_by i j down) o t)) 15 after_net_two))))

pub full_point : FullOutlinePoints
unfolding outlined_point_answer point_answer
full_point net w h outline p q full = (with_room false, with_room)
  where
    with_room : (short : Bool) → outlined_point_answer_with net w h outline p q short ≡ point_answer_with net w h p q short
    with_room short = answers_alike (full_point_refusal outline w h full net p q short) (λ e. refl)

pub full_view : FullOutlineViews
unfolding outlined_view_answer view_answer
full_view net w h outline p q full = (with_room false, with_room)
  where
    with_room : (short : Bool) → outlined_view_answer_with net w h outline p q short ≡ view_answer_with net w h p q short
    with_room short = answers_alike (full_point_refusal outline w h full net p q short) (λ e. refl)

pub full_bezier : FullOutlineBezier
unfolding outlined_bezier_output bezier_output
full_bezier net w h outline i j down full kind =
    let same : (room : ℕ) →
    outlined_bezier_refusal net w h outline i j down room ≡ bezier_refusal net w h i j (eqb down 1) room =
    full_bezier_refusal outline w h full net i j down kind in (
      (λ room. ap answer_by (same room)),
      (λ out. ap (λ (r : ℕ). output_after r (bezier_numbers net w (triangle_by i j down)) out) (same (length out))),
    )

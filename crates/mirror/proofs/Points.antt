-- Surface points, viewer's points and Bézier nets of mirror images, at every depth, without and with an outline.
use mathlib.Core.Path.{◌≡◌, refl, sym, ap, ◌∙◌}
use mathlib.Core.Bool.{Bool, true, false, ◌||◌, not, cond}
use mathlib.Core.List.{List, [], ◌∷◌, map}
use Prim.Native.Nat.{ℕ, ◌≤◌, ◌<◌}
use native.Mathlib.Omega.{arith}
use lib.Dec.{ltb, eqb, lit<}
use lib.Ieee.{Float}
use lib.IntN.{ℤ, pos}
use lib.ListN.{length, get_or, get_or-map}
use borrow.Author.Tests.{eqb-true}
use Rattle.exact.specs.Rounding.{rounded, negated_if}
use Rattle.net.specs.Net.{Index, one, two, three, Triangle, triangle_at, corner, Field, field}
use Rattle.net.specs.Refusals.{accepted, bad_size, short_net}
use Rattle.net.proofs.Faults.{fault_none, or_none, cond_true}
use Rattle.net.proofs.Beyond.{cond_where, cond_else}
use Rattle.net.proofs.Places.{good_size}
use Rattle.places.specs.Places.{OnGrid, o123, chosen, share, order_of}
use Rattle.places.specs.Refusals.{no_place}
use Rattle.places.proofs.Cells.{InGrid, on_grid, cells_in_grid, chosen_lies}
use Rattle.triangles.specs.BezierPoints.{Controls, controls_of, control_list}
use Rattle.triangles.specs.Refusals.{triangle_beyond}
use Rattle.triangles.proofs.CornerForm.{in_form}
use Rattle.spline.specs.Spline.{value_in, spline}
use Rattle.spline.specs.Shares.{control_weights, shares_in}
use Rattle.spline.proofs.AnyTriangle.{chosen_of_net, spline_by_weights}
use Rattle.outline.specs.Outline.{present}
use Rattle.outline.specs.Refusals.{bad_byte, disconnected}
use Rattle.door.specs.Door.{on_door}
use Rattle.bezier.specs.BezierNet.{bezier_points}
use Rattle.bezier.specs.Refusals.{no_triangle}
use Rattle.bezier.specs.Weights.{bezier_rows}
use Rattle.bezier.proofs.Weights.{points_by_rows}
use Rattle.bezier.proofs.BezierNets.{cell_in_grid}
use Rattle.surface.specs.SurfacePoint.{coordinate, surface_point}
use Rattle.surface.specs.Refusals.{point_refusal_with}
use Rattle.surface.specs.Answers.{millimetres, point_answer_with}
use Rattle.surface.proofs.Beyond.{answers_alike}
use Rattle.outlined_points.specs.Refusals.{triangle_by, outlined_point_refusal}
use Rattle.outlined_points.specs.Answers.{outlined_point_answer_with}
use Rattle.subdivision.specs.Refinement.{side_after}
use Rattle.refine.specs.Refusals.{too_deep, too_short}
use Rattle.refine.specs.Answers.{refine_output}
use Rattle.refine.proofs.Depths.{good_depth}
use Rattle.steps.proofs.RefinedNets.{good_after}
use Rattle.refined_points.specs.Refusals.{off_grid}
use Rattle.refined_points.specs.Answers.{refusal_at, refined_surface_point, refined_point_answer}
use Rattle.outlined_refine.specs.Answers.{short_of}
use Rattle.outlined_refined_points.specs.Refusals.{off_door}
use Rattle.outlined_refined_points.specs.Answers.{outlined_refusal_at, outlined_refined_answer}
use Rattle.mirror.specs.Mirror.{Coordinates, Mirrored, mirror_point, mirror_answer, in_millimetres}
use Rattle.mirror.specs.Promises.{MirroredPoints, MirroredDepths, MirroredDoorDepths, BezierOpposite, MirroredBezier, MirroredOutlinedBezier}
use Rattle.mirror.proofs.Numbers.{rounded_negated, values_negated}
use Rattle.mirror.proofs.Fields.{turned}
use Rattle.mirror.proofs.Ranges.{net_alike, triangle_alike}
use Rattle.mirror.proofs.Nets.{refined_mirrored, refining_mirrored, outlined_refining_mirrored, rows_alike, with_outline}

-- ---- the exact spline, and its rounded value

spline_turned : (s : Bool) (F : Field) (w h D p q : ℕ) → 0 < D → 2 ≤ w → 2 ≤ h → OnGrid D w h p q →
    spline (turned s F) w h D p q ≡ negated_if s (spline F w h D p q)
spline_turned s F w h D p q d a b g =
    let t = chosen D w h p q in
    let of_net = chosen_of_net D w h p q a b in
    let lies = chosen_lies D w h p q d a b g in
    let row = control_weights t.down (shares_in D p q t) in
    spline_by_weights (turned s F) w h D p q t d of_net lies
    ∙ values_negated s row (control_list (controls_of F t))
    ∙ ap (negated_if s) (sym (spline_by_weights F w h D p q t d of_net lies))

-- the corners of a triangle of the grid are vertices of it
corner_lies : (w h i j : ℕ) → InGrid w h i j → (down : Bool) (P : Index) →
    ((corner (triangle_at i j down) P).column < w) × ((corner (triangle_at i j down) P).row < h)
corner_lies w h i j g false one = (omega (arith, g.column), omega (arith, g.row))
corner_lies w h i j g false two = (omega (arith, g.column), omega (arith, g.row))
corner_lies w h i j g false three = (omega (arith, g.column), omega (arith, g.row))
corner_lies w h i j g true one = (omega (arith, g.column), omega (arith, g.row))
corner_lies w h i j g true two = (omega (arith, g.column), omega (arith, g.row))
corner_lies w h i j g true three = (omega (arith, g.column), omega (arith, g.row))

module _ {m : Coordinates} {w h : ℕ} {net image : List ℤ} (e : Mirrored m w h net image) where
  -- the control values of a triangle of the grid
  controls_mirrored : (i j : ℕ) (down : Bool) → InGrid w h i j → (x : ℕ) → x < 3 →
      controls_of (field image w x) (triangle_at i j down) ≡ controls_of (turned (m x) (field net w x)) (triangle_at i j down)
  controls_mirrored i j down g x c =
      λ t P l.
      let v = corner (triangle_at i j down) P in
      let n = corner_lies w h i j g down P in
      e.opposite x c v.column v.row n.0 n.1 l t

  module _ (p q : ℕ) (size : bad_size w h ≡ false) (place : no_place 1024 w h p q ≡ false) where
    spline_mirrored : (x : ℕ) → x < 3 →
        spline (field image w x) w h 1024 p q ≡ spline (turned (m x) (field net w x)) w h 1024 p q
    unfolding spline
    spline_mirrored x c =
        let t = chosen 1024 w h p q in
        let s = share 1024 w h p q in
        let at = controls_mirrored t.column t.row t.down (cells_in_grid w h p q size place) x c in
        λ i. value_in t.down (at i) (order_of s) s

    coordinate_mirrored : (x : ℕ) → x < 3 → coordinate image w h p q x ≡ negated_if (m x) (coordinate net w h p q x)
    unfolding coordinate
    coordinate_mirrored x c =
        let good = good_size w h size in
        let place' = on_grid 1024 w h p q place in
        ap (λ (z : ℤ). rounded z 37748736)
        (spline_mirrored x c
        ∙ spline_turned (m x) (field net w x) w h 1024 p q (lit< tt) good.wide good.high place')
        ∙ rounded_negated (m x) (spline (field net w x) w h 1024 p q) 37748736 (lit< tt)

    pub point_mirrored : surface_point image w h p q ≡ mirror_point m (surface_point net w h p q)
    point_mirrored =
        λ i. coordinate_mirrored 0 (lit< tt) i ∷ coordinate_mirrored 1 (lit< tt) i ∷ coordinate_mirrored 2 (lit< tt) i
        ∷ []

-- ---- answers

-- the first rows of a call that was accepted
first_rows : (a b : Bool) (n : ℕ) {rest : ℕ} → 0 < n → cond a 1 (cond b n rest) ≡ 0 → (a ≡ false) × (b ≡ false) × (rest ≡ 0)
first_rows a b n {rest} k z =
    let f = fault_none a 1 (cond b n rest) (lit< tt) z in
    let g = fault_none b n rest k f.1 in
    (f.0, g.0, g.1)

answer_mirrored : (m : Coordinates) (r r' : ℕ) (v v' : List ℤ) → r' ≡ r → (r ≡ 0 → v' ≡ mirror_point m v) →
    ◌≡◌ {A = ℕ × List ℤ} (r', cond (accepted r') v' []) (mirror_answer m (r, cond (accepted r) v []))
answer_mirrored m r r' v v' same point =
    answers_alike {v = v'} {v' = mirror_point m v} same (λ a. point (sym same ∙ eqb-true r' 0 a))
    ∙ (λ i. (r, cond_where (accepted r) [] (λ a. ap (mirror_point m) (cond_true (accepted r) v [] a)) i))

-- an answer in millimetres: where it is refused, both are empty
view_by : (r : ℕ) (v : List ℤ) (answer : ℕ × List ℤ) → ◌≡◌ {A = ℕ × List ℤ} (r, cond (accepted r) v []) answer →
    ◌≡◌ {A = ℕ × List Float} (r, cond (accepted r) (map millimetres v) []) (in_millimetres answer)
view_by r v answer d = (λ i. (r, inside (accepted r) i)) ∙ ap in_millimetres d
  where
    inside : (b : Bool) → cond b (map millimetres v) [] ≡ map millimetres (cond b v [])
    inside true = refl
    inside false = refl

module _ (m : Coordinates) (w h : ℕ) (net image : List ℤ) (e : Mirrored m w h net image) where
  -- 3 of a triangle of the grid
  corners_alike : (i j : ℕ) (down : Bool) → InGrid w h i j → short_net net w h ≡ false →
      triangle_beyond image w (triangle_at i j down) ≡ triangle_beyond net w (triangle_at i j down)
  corners_alike i j down g long = triangle_alike e long (triangle_at i j down) (corner_lies w h i j g down)

  module _ (p q : ℕ) (short : Bool) where
    abbrev at : Triangle
    at = chosen 1024 w h p q

    place_alike : bad_size w h ≡ false → no_place 1024 w h p q ≡ false → short_net net w h ≡ false →
        triangle_beyond image w at ≡ triangle_beyond net w at
    place_alike size place = corners_alike at.column at.row at.down (cells_in_grid w h p q size place)

    surface_mirrored : point_answer_with image w h p q short ≡ mirror_answer m (point_answer_with net w h p q short)
    surface_mirrored =
        answer_mirrored m (point_refusal_with net w h p q short) (point_refusal_with image w h p q short)
        (surface_point net w h p q) (surface_point image w h p q)
        (cond_else (bad_size w h) 1 (λ size. cond_else (no_place 1024 w h p q) 6 (λ place.
        rows_alike 2 e.short (place_alike size place) (λ b. cond short 5 (cond b 3 0)))))
        (λ z.
        let f = first_rows (bad_size w h) (no_place 1024 w h p q) 6 (lit< tt) z in
        point_mirrored e p q f.0 f.1)

    module _ (outline : List ℕ) where
      abbrev late : Bool → ℕ
      late b = cond (bad_byte outline w h) 13 (cond (not (on_door 1024 outline w h p q)) 15 (cond short 5 (cond b 3 0)))

      outlined_surface_mirrored :
          outlined_point_answer_with image w h outline p q short
          ≡ mirror_answer m (outlined_point_answer_with net w h outline p q short)
      outlined_surface_mirrored =
          answer_mirrored m (outlined_point_refusal net w h outline p q short)
          (outlined_point_refusal image w h outline p q short) (surface_point net w h p q) (surface_point image w h p q)
          (cond_else (bad_size w h) 1 (λ size. cond_else (no_place 1024 w h p q) 6 (λ place.
          with_outline e outline (place_alike size place) late)))
          (λ z.
          let f = first_rows (bad_size w h) (no_place 1024 w h p q) 6 (lit< tt) z in
          point_mirrored e p q f.0 f.1)

  -- ---- after k steps

  module _ (k p q : ℕ) where
    depth_mirrored : bad_size w h ≡ false → too_deep w h k ≡ false → off_grid w h k p q ≡ false →
        refined_surface_point image w h k p q ≡ mirror_point m (refined_surface_point net w h k p q)
    depth_mirrored size deep place =
        point_mirrored (refined_mirrored e k) p q (good_after (good_depth w h k size deep)) place

    module _ (other : Bool) (out scratch : List ℤ) where
      refined_point_mirrored :
          refined_point_answer image w h k p q other out scratch
          ≡ mirror_answer m (refined_point_answer net w h k p q other out scratch)
      refined_point_mirrored =
          let short = other || too_short w h k (length out) (length scratch) in
          answer_mirrored m (refusal_at net w h k p q other out scratch) (refusal_at image w h k p q other out scratch)
          (refined_surface_point net w h k p q) (refined_surface_point image w h k p q)
          (λ t. cond (bad_size w h) 1 (cond (too_deep w h k) 4
          (cond (off_grid w h k p q) 6 (rows_alike 2 e.short (net_alike e) (λ b. cond short 5 (cond b 3 0)) t))))
          (λ z.
          let f = first_rows (bad_size w h) (too_deep w h k) 4 (lit< tt) z in
          depth_mirrored f.0 f.1 (fault_none (off_grid w h k p q) 6 _ (lit< tt) f.2).0)

      outlined_refined_mirrored : (outline fine search : List ℕ) →
          outlined_refined_answer image w h k outline p q other out scratch fine search
          ≡ mirror_answer m (outlined_refined_answer net w h k outline p q other out scratch fine search)
      outlined_refined_mirrored outline fine search =
          let short = other || short_of w h k out scratch fine search in
          let rest : Bool → ℕ =
          λ b. cond (bad_byte outline w h) 13
          (cond (off_door k outline w h p q) 15 (cond short 5 (cond (disconnected outline w h) 14 (cond b 3 0)))) in
          answer_mirrored m (outlined_refusal_at net w h k outline p q other out scratch fine search)
          (outlined_refusal_at image w h k outline p q other out scratch fine search) (refined_surface_point net w h k p q)
          (refined_surface_point image w h k p q)
          (λ t. cond (bad_size w h) 1 (cond (too_deep w h k) 4
          (cond (off_grid w h k p q) 6 (with_outline e outline (net_alike e) rest t))))
          (λ z.
          let f = first_rows (bad_size w h) (too_deep w h k) 4 (lit< tt) z in
          depth_mirrored f.0 f.1 (fault_none (off_grid w h k p q) 6 _ (lit< tt) f.2).0)

pub points_mirrored : MirroredPoints
points_mirrored m w h net image e =
    record {
      surface = surface_mirrored m w h net image e;
      view = λ p q short.
          view_by (point_refusal_with image w h p q short) (surface_point image w h p q) _
          (surface_mirrored m w h net image e p q short);
      refined = refined_point_mirrored m w h net image e;
      outlined_surface = λ outline p q short. outlined_surface_mirrored m w h net image e p q short outline;
      outlined_view = λ outline p q short.
          view_by (outlined_point_refusal image w h outline p q short) (surface_point image w h p q) _
          (outlined_surface_mirrored m w h net image e p q short outline);
      outlined_refined = λ k outline p q other out scratch fine search.
          outlined_refined_mirrored m w h net image e k p q other out scratch outline fine search;
    }

pub depths_mirrored : MirroredDepths
depths_mirrored m w h net image e k out scratch z =
    points_mirrored m (side_after k w) (side_after k h) (refine_output net w h k out scratch)
    (refine_output image w h k out scratch) ((refining_mirrored m w h net image e k out scratch).1 z)

pub door_depths_mirrored : MirroredDoorDepths
door_depths_mirrored m w h net image e k outline out scratch fine search z =
    points_mirrored m (side_after k w) (side_after k h) _ _
    ((outlined_refining_mirrored m w h net image e k outline out scratch fine search).1 z)

-- ---- Bézier nets

-- the 19 points are weighted sums, so each is negated where the values are
points_turned : (s : Bool) (down : Bool) (c : Controls) →
    bezier_points down (λ P k. negated_if s (c P k)) ≡ map (negated_if s) (bezier_points down c)
points_turned s down c =
    sym (points_by_rows down (λ P k. negated_if s (c P k)))
    ∙ (λ t. map (λ (row : List ℤ). values_negated s row (in_form down c o123) t) bezier_rows)
    ∙ ap (map (negated_if s)) (points_by_rows down c)

module _ (m : Coordinates) (w h : ℕ) (net image : List ℤ) (e : Mirrored m w h net image) (i j : ℕ) (down : Bool) where
  numbers_mirrored : InGrid w h i j → BezierOpposite m w (triangle_at i j down) net image
  numbers_mirrored g n x c =
      let points = bezier_points down (controls_of (field net w x) (triangle_at i j down)) in
      ap (λ (l : List ℤ). get_or l n (pos 0))
      (ap (bezier_points down) (controls_mirrored e i j down g x c)
      ∙ points_turned (m x) down (controls_of (field net w x) (triangle_at i j down)))
      ∙ ap (get_or (map (negated_if (m x)) points) n) (nought (m x))
      ∙ get_or-map (negated_if (m x)) points n (pos 0)
    where
      nought : (s : Bool) → pos 0 ≡ negated_if s (pos 0)
      nought false = refl
      nought true = refl

pub bezier_mirrored : MirroredBezier
bezier_mirrored m w h net image e i j down room = (
  cond_else (bad_size w h) 1 (λ size. cond_else (no_triangle w h i j) 6 (λ there.
      rows_alike 2 e.short (corners_alike m w h net image e i j down (cell_in_grid w h i j size there))
      (λ b. cond (ltb room 57) 5 (cond b 3 0)))),
  λ z.
      let f = first_rows (bad_size w h) (no_triangle w h i j) 6 (lit< tt) z in
      numbers_mirrored m w h net image e i j down (cell_in_grid w h i j f.0 f.1),
)

pub outlined_bezier_mirrored : MirroredOutlinedBezier
outlined_bezier_mirrored m w h net image e outline i j down room =
    let there : no_triangle w h i j || ltb 1 down ≡ false → no_triangle w h i j ≡ false =
    λ d. (or_none (no_triangle w h i j) (ltb 1 down) d).0 in
    let rest : Bool → ℕ =
    λ b. cond (bad_byte outline w h) 13
    (cond (not (present outline w (triangle_by i j down))) 15 (cond (ltb room 57) 5 (cond b 3 0))) in (
      cond_else (bad_size w h) 1 (λ size. cond_else (no_triangle w h i j || ltb 1 down) 6 (λ d.
          with_outline e outline
          (corners_alike m w h net image e i j (eqb down 1) (cell_in_grid w h i j size (there d))) rest)),
      λ z.
          let f = first_rows (bad_size w h) (no_triangle w h i j || ltb 1 down) 6 (lit< tt) z in
          numbers_mirrored m w h net image e i j (eqb down 1) (cell_in_grid w h i j f.0 (there f.1)),
    )

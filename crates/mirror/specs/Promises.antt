-- Document 02 d: 'A net with a coordinate negated must give points with that coordinate negated, at every depth', of
-- the definitions that the calls are proved to meet: the statements, each with the name of its proof. A mirror image is
-- refused exactly where the net is, by the same number.
use Rattle.std.specs.Prelude.{◌≡◌, Bool, false, List, ℕ, ◌<◌, ℤ}
use Rattle.exact.specs.Rounding.{negated_if}
use Rattle.exact.specs.Filling.{over}
use Rattle.net.specs.Net.{Triangle, triangle_at}
use Rattle.net.specs.Refusals.{short_net, output_after}
use Rattle.bezier.specs.BezierNet.{bezier_number}
use Rattle.bezier.specs.Refusals.{bezier_refusal}
use Rattle.surface.specs.Answers.{point_answer_with, view_answer_with}
use Rattle.outlined_points.specs.Refusals.{triangle_by, outlined_bezier_refusal}
use Rattle.outlined_points.specs.Answers.{outlined_point_answer_with, outlined_view_answer_with}
use Rattle.subdivision.specs.Refinement.{refined_side, side_after}
use Rattle.steps.specs.RefinedNet.{refined_net}
use Rattle.refine.specs.Answers.{refusal_of, refine_output}
use Rattle.refined_points.specs.Answers.{refined_point_answer}
use Rattle.outlined_refine.specs.Answers.{outlined_refusal_of}
use Rattle.outlined_refined_points.specs.Answers.{outlined_refined_answer}
use Rattle.details.specs.Refusals.{clean_refusal}
use Rattle.details.specs.Cleaning.{clean_output}
use Rattle.coarse.specs.Coarse.{coarse_side}
use Rattle.split.specs.Answers.{split_refusal_with, split_coarse, split_details}
use Rattle.merge.specs.Answers.{merge_refusal_of, merge_output}
use Rattle.mirror.specs.Mirror.{Coordinates, Mirrored, MirroredDetails, mirror_net, mirror_answer, in_millimetres}

-- every net has a mirror image, whatever stands after it (`mirror_image`)
abbrev pub MirrorImage : Type 0
MirrorImage =
    (m : Coordinates) (net : List ℤ) (w h : ℕ) (after : List ℤ) → short_net net w h ≡ false →
    Mirrored m w h net (over (mirror_net m net w h) after)

-- what the calls that answer points give of a net and of its mirror image: the same refusal, or the mirrored point; the
-- surface point, the viewer's, and refining and then a surface point; without and with an outline
pub record PointsMirrored (m : Coordinates) (w h : ℕ) (net image : List ℤ) : Type 0 where
  pub surface : (p q : ℕ) (short : Bool) →
      point_answer_with image w h p q short ≡ mirror_answer m (point_answer_with net w h p q short)
  pub view : (p q : ℕ) (short : Bool) →
      view_answer_with image w h p q short ≡ in_millimetres (mirror_answer m (point_answer_with net w h p q short))
  pub refined : (k p q : ℕ) (other : Bool) (out scratch : List ℤ) →
      refined_point_answer image w h k p q other out scratch
      ≡ mirror_answer m (refined_point_answer net w h k p q other out scratch)
  pub outlined_surface : (outline : List ℕ) (p q : ℕ) (short : Bool) →
      outlined_point_answer_with image w h outline p q short
      ≡ mirror_answer m (outlined_point_answer_with net w h outline p q short)
  pub outlined_view : (outline : List ℕ) (p q : ℕ) (short : Bool) →
      outlined_view_answer_with image w h outline p q short
      ≡ in_millimetres (mirror_answer m (outlined_point_answer_with net w h outline p q short))
  pub outlined_refined :
      (k : ℕ) (outline : List ℕ) (p q : ℕ) (other : Bool) (out scratch : List ℤ) (fine search : List ℕ) →
      outlined_refined_answer image w h k outline p q other out scratch fine search
      ≡ mirror_answer m (outlined_refined_answer net w h k outline p q other out scratch fine search)

-- of every net and its mirror image (`points_mirrored`); and, 'at every depth', of what refining leaves of the two
-- (`depths_mirrored`), and refining with an outline (`door_depths_mirrored`)
abbrev pub MirroredPoints : Type 0
MirroredPoints =
    (m : Coordinates) (w h : ℕ) (net image : List ℤ) → Mirrored m w h net image → PointsMirrored m w h net image

abbrev pub MirroredDepths : Type 0
MirroredDepths =
    (m : Coordinates) (w h : ℕ) (net image : List ℤ) → Mirrored m w h net image →
    (k : ℕ) (out scratch : List ℤ) → refusal_of net w h k out scratch ≡ 0 →
    PointsMirrored m (side_after k w) (side_after k h) (refine_output net w h k out scratch)
    (refine_output image w h k out scratch)

abbrev pub MirroredDoorDepths : Type 0
MirroredDoorDepths =
    (m : Coordinates) (w h : ℕ) (net image : List ℤ) → Mirrored m w h net image →
    (k : ℕ) (outline : List ℕ) (out scratch : List ℤ) (fine search : List ℕ) →
    (let refusal = outlined_refusal_of net w h k outline out scratch fine search in
    refusal ≡ 0 →
    PointsMirrored m (side_after k w) (side_after k h) (output_after refusal (refined_net net w h k) out)
    (output_after refusal (refined_net image w h k) out))

-- refining refuses alike and leaves the mirror image (`refining_mirrored`), and so with an outline, whose fine outline
-- goes by the refusal alone (`outlined_refining_mirrored`)
abbrev pub MirroredRefining : Type 0
MirroredRefining =
    (m : Coordinates) (w h : ℕ) (net image : List ℤ) → Mirrored m w h net image → (k : ℕ) (out scratch : List ℤ) →
    (refusal_of image w h k out scratch ≡ refusal_of net w h k out scratch)
    × (refusal_of net w h k out scratch ≡ 0 →
    Mirrored m (side_after k w) (side_after k h) (refine_output net w h k out scratch) (refine_output image w h k out scratch))

abbrev pub MirroredOutlinedRefining : Type 0
MirroredOutlinedRefining =
    (m : Coordinates) (w h : ℕ) (net image : List ℤ) → Mirrored m w h net image →
    (k : ℕ) (outline : List ℕ) (out scratch : List ℤ) (fine search : List ℕ) →
    (let refusal = outlined_refusal_of net w h k outline out scratch fine search in
    (outlined_refusal_of image w h k outline out scratch fine search ≡ refusal)
    × (refusal ≡ 0 →
    Mirrored m (side_after k w) (side_after k h) (output_after refusal (refined_net net w h k) out)
    (output_after refusal (refined_net image w h k) out)))

-- Bézier nets: refused alike, and each number of each of the 19 points negated where its coordinate is
-- (`bezier_mirrored`, `outlined_bezier_mirrored`)
abbrev pub BezierOpposite : Coordinates → ℕ → Triangle → List ℤ → List ℤ → Type 0
BezierOpposite m w t net image =
    (n x : ℕ) → x < 3 → bezier_number image w t n x ≡ negated_if (m x) (bezier_number net w t n x)

abbrev pub MirroredBezier : Type 0
MirroredBezier =
    (m : Coordinates) (w h : ℕ) (net image : List ℤ) → Mirrored m w h net image → (i j : ℕ) (down : Bool) (room : ℕ) →
    (bezier_refusal image w h i j down room ≡ bezier_refusal net w h i j down room)
    × (bezier_refusal net w h i j down room ≡ 0 → BezierOpposite m w (triangle_at i j down) net image)

abbrev pub MirroredOutlinedBezier : Type 0
MirroredOutlinedBezier =
    (m : Coordinates) (w h : ℕ) (net image : List ℤ) → Mirrored m w h net image →
    (outline : List ℕ) (i j down room : ℕ) →
    (outlined_bezier_refusal image w h outline i j down room ≡ outlined_bezier_refusal net w h outline i j down room)
    × (outlined_bezier_refusal net w h outline i j down room ≡ 0 → BezierOpposite m w (triangle_by i j down) net image)

-- splitting refuses alike and leaves the mirror images of the coarse net and of the details (`splitting_mirrored`)
abbrev pub MirroredSplitting : Type 0
MirroredSplitting =
    (m : Coordinates) (w h : ℕ) (net image : List ℤ) → Mirrored m w h net image →
    (short : Bool) (coarse details : List ℤ) →
    (let refusal = split_refusal_with net w h short coarse details in
    (split_refusal_with image w h short coarse details ≡ refusal)
    × (refusal ≡ 0 →
    Mirrored m (coarse_side w) (coarse_side h) (split_coarse refusal net w h coarse) (split_coarse refusal image w h coarse)
    × MirroredDetails m w h (split_details refusal net w h details) (split_details refusal image w h details)))

-- merging the mirror images of a coarse net and of details (`merging_mirrored`), and cleaning those of details
-- (`cleaning_mirrored`)
abbrev pub MirroredMerging : Type 0
MirroredMerging =
    (m : Coordinates) (w h : ℕ) (coarse coarse_image details details_image : List ℤ) → Mirrored m w h coarse coarse_image →
    MirroredDetails m (refined_side w) (refined_side h) details details_image → (out : List ℤ) →
    (merge_refusal_of coarse_image details_image w h out ≡ merge_refusal_of coarse details w h out)
    × (merge_refusal_of coarse details w h out ≡ 0 →
    Mirrored m (refined_side w) (refined_side h) (merge_output coarse details w h out)
    (merge_output coarse_image details_image w h out))

abbrev pub MirroredCleaning : Type 0
MirroredCleaning =
    (m : Coordinates) (w h : ℕ) (details image : List ℤ) → MirroredDetails m w h details image → (t : ℕ) →
    (clean_refusal image w h t ≡ clean_refusal details w h t)
    × (clean_refusal details w h t ≡ 0 →
    MirroredDetails m w h (clean_output details w h t) (clean_output image w h t))

-- Demand 3 of the running code, as one claim from the starting net to the answered point. `refined_points` in
-- proofs/RefinedPoints.antt proves it of the two calls' definitions, which `refine` and `surface_point` are proved to
-- meet; and `refined_point_with`, which every call that does both goes through, has it in its contract.
use Rattle.std.specs.Prelude.{◌≡◌, List, ℕ, ◌<◌, ℤ, length}
use Rattle.net.specs.Net.{Triangle, OfNet, field, number}
use Rattle.places.specs.Places.{OnGrid, LiesIn}
use Rattle.surface.specs.Answers.{point_answer}
use Rattle.subdivision.specs.Refinement.{side_after}
use Rattle.bounds.specs.DemandThree.{fine_edge, NearSpline, WithinControls}
use Rattle.refine.specs.Answers.{refusal_of, refine_output}

-- what is claimed of an answer at place (p, q) of the k times refined net: it is a point, x, y, z, and no refusal; and
-- each coordinate is within (k + 1)/2 units of the exact spline of the starting net at that place, edge count
-- 1024·2^k, and within the least and the greatest of the nine control values of each starting triangle that the place
-- lies in
pub record Claimed (net : List ℤ) (w h k p q : ℕ) (outcome : ℕ × List ℤ) : Type 0 where
  pub answered : outcome.0 ≡ 0
  pub point : length outcome.1 ≡ 3
  pub near : (x : ℕ) → x < 3 → NearSpline (field net w x) w h k p q (number outcome.1 x)
  pub within : (x : ℕ) → x < 3 → (t : Triangle) → OfNet w h t → LiesIn (fine_edge k) p q t → WithinControls (field net w x) t (number outcome.1 x)

-- demand 3: of every net, size, k, output and scratch that refining accepts, at every place of the refined grid, of the
-- surface point on what refining left in the output, whatever stood in the output and the scratch before and stands
-- after the result
abbrev pub RefinedPoints : Type 0
RefinedPoints =
    (net : List ℤ) (w h k : ℕ) (out scratch : List ℤ) → refusal_of net w h k out scratch ≡ 0 →
    (p q : ℕ) → OnGrid 1024 (side_after k w) (side_after k h) p q →
    Claimed net w h k p q (point_answer (refine_output net w h k out scratch) (side_after k w) (side_after k h) p q)

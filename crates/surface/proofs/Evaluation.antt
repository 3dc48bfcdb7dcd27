-- The evaluation by steps: the last average is the exact value, and the bounds that keep the point an i32.
use mathlib.Core.Path.{◌≡◌, ◌∙◌}
use mathlib.Core.Bool.{Bool}
use mathlib.Core.List.{List, []}
use Prim.Native.Nat.{ℕ, ◌+◌, ◌*◌, ◌≤◌}
use lib.Dec.{lit<}
use lib.IntN.{ℤ, pos, nat_abs, ◌+ℤ◌, ◌*ℤ◌}
use lib.ListN.{get_or}
use Rattle.exact.specs.Rounding.{rounded}
use Rattle.exact.specs.WeightedSum.{Within}
use Rattle.exact.proofs.RoundingLaws.{rounded_size}
use Rattle.triangles.specs.Corners.{values_in}
use Rattle.de_casteljau.specs.declared.points.Corner.{Corner}
use Rattle.de_casteljau.specs.Ordinates.{values_of, ordinates}
use Rattle.de_casteljau.specs.Averages.{last_average}
use Rattle.de_casteljau.specs.Promises.{ordinates_in}
use Rattle.de_casteljau.proofs.SmallTriangles.{six_are_points, ordinates_within}
use Rattle.de_casteljau.proofs.Averaging.{last_expanded, last_size}
use Rattle.surface.specs.Evaluation.{corner_values}
use Rattle.surface.specs.Promises.{LastIsExact, LastIsSpline}
use Rattle.spline.specs.Spline.{spline}
use Rattle.places.specs.Places.{gap_a, gap_b, gap_g, chosen, share, order_of}
use Rattle.triangles.specs.BezierPoints.{controls_of}

-- ---- the last average is the exact value

pub last_is_exact : LastIsExact
last_is_exact down c o A B G =
    last_expanded A B G (ordinates_in down c o)
    ∙ (λ t. let six = six_are_points down c o t in
    pos (A * A) *ℤ get_or six 0 (pos 0)
    +ℤ pos (2 * (A * B)) *ℤ get_or six 1 (pos 0)
    +ℤ pos (2 * (A * G)) *ℤ get_or six 2 (pos 0)
    +ℤ pos (B * B) *ℤ get_or six 3 (pos 0)
    +ℤ pos (2 * (B * G)) *ℤ get_or six 4 (pos 0)
    +ℤ pos (G * G) *ℤ get_or six 5 (pos 0))

pub last_is_spline : LastIsSpline
unfolding spline
last_is_spline F w h p q =
    let t = chosen 1024 w h p q in
    let a = share 1024 w h p q in
    let o = order_of a in
    last_is_exact t.down (controls_of F t) o (gap_a o a) (gap_b o a) (gap_g o a)

-- ---- sizes

-- the values of the three corners, out of the nine
pub corners_within : (n : ℕ) (c : List (List (List ℤ))) (x : ℕ) → Within n (values_in c x) →
    Within n (values_of (corner_values (get_or c 0 []) x))
    × Within n (values_of (corner_values (get_or c 1 []) x))
    × Within n (values_of (corner_values (get_or c 2 []) x))
corners_within n c x h =
    let q = h.1.1.1 in
    let t = q.1.1.1 in (
      (h.0, (h.1.0, (h.1.1.0, tt))),
      (q.0, (q.1.0, (q.1.1.0, tt))),
      (t.0, (t.1.0, (t.1.1.0, tt))),
    )

-- the last average of values of the net range
pub last_small : (ahead : Bool) (A B G : ℕ) (p q t : Corner) → A + B + G ≡ 1024 →
    Within 16777216 (values_of p) → Within 16777216 (values_of q) → Within 16777216 (values_of t) →
    nat_abs (last_average A B G (ordinates ahead p q t)) ≤ 37748736 * 16777216
last_small ahead A B G p q t e hp hq ht =
    last_size A B G (36 * 16777216) (ordinates ahead p q t) e (ordinates_within 16777216 ahead p q t hp hq ht)

pub point_small : (last : ℤ) → nat_abs last ≤ 37748736 * 16777216 → nat_abs (rounded last 37748736) ≤ 16777216
point_small last h = rounded_size last 37748736 16777216 (lit< tt) h

-- Document 01, "Surface point": the exact spline of a field at any edge count D.
use Rattle.std.specs.Prelude.{◌≡◌, refl, Bool, ℕ, ◌*◌, ℤ, pos, ◌+ℤ◌, ◌*ℤ◌}
use Rattle.net.specs.Net.{Index, Field, control_point, control_triangle, field, squares}
use Rattle.places.specs.Places.{Order, corner_p, corner_q, gap_a, gap_b, gap_g, chosen, share, order_of}
use Rattle.triangles.specs.BezierPoints.{Controls, controls_of, point_s, point_u, point_v, point_r, point_m, point_z}

-- A²sP + 2AB·u + 2AG·vP + B²r + 2BG·m + G²z, each point times 36
abbrev pub quadratic : Bool → Controls → Index → Index → ℕ → ℕ → ℕ → ℤ
quadratic down c P Q A B G =
    pos (A * A) *ℤ point_s c P
    +ℤ pos (2 * (A * B)) *ℤ point_u down c P Q
    +ℤ pos (2 * (A * G)) *ℤ point_v down c P
    +ℤ pos (B * B) *ℤ point_r down c P Q
    +ℤ pos (2 * (B * G)) *ℤ point_m down c P Q
    +ℤ pos (G * G) *ℤ point_z down c

-- the exact value in a triangle, times 36·D², from the control values and the shares of its corners in a given order
abbrev pub value_in : Bool → Controls → Order → (Index → ℕ) → ℤ
value_in down c o a = quadratic down c (corner_p o) (corner_q o) (gap_a o a) (gap_b o a) (gap_g o a)

-- the exact spline of a field at place (p, q) of edge count D, times 36·D²
unfoldable pub spline : Field → ℕ → ℕ → ℕ → ℕ → ℕ → ℤ
spline F w h D p q =
    value_in (chosen D w h p q).down (controls_of F (chosen D w h p q)) (order_of (share D w h p q)) (share D w h p q)

-- worked cases: at a vertex the exact value is 36·1024² times s; of the net of 3 by 2 whose numbers are the squares,
-- y at edge count 10 in the up triangle of cell (1, 0) with shares 5, 3, 2, and in the down triangle of cell (0, 0)
-- with shares 2, 3, 5, times 36·10²
at_a_vertex : spline (λ v k. pos 7) 3 3 1024 1024 1024 ≡ pos 7 *ℤ pos 37748736
unfolding spline
at_a_vertex = refl

in_two_triangles :
    (spline (field (squares 54) 3 1) 3 2 10 13 2 ≡ pos 1515600)
    × (spline (field (squares 54) 3 1) 3 2 10 7 8 ≡ pos 4814352)
unfolding control_triangle control_point spline
in_two_triangles = (refl, refl)

-- Document 01, "Bézier net": the 19 points of a triangle in their order, and the numbers that a lent output gets.
use Rattle.std.specs.Prelude.{◌≡◌, refl, Bool, true, false, List, [], ◌∷◌, map, ℕ, get_or, replicate, ℤ, pos}
use Rattle.exact.specs.Filling.{runs}
use Rattle.net.specs.Net.{one, two, three, Triangle, triangle_at, control_point, control_triangle, field, squares}
use Rattle.triangles.specs.BezierPoints.{Controls, point_s, point_u, point_v, point_r, point_m, point_z, controls_of}

-- the 19 points times 36, in document 01's order
unfoldable pub bezier_points : Bool → Controls → List ℤ
bezier_points down c =
    point_s c one ∷ point_s c two ∷ point_s c three
    ∷ point_u down c one two ∷ point_u down c one three ∷ point_u down c two one
    ∷ point_u down c two three ∷ point_u down c three one ∷ point_u down c three two
    ∷ point_v down c one ∷ point_v down c two ∷ point_v down c three
    ∷ point_r down c one two ∷ point_r down c one three ∷ point_r down c two three
    ∷ point_m down c one two ∷ point_m down c one three ∷ point_m down c two three
    ∷ point_z down c ∷ []

-- coordinate x of point n of a triangle of a stored net
abbrev pub bezier_number : List ℤ → ℕ → Triangle → ℕ → ℕ → ℤ
bezier_number net w t n x = get_or (bezier_points t.down (controls_of (field net w x) t)) n (pos 0)

-- point n as x, y, z, and the 57 numbers
abbrev pub bezier_point : List ℤ → ℕ → Triangle → ℕ → List ℤ
bezier_point net w t n = bezier_number net w t n 0 ∷ bezier_number net w t n 1 ∷ bezier_number net w t n 2 ∷ []

abbrev pub bezier_numbers : List ℤ → ℕ → Triangle → List ℤ
bezier_numbers net w t = runs 19 (bezier_point net w t)

-- worked cases: controls that are all 5 have all points 5, times 36; of the net of 3 by 2 whose numbers are the
-- squares, the 57 numbers of the up triangle of cell (1, 0), which all differ, and x of the points of the down triangle
-- of cell (0, 0)
constant_points : (bezier_points false (λ P k. pos 5) ≡ replicate 19 (pos 180))
    × (bezier_points true (λ P k. pos 5) ≡ replicate 19 (pos 180))
unfolding bezier_points
constant_points = (refl, refl)

abbrev of_squares : List ℕ
of_squares =
    -- s1 s2 s3
    5400 ∷ 6300 ∷ 7272 ∷ 16092 ∷ 17640 ∷ 19260 ∷ 54972 ∷ 57816 ∷ 60732
    -- u12 u13 u21 u23 u31 u32
    ∷ 4158 ∷ 4950 ∷ 5814 ∷ 4050 ∷ 4842 ∷ 5706 ∷ 18306 ∷ 19962 ∷ 21690
    ∷ 15984 ∷ 17532 ∷ 19152 ∷ 59238 ∷ 62190 ∷ 65214 ∷ 55080 ∷ 57924 ∷ 60840
    -- v1 v2 v3
    ∷ 3672 ∷ 4428 ∷ 5256 ∷ 17496 ∷ 19116 ∷ 20808 ∷ 57888 ∷ 60804 ∷ 63792
    -- r12 r13 r23
    ∷ 11232 ∷ 12456 ∷ 13752 ∷ 31644 ∷ 33516 ∷ 35460 ∷ 35532 ∷ 37728 ∷ 39996
    -- m12 m13 m23
    ∷ 10584 ∷ 11772 ∷ 13032 ∷ 30780 ∷ 32616 ∷ 34524 ∷ 37692 ∷ 39960 ∷ 42300
    -- z
    ∷ 26352 ∷ 28116 ∷ 29952 ∷ []

up_of_squares : bezier_numbers (squares 54) 3 (triangle_at 1 0 false) ≡ map pos of_squares
unfolding bezier_points runs control_triangle control_point
up_of_squares = refl

down_of_squares :
    bezier_points true (controls_of (field (squares 54) 3 0) (triangle_at 0 0 true))
    ≡ map pos (5400 ∷ 32616 ∷ 54972 ∷ 5292 ∷ 4050 ∷ 32724 ∷ 29430 ∷ 59238 ∷ 59130
    ∷ 4428 ∷ 30564 ∷ 60588 ∷ 19008 ∷ 31644 ∷ 44280 ∷ 17496 ∷ 32508 ∷ 45576 ∷ 31860 ∷ [])
unfolding bezier_points control_triangle control_point
down_of_squares = refl

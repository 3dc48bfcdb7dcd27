-- Document 01, "Surface point": the exact spline at edge count 1,024, rounded once for each coordinate.
use Rattle.std.specs.Prelude.{◌≡◌, refl, List, [], ◌∷◌, ℕ, ◌*◌, ℤ, pos}
use Rattle.exact.specs.Rounding.{rounded, floor_quotient}
use Rattle.net.specs.Net.{control_point, control_triangle, field, squares}
use Rattle.spline.specs.Spline.{spline}

-- the surface point in coordinate x: the exact value at edge count 1,024, rounded once
unfoldable pub coordinate : List ℤ → ℕ → ℕ → ℕ → ℕ → ℕ → ℤ
coordinate net w h p q x = rounded (spline (field net w x) w h 1024 p q) 37748736

-- 36·1024²
the_factor : 36 * (1024 * 1024) ≡ 37748736
the_factor = refl

abbrev pub surface_point : List ℤ → ℕ → ℕ → ℕ → ℕ → List ℤ
surface_point net w h p q = coordinate net w h p q 0 ∷ coordinate net w h p q 1 ∷ coordinate net w h p q 2 ∷ []

-- worked case: of the net of 3 by 2 whose numbers are the squares, in the up triangle of cell (1, 0) and in the down
-- triangle of cell (0, 0); the exact values are 11488545/16384 and the like
of_squares_lem :
    (surface_point (squares 54) 3 2 1500 300 ≡ pos 701 ∷ pos 751 ∷ pos 803 ∷ [])
    × (surface_point (squares 54) 3 2 700 600 ≡ pos 681 ∷ pos 727 ∷ pos 776 ∷ [])
unfolding coordinate spline rounded floor_quotient control_triangle control_point
of_squares_lem = (refl, refl)

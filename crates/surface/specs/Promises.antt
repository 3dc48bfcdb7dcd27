-- Document 02 b: the steps give document 01's exact value, of the definitions: the statements, each with the name of
-- its proof.
use Rattle.std.specs.Prelude.{◌≡◌, Bool, false, ℕ, ◌+◌}
use Rattle.net.specs.Net.{Field}
use Rattle.net.specs.Refusals.{bad_size}
use Rattle.places.specs.Places.{Order, corner_p, corner_q, gap_a, gap_b, gap_g, OnGrid, chosen, share, order_of}
use Rattle.triangles.specs.BezierPoints.{Controls, controls_of}
use Rattle.de_casteljau.specs.Averages.{last_average}
use Rattle.de_casteljau.specs.Promises.{ordinates_in}
use Rattle.spline.specs.Spline.{quadratic, spline}

-- in both triangles and every order, the last average is A²sP + 2AB·u + 2AG·vP + B²r + 2BG·m + G²z
-- (`last_is_exact`)
abbrev pub LastIsExact : Type 0
LastIsExact =
    (down : Bool) (c : Controls) (o : Order) (A B G : ℕ) →
    last_average A B G (ordinates_in down c o) ≡ quadratic down c (corner_p o) (corner_q o) A B G

-- A + B + G = 1024 at every place (`gaps_whole`)
abbrev pub GapsWhole : Type 0
GapsWhole =
    (w h p q : ℕ) → bad_size w h ≡ false → OnGrid 1024 w h p q →
    (let a = share 1024 w h p q in gap_a (order_of a) a + gap_b (order_of a) a + gap_g (order_of a) a ≡ 1024)

-- at every place the last average is the exact spline, times 36·1024² (`last_is_spline`)
abbrev pub LastIsSpline : Type 0
LastIsSpline =
    (F : Field) (w h p q : ℕ) →
    (let t = chosen 1024 w h p q in
    let a = share 1024 w h p q in
    let o = order_of a in
    last_average (gap_a o a) (gap_b o a) (gap_g o a) (ordinates_in t.down (controls_of F t) o) ≡ spline F w h 1024 p q)

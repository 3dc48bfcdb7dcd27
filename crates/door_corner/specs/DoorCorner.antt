-- Document 01, "Door corner": the cases marked *, as a list of what the definitions give and what document 01 says, and
-- one theorem for all. A case is one line of the list.
use Rattle.std.specs.Prelude.{◌≡◌, refl, false, List, [], ◌∷◌, ◌++◌, map, ℕ, ◌-◌, ℤ, pos, negsuc, ◌+ℤ◌, ◌-ℤ◌, ◌*ℤ◌, length, replicate}
use Rattle.exact.specs.Rounding.{rounded, floor_quotient}
use Rattle.exact.specs.Filling.{runs}
use Rattle.net.specs.Net.{one, two, three, vertex_at, triangle_at, control_point, control_triangle, grid, numbers, stride, field}
use Rattle.triangles.specs.BezierPoints.{controls_of}
use Rattle.spline.specs.Spline.{spline}
use Rattle.bezier.specs.BezierNet.{bezier_points}
use Rattle.surface.specs.SurfacePoint.{coordinate}
use Rattle.subdivision.specs.Refinement.{refinement, exact_refinement}
use Rattle.steps.specs.RefinedNet.{stored, refined_net}
use Rattle.coarse.specs.Coarse.{coarsened, coarse_net}
use Rattle.words.specs.NetFile.{z_kind, number_bytes, word_bytes}

-- the nine numbers of vertex (i, j), where a = 1200i, b = 1200j and c1 has height z: 'x of c1, c2, c3 is 1200i + 600,
-- 1200i - 600, 1200i; y is 1200j, 1200j + 600, 1200j - 600; z is 0 but for c1 of (0, 0)'
abbrev door_vertex : ℤ → ℤ → ℤ → List ℤ
door_vertex a b z =
    (a +ℤ pos 600) ∷ b ∷ z
    ∷ (a -ℤ pos 600) ∷ (b +ℤ pos 600) ∷ pos 0
    ∷ a ∷ (b -ℤ pos 600) ∷ pos 0 ∷ []

-- the net, 2 by 2, with height z at c1 of (0, 0)
abbrev pub door_corner : ℤ → List ℤ
door_corner z =
    door_vertex (pos 0) (pos 0) z ++ door_vertex (pos 1200) (pos 0) (pos 0)
    ++ door_vertex (pos 0) (pos 1200) (pos 0) ++ door_vertex (pos 1200) (pos 1200) (pos 0)

-- heights of the net: -120 is `negsuc 119`
abbrev low : ℤ
low = negsuc 119

-- z of the surface point at (p, q)
abbrev z_at : ℤ → ℕ → ℕ → ℤ
z_at z p q = coordinate (door_corner z) 2 2 p q 2

-- z of the exact spline at (p, q), times 36·1024²
abbrev exact_at : ℤ → ℕ → ℕ → ℤ
exact_at z p q = spline (field (door_corner z) 2 2) 2 2 1024 p q

-- the z numbers of the Bézier net of the up triangle
abbrev bezier_z : ℤ → List ℤ
bezier_z z = bezier_points false (controls_of (field (door_corner z) 2 2) (triangle_at 0 0 false))

-- z of the control triangle at vertex (i, j) of the net refined once, as it is stored
abbrev refined_z : ℤ → ℕ → ℕ → List ℤ
refined_z z i j = map (field (refined_net (door_corner z) 2 2 1) 3 2 (vertex_at i j)) (one ∷ two ∷ three ∷ [])

-- z of the coarse control triangle of a kept vertex whose own z are c1, c2, c3: of a net of 3 by 3 that has these at
-- its vertex (0, 0) and 0 elsewhere, split as it is stored
abbrev kept_net : ℤ → ℤ → ℤ → List ℤ
kept_net c1 c2 c3 =
    pos 0 ∷ pos 0 ∷ c1 ∷ pos 0 ∷ pos 0 ∷ c2 ∷ pos 0 ∷ pos 0 ∷ c3 ∷ replicate (numbers 3 3 - stride) (pos 0)

abbrev split_z : ℤ → ℤ → ℤ → List ℤ
split_z c1 c2 c3 = map (field (coarse_net (kept_net c1 c2 c3) 3 3) 2 2 (vertex_at 0 0)) (one ∷ two ∷ three ∷ [])

-- the bytes of the word of a z, high byte first
abbrev word_of_z : ℤ → List ℤ
word_of_z z = map pos (number_bytes z_kind z)

-- whole numbers of document 01's list
abbrev expected : List ℕ → List ℤ
expected ns = map pos ns

-- what the definitions give, and what document 01 says
abbrev pub Case : Type 0
Case = List ℤ × List ℤ

unfoldable pub cases : List Case
cases =
    (z_at (pos 120) 0 0 ∷ [], pos 40 ∷ [])
    ∷ (z_at (pos 120) 512 0 ∷ [], pos 40 ∷ [])
    ∷ (z_at (pos 120) 0 512 ∷ [], pos 30 ∷ [])
    ∷ ((pos 2 *ℤ exact_at (pos 120) 256 256) ∷ [], (pos 95 *ℤ pos 37748736) ∷ [])
    ∷ (z_at (pos 120) 256 256 ∷ [], pos 48 ∷ [])
    -- 'The case -47 becomes -48', document 02 d
    ∷ (z_at low 256 256 ∷ [], negsuc 47 ∷ [])
    ∷ (refined_z (pos 120) 0 0, expected (80 ∷ 20 ∷ 20 ∷ []))
    ∷ (refined_z (pos 120) 1 0, expected (0 ∷ 60 ∷ 60 ∷ []))
    ∷ (refined_z (pos 120) 0 1, expected (30 ∷ 0 ∷ 60 ∷ []))
    ∷ (bezier_z (pos 120), expected (1440 ∷ 0 ∷ 0 ∷ 2880 ∷ 2160 ∷ 0 ∷ 0 ∷ 0 ∷ 0 ∷ 2880 ∷ 0 ∷ 0 ∷ 1440 ∷ 1080 ∷ 0 ∷ 1440 ∷ 1440 ∷ 0 ∷ 960 ∷ []))
    ∷ (split_z (pos 80) (pos 20) (pos 20), expected (120 ∷ 0 ∷ 0 ∷ []))
    ∷ (split_z (pos 0) (pos 1) (pos 1), negsuc 0 ∷ pos 1 ∷ pos 1 ∷ [])
    -- 5F FF FF FF hex
    ∷ (word_of_z (negsuc 0), expected (95 ∷ 255 ∷ 255 ∷ 255 ∷ []))
    ∷ []

-- there are thirteen, and every one holds: document 01 has twelve marks, and the one at (256, 256) is two cases, the
-- exact value and the rounded one
pub marked_cases : (length cases ≡ 13) × (map (λ (c : Case). c.0) cases ≡ map (λ (c : Case). c.1) cases)
unfolding cases coordinate spline refined_net coarse_net coarsened stored grid runs refinement exact_refinement rounded floor_quotient bezier_points control_triangle control_point word_bytes
marked_cases = (refl, refl)

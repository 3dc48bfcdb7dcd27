-- Document 01, "Turned away": 3 of a triangle, 'Points and Bézier nets test only their triangle's nine control points
-- for 3'.
use Rattle.std.specs.Prelude.{◌≡◌, refl, Bool, true, false, ◌||◌, List, ℕ, ◌-◌, ℤ}
use Rattle.net.specs.Net.{one, two, three, Vertex, Triangle, triangle_at, corner, numbers, vertex_numbers}
use Rattle.net.specs.Refusals.{any_beyond, too_large}

-- whether one of the numbers of three vertices is outside the net range
abbrev pub vertices_beyond : List ℤ → ℕ → Vertex → Vertex → Vertex → Bool
vertices_beyond net w a b c =
    any_beyond (vertex_numbers net w a) || (any_beyond (vertex_numbers net w b) || any_beyond (vertex_numbers net w c))

-- 3: a number of the triangle's nine control points outside the net range
abbrev pub triangle_beyond : List ℤ → ℕ → Triangle → Bool
triangle_beyond net w t = vertices_beyond net w (corner t one) (corner t two) (corner t three)

-- worked cases: of nets of 2 by 2 with one number beyond the range: the last, of vertex (1, 1); the first, of vertex
-- (0, 0); and one of vertex (1, 0) and of vertex (0, 1), which are corners of both triangles
examples :
    (triangle_beyond (too_large (numbers 2 2 - 1)) 2 (triangle_at 0 0 true) ≡ true)
    × (triangle_beyond (too_large (numbers 2 2 - 1)) 2 (triangle_at 0 0 false) ≡ false)
    × (triangle_beyond (too_large 0) 2 (triangle_at 0 0 true) ≡ false)
    × (triangle_beyond (too_large 0) 2 (triangle_at 0 0 false) ≡ true)
examples = (refl, refl, refl, refl)

shared_corners :
    (triangle_beyond (too_large 9) 2 (triangle_at 0 0 false) ≡ true)
    × (triangle_beyond (too_large 9) 2 (triangle_at 0 0 true) ≡ true)
    × (triangle_beyond (too_large 26) 2 (triangle_at 0 0 false) ≡ true)
    × (triangle_beyond (too_large 26) 2 (triangle_at 0 0 true) ≡ true)
shared_corners = (refl, refl, refl, refl)

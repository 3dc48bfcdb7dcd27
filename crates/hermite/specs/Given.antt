-- Document 02 c: 'p, t1 and t2, in this order, each x, y, z, are any signed 32-bit numbers, nine a vertex, row by row'.
use Rattle.std.specs.Prelude.{◌≡◌, refl, List, [], ◌∷◌, ℕ, ◌+◌, ◌*◌, ℤ, pos, get_or}
use Rattle.net.specs.Net.{Vertex, vertex_at, record_start, number, control_point, squares}

-- so many numbers p, t1 and t2 have each, and so many a vertex, whatever it has in a net
abbrev pub vector_stride : ℕ
vector_stride = 3

abbrev pub given_stride : ℕ
given_stride = 3 * vector_stride

-- so many numbers the given points of a net of width w and height h have, document 02's 'nine a vertex'
abbrev pub given_numbers : ℕ → ℕ → ℕ
given_numbers w h = given_stride * (w * h)

-- where those of a vertex begin, row by row as in a net
abbrev pub given_start : ℕ → Vertex → ℕ
given_start = record_start given_stride

-- p, t1 and t2 that begin at a place of the slice, and those of a vertex
unfoldable pub vectors_at : List ℤ → ℕ → List (List ℤ)
vectors_at given at =
    control_point given at ∷ control_point given (at + vector_stride) ∷ control_point given (at + 2 * vector_stride) ∷ []

abbrev pub vectors : List ℤ → ℕ → Vertex → List (List ℤ)
vectors given w v = vectors_at given (given_start w v)

-- the point p of a vertex, x, y, z
abbrev pub point_of : List ℤ → ℕ → Vertex → List ℤ
point_of given w v = get_or (vectors given w v) 0 []

-- p, t1 and t2 of a vertex in coordinate x
abbrev pub given_p : List ℤ → ℕ → ℕ → Vertex → ℤ
given_p given w x v = number (point_of given w v) x

abbrev pub given_t1 : List ℤ → ℕ → ℕ → Vertex → ℤ
given_t1 given w x v = number (get_or (vectors given w v) 1 []) x

abbrev pub given_t2 : List ℤ → ℕ → ℕ → Vertex → ℤ
given_t2 given w x v = number (get_or (vectors given w v) 2 []) x

-- worked cases: given points of 3 by 5 are 135 numbers, and those of vertex (2, 1) begin at number 45; of the squares,
-- in a grid of width 2, p of vertex (0, 1) is numbers 18 to 20, and y of p, t1 and t2 numbers 19, 22 and 25
places : (given_numbers 3 5 ≡ 135) × (given_start 3 (vertex_at 2 1) ≡ 45)
places = (refl, refl)

of_squares_lem :
    (point_of (squares 36) 2 (vertex_at 0 1) ≡ pos 324 ∷ pos 361 ∷ pos 400 ∷ [])
    × (given_p (squares 36) 2 1 (vertex_at 0 1) ≡ pos 361)
    × (given_t1 (squares 36) 2 1 (vertex_at 0 1) ≡ pos 484)
    × (given_t2 (squares 36) 2 1 (vertex_at 0 1) ≡ pos 625)
unfolding vectors_at control_point
of_squares_lem = (refl, refl, refl, refl)

-- Document 01, "Surface point": the shares of a place in any triangle that it lies in, the share of any vertex at a
-- place, and the weights of the nine control values in the exact value.
use Rattle.std.specs.Prelude.{◌≡◌, refl, Bool, true, false, cond, List, [], ◌∷◌, map, ℕ, ◌+◌, ◌-◌, ◌*◌, ◌≤◌, max, ℤ, pos, ◌-ℤ◌, ◌*ℤ◌}
use Rattle.net.specs.Net.{Index, one, next, previous, Vertex, vertex_at, Triangle, triangle_at, same}
use Rattle.places.specs.Places.{Order, corner_p, corner_q, corner_t, up_share, down_share}
use Rattle.triangles.specs.BezierPoints.{index_k, index_m, control_list}

-- the shares of the corners of a triangle at place (p, q) that lies in it, at edge count D: as document 01 has them,
-- with f = p - Di and g = q - Dj
abbrev pub shares_by : Bool → ℕ → ℕ → ℕ → Index → ℕ
shares_by false = up_share
shares_by true = down_share

abbrev pub shares_in : ℕ → ℕ → ℕ → Triangle → Index → ℕ
shares_in D p q t = shares_by t.down D (p - D * t.column) (q - D * t.row)

-- the share of any vertex at a place: that of the corner in each triangle that the place lies in, and 0 where the
-- vertex is no corner of one (`share_of_corner`, `no_share_elsewhere`). The greatest of three distances, along the
-- columns, the rows and the diagonals, is what it lacks of D.
abbrev pub apart : ℕ → ℕ → ℕ
apart m n = m - n + (n - m)

abbrev pub vertex_share : ℕ → ℕ → ℕ → Vertex → ℕ
vertex_share D p q v =
    D - max (apart p (D * v.column)) (max (apart q (D * v.row)) (apart (p + q) (D * v.column + D * v.row)))

-- shares in the order a ≥ b ≥ d, equals in any order
abbrev pub Descending : (Index → ℕ) → Order → Type 0
Descending a o = (a (corner_q o) ≤ a (corner_p o)) × (a (corner_t o) ≤ a (corner_q o))

-- the weights of ck, cn and cm of a corner P in the exact value times 36·D², where P has the share a, its neighbour P
-- + ek the share b and P - em the share d. A difference of shares counts where it is above 0.
abbrev pub square : ℕ → ℤ
square n = pos (n * n)

abbrev pub weight_k : ℕ → ℕ → ℕ → ℤ
weight_k a b d = pos 12 *ℤ (pos 6 *ℤ square a -ℤ pos 2 *ℤ square (a - d) -ℤ pos 3 *ℤ square (a - b))

abbrev pub weight_n : ℕ → ℕ → ℕ → ℤ
weight_n a b d = pos 12 *ℤ (pos 3 *ℤ square a -ℤ pos 2 *ℤ square (a - d))

abbrev pub weight_m : ℕ → ℕ → ℕ → ℤ
weight_m a b d = pos 12 *ℤ square (a - d)

-- the weight of control l of corner P, from the shares of the three corners
abbrev pub weight_of : Bool → (Index → ℕ) → Index → Index → ℤ
weight_of down a P l =
    (cond (same l (index_k down P)) weight_k (cond (same l (index_m down P)) weight_m weight_n)) (a P) (a (next P)) (a (previous P))

-- the nine weights, by corner and then c1 to c3
abbrev pub control_weights : Bool → (Index → ℕ) → List ℤ
control_weights down a = control_list (weight_of down a)

-- worked cases: place (700, 600) lies in the down triangle of cell (0, 0) with shares 424, 324 and 276, and (1, 1) is
-- the vertex with share 276; a vertex has 12·D² for each of its own controls; in the middle of a triangle each corner
-- has 72, 36 and 0 for ck, cn and cm, of 36·3²
shares_of_a_place :
    (shares_in 1024 700 600 (triangle_at 0 0 true) one ≡ 424)
    × (vertex_share 1024 700 600 (vertex_at 1 1) ≡ 276)
    × (vertex_share 1024 700 600 (vertex_at 0 0) ≡ 0)
shares_of_a_place = (refl, refl, refl)

weights_of_places :
    (control_weights false (up_share 4 0 0) ≡ map pos (192 ∷ 192 ∷ 192 ∷ 0 ∷ 0 ∷ 0 ∷ 0 ∷ 0 ∷ 0 ∷ []))
    × (control_weights false (up_share 3 1 1) ≡ map pos (72 ∷ 36 ∷ 0 ∷ 0 ∷ 72 ∷ 36 ∷ 36 ∷ 0 ∷ 72 ∷ []))
weights_of_places = (refl, refl)

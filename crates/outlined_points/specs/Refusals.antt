-- Document 02, a: the rows of surface points and of Bézier nets with an outline, each in the order 1, 6, 2, 13, 15, 5,
-- 3.
use Rattle.std.specs.Prelude.{◌≡◌, refl, Bool, true, false, ◌||◌, not, List, [], ◌∷◌, ◌++◌, ℕ, ltb, eqb, ℤ, pos, replicate, set}
use Rattle.net.specs.Net.{Triangle, triangle_at, numbers}
use Rattle.net.specs.Refusals.{Fault, first_fault, bad_size, short_net}
use Rattle.places.specs.Places.{chosen}
use Rattle.places.specs.Refusals.{no_place}
use Rattle.triangles.specs.Refusals.{triangle_beyond}
use Rattle.outline.specs.Outline.{present}
use Rattle.outline.specs.Refusals.{short_outline, bad_byte}
use Rattle.door.specs.Door.{on_door}
use Rattle.bezier.specs.Refusals.{no_triangle}

-- the rows of a point before 5. 2: 'a short outline is refused by 2', as a short net is; 15: 'a place or a triangle
-- asked for that is off the door, after 13 and before 5'
abbrev pub point_faults : List ℤ → ℕ → ℕ → List ℕ → ℕ → ℕ → List Fault
point_faults net w h outline p q =
    (bad_size w h, 1)
    ∷ (no_place 1024 w h p q, 6)
    ∷ (short_net net w h || short_outline outline w h, 2)
    ∷ (bad_byte outline w h, 13)
    ∷ (not (on_door 1024 outline w h p q), 15)
    ∷ []

-- 3 looks at the triangle that is chosen for the place, present or missing: 'Points on the door are computed as
-- before'; `short` is whether an output lent for the point is too short
abbrev pub outlined_point_refusal : List ℤ → ℕ → ℕ → List ℕ → ℕ → ℕ → Bool → ℕ
outlined_point_refusal net w h outline p q short =
    first_fault
    (point_faults net w h outline p q ++ (short, 5) ∷ (triangle_beyond net w (chosen 1024 w h p q), 3) ∷ [])

-- `down` is 0 for the up triangle and 1 for the down triangle; another number names no triangle
abbrev pub triangle_by : ℕ → ℕ → ℕ → Triangle
triangle_by i j down = triangle_at i j (eqb down 1)

-- the rows of a Bézier net before 5. 15: the triangle asked for is missing
abbrev pub bezier_faults : List ℤ → ℕ → ℕ → List ℕ → ℕ → ℕ → ℕ → List Fault
bezier_faults net w h outline i j down =
    (bad_size w h, 1)
    ∷ (no_triangle w h i j || ltb 1 down, 6)
    ∷ (short_net net w h || short_outline outline w h, 2)
    ∷ (bad_byte outline w h, 13)
    ∷ (not (present outline w (triangle_by i j down)), 15)
    ∷ []

-- `room` is the length of the lent output; 5: it is shorter than the 57 numbers
abbrev pub outlined_bezier_refusal : List ℤ → ℕ → ℕ → List ℕ → ℕ → ℕ → ℕ → ℕ → ℕ
outlined_bezier_refusal net w h outline i j down room =
    first_fault
    (bezier_faults net w h outline i j down ++ (ltb room 57, 5) ∷ (triangle_beyond net w (triangle_by i j down), 3) ∷ [])

-- ---- worked cases

-- of 3 by 2: a number too few, each beyond the range; zeros; zeros but for one number, of vertex (2, 0) or of vertex
-- (0, 0), which is beyond the range
abbrev too_few32 : List ℤ
too_few32 = replicate 53 (pos 16777217)

abbrev zeros32 : List ℤ
zeros32 = replicate (numbers 3 2) (pos 0)

abbrev beyond_at20 : List ℤ
beyond_at20 = set zeros32 (numbers 1 2) (pos 16777217)

abbrev beyond_at00 : List ℤ
beyond_at00 = set zeros32 0 (pos 16777217)

-- every fault at once, and then without the one that was found, to none: place (1500, 300) lies in the up triangle of
-- cell (1, 0) alone; 2 is of the net and of the outline
point_order :
    (outlined_point_refusal too_few32 1026 2 (2 ∷ 1 ∷ 0 ∷ []) 300 1500 true ≡ 1)
    × (outlined_point_refusal too_few32 3 2 (2 ∷ 1 ∷ 0 ∷ []) 300 1500 true ≡ 6)
    × (outlined_point_refusal too_few32 3 2 (2 ∷ 1 ∷ 0 ∷ []) 1500 300 true ≡ 2)
    × (outlined_point_refusal too_few32 3 2 (2 ∷ 1 ∷ 0 ∷ 1 ∷ []) 1500 300 true ≡ 2)
    × (outlined_point_refusal beyond_at20 3 2 (2 ∷ 1 ∷ 0 ∷ []) 1500 300 true ≡ 2)
    × (outlined_point_refusal beyond_at20 3 2 (2 ∷ 1 ∷ 0 ∷ 1 ∷ []) 1500 300 true ≡ 13)
    × (outlined_point_refusal beyond_at20 3 2 (0 ∷ 1 ∷ 0 ∷ 1 ∷ []) 1500 300 true ≡ 15)
    × (outlined_point_refusal beyond_at20 3 2 (0 ∷ 1 ∷ 1 ∷ 1 ∷ []) 1500 300 true ≡ 5)
    × (outlined_point_refusal beyond_at20 3 2 (0 ∷ 1 ∷ 1 ∷ 1 ∷ []) 1500 300 false ≡ 3)
    × (outlined_point_refusal zeros32 3 2 (0 ∷ 1 ∷ 1 ∷ 1 ∷ []) 1500 300 false ≡ 0)
unfolding bad_byte on_door
point_order = (refl, refl, refl, refl, refl, refl, refl, refl, refl, refl)

-- place (1024, 300) on the edge between the down triangle of cell (0, 0) and the up triangle of cell (1, 0), which is
-- chosen: accepted where only the other is present, and not where neither is; 3 looks at the chosen one, which has
-- vertex (2, 0), while place (1000, 300) lies in the other alone. A byte above 1 counts wherever it stands, and not
-- past the last triangle
edges :
    (outlined_point_refusal zeros32 3 2 (0 ∷ 1 ∷ 0 ∷ 0 ∷ []) 1024 300 false ≡ 0)
    × (outlined_point_refusal zeros32 3 2 (1 ∷ 0 ∷ 0 ∷ 1 ∷ []) 1024 300 false ≡ 15)
    × (outlined_point_refusal beyond_at20 3 2 (0 ∷ 1 ∷ 0 ∷ 0 ∷ []) 1024 300 false ≡ 3)
    × (outlined_point_refusal beyond_at20 3 2 (0 ∷ 1 ∷ 0 ∷ 0 ∷ []) 1000 300 false ≡ 0)
    × (outlined_point_refusal zeros32 3 2 (0 ∷ 1 ∷ 0 ∷ 2 ∷ []) 1000 300 false ≡ 13)
    × (outlined_point_refusal zeros32 3 2 (0 ∷ 1 ∷ 0 ∷ 0 ∷ 2 ∷ []) 1000 300 false ≡ 0)
unfolding bad_byte on_door
edges = (refl, refl, refl, refl, refl, refl)

bezier_order :
    (outlined_bezier_refusal too_few32 1026 2 (2 ∷ 1 ∷ 0 ∷ []) 0 1 2 56 ≡ 1)
    × (outlined_bezier_refusal too_few32 3 2 (2 ∷ 1 ∷ 0 ∷ []) 0 1 2 56 ≡ 6)
    × (outlined_bezier_refusal too_few32 3 2 (2 ∷ 1 ∷ 0 ∷ []) 1 0 2 56 ≡ 6)
    × (outlined_bezier_refusal too_few32 3 2 (2 ∷ 1 ∷ 0 ∷ []) 0 1 0 56 ≡ 6)
    × (outlined_bezier_refusal too_few32 3 2 (2 ∷ 1 ∷ 0 ∷ []) 1 0 0 56 ≡ 2)
    × (outlined_bezier_refusal too_few32 3 2 (2 ∷ 1 ∷ 0 ∷ 1 ∷ []) 1 0 0 56 ≡ 2)
    × (outlined_bezier_refusal beyond_at20 3 2 (2 ∷ 1 ∷ 0 ∷ []) 1 0 0 56 ≡ 2)
    × (outlined_bezier_refusal beyond_at20 3 2 (2 ∷ 1 ∷ 0 ∷ 1 ∷ []) 1 0 0 56 ≡ 13)
    × (outlined_bezier_refusal beyond_at20 3 2 (0 ∷ 1 ∷ 0 ∷ 1 ∷ []) 1 0 0 56 ≡ 15)
    × (outlined_bezier_refusal beyond_at20 3 2 (0 ∷ 0 ∷ 1 ∷ 0 ∷ []) 1 0 0 56 ≡ 5)
    × (outlined_bezier_refusal beyond_at20 3 2 (0 ∷ 0 ∷ 1 ∷ 0 ∷ []) 1 0 0 57 ≡ 3)
    × (outlined_bezier_refusal zeros32 3 2 (0 ∷ 0 ∷ 1 ∷ 0 ∷ []) 1 0 0 57 ≡ 0)
unfolding bad_byte
bezier_order = (refl, refl, refl, refl, refl, refl, refl, refl, refl, refl, refl, refl)

-- the down triangle of cell (0, 0) does not have the vertices (2, 0) and (0, 0), and the up triangle has vertex (0, 0)
kinds :
    (triangle_by 3 5 0 ≡ triangle_at 3 5 false)
    × (triangle_by 3 5 1 ≡ triangle_at 3 5 true)
    × (outlined_bezier_refusal beyond_at20 3 2 (0 ∷ 1 ∷ 0 ∷ 0 ∷ []) 0 0 1 57 ≡ 0)
    × (outlined_bezier_refusal beyond_at20 3 2 (0 ∷ 1 ∷ 0 ∷ 0 ∷ []) 0 0 0 57 ≡ 15)
    × (outlined_bezier_refusal beyond_at00 3 2 (1 ∷ 1 ∷ 0 ∷ 0 ∷ []) 0 0 1 57 ≡ 0)
    × (outlined_bezier_refusal beyond_at00 3 2 (1 ∷ 1 ∷ 0 ∷ 0 ∷ []) 0 0 0 57 ≡ 3)
unfolding bad_byte
kinds = (refl, refl, refl, refl, refl, refl)

-- of 4 by 3, where the up triangle of cell (1, 1) alone is present, which has byte 8: a place in it, and itself
abbrev zeros43 : List ℤ
zeros43 = replicate (numbers 4 3) (pos 0)

of_4_by_3 :
    (outlined_point_refusal zeros43 4 3 (0 ∷ 0 ∷ 0 ∷ 0 ∷ 0 ∷ 0 ∷ 0 ∷ 0 ∷ 1 ∷ 0 ∷ 0 ∷ 0 ∷ []) 1500 1100 false ≡ 0)
    × (outlined_bezier_refusal zeros43 4 3 (0 ∷ 0 ∷ 0 ∷ 0 ∷ 0 ∷ 0 ∷ 0 ∷ 0 ∷ 1 ∷ 0 ∷ 0 ∷ 0 ∷ []) 1 1 0 57 ≡ 0)
unfolding bad_byte on_door
of_4_by_3 = (refl, refl)

-- Document 02 d: 'A left door is the right door with one coordinate negated.' The mirror image of a net, of details and
-- of a point, in any set of the three coordinates.
use Rattle.std.specs.Prelude.{◌≡◌, refl, Bool, true, false, not, cond, List, [], ◌∷◌, map, ℕ, ◌*◌, ◌<◌, eqb, Float, ℤ, pos, negsuc, neg_ℤ, take, drop, replicate}
use Rattle.std.specs.Float.{fin}
use Rattle.std.specs.Float.Ieee.{of_int, div}
use Rattle.exact.specs.Rounding.{negated_if}
use Rattle.exact.specs.Filling.{runs}
use Rattle.net.specs.Net.{Index, vertex_at, stride, number, field, grid, control_point, control_triangle, squares}
use Rattle.net.specs.Refusals.{accepted, short_net}
use Rattle.surface.specs.Answers.{millimetres}
use Rattle.steps.specs.RefinedNet.{Fields, stored}
use Rattle.details.specs.Details.{detail_field}
use Rattle.details.specs.Refusals.{short_details}

-- which coordinates are negated: of 0, 1, 2 for x, y, z, whether it is
abbrev pub Coordinates : Type 0
Coordinates = ℕ → Bool

-- the second fields are the first with these coordinates negated, by vertex, control and coordinate, at each vertex of
-- a grid of width w and height h
abbrev pub Opposite : Coordinates → ℕ → ℕ → Fields → Fields → Type 0
Opposite m w h F G =
    (x : ℕ) → x < 3 → (i j : ℕ) → i < w → j < h → (k : Index) →
    G x (vertex_at i j) k ≡ negated_if (m x) (F x (vertex_at i j) k)

-- the mirror image of a lent net: 'a net with a coordinate negated'. It has all its numbers where the net has; what
-- stands after them does not matter.
pub record Mirrored (m : Coordinates) (w h : ℕ) (net image : List ℤ) : Type 0 where
  pub short : short_net image w h ≡ short_net net w h
  pub opposite : Opposite m w h (field net w) (field image w)

-- and of lent details
pub record MirroredDetails (m : Coordinates) (w h : ℕ) (details image : List ℤ) : Type 0 where
  pub short : short_details image w h ≡ short_details details w h
  pub opposite : Opposite m w h (detail_field details w) (detail_field image w)

-- the mirror image of a net as it is stored, number for number
unfoldable pub mirror_net : Coordinates → List ℤ → ℕ → ℕ → List ℤ
mirror_net m net w h = stored (λ x v k. negated_if (m x) (field net w x v k)) w h

-- a point x, y, z with coordinates negated; and an answer: a refusal stays as it is
abbrev pub mirror_point : Coordinates → List ℤ → List ℤ
mirror_point m p = negated_if (m 0) (number p 0) ∷ negated_if (m 1) (number p 1) ∷ negated_if (m 2) (number p 2) ∷ []

abbrev pub mirror_answer : Coordinates → ℕ × List ℤ → ℕ × List ℤ
mirror_answer m (refusal, point) = (refusal, cond (accepted refusal) (mirror_point m point) [])

-- an answer in millimetres, as the viewer has it: of a negated coordinate, the double of the negated whole number
abbrev pub in_millimetres : ℕ × List ℤ → ℕ × List Float
in_millimetres (refusal, point) = (refusal, map millimetres point)

-- ---- worked cases; `Cases` has those of the two relations

-- y alone, x and z, and all three
abbrev y : Coordinates
y x = eqb x 1

abbrev xz : Coordinates
xz x = not (eqb x 1)

abbrev all : Coordinates
all x = true

-- of the net of 2 by 3 whose numbers are the squares, the records of vertices (0, 1) and (1, 2) of its mirror images
abbrev record_of : Coordinates → ℕ → List ℤ
record_of m n = take stride (drop (stride * n) (mirror_net m (squares 54) 2 3))

abbrev minus : ℕ → ℤ
minus n = neg_ℤ (pos n)

records :
    (record_of y 2
    ≡ pos 324 ∷ minus 361 ∷ pos 400 ∷ pos 441 ∷ minus 484 ∷ pos 529 ∷ pos 576 ∷ minus 625 ∷ pos 676 ∷ [])
    × (record_of xz 5
    ≡ minus 2025 ∷ pos 2116 ∷ minus 2209 ∷ minus 2304 ∷ pos 2401 ∷ minus 2500 ∷ minus 2601 ∷ pos 2704 ∷ minus 2809 ∷ [])
unfolding mirror_net stored grid runs control_triangle control_point
records = (refl, refl)

-- a point, an answer and a refusal; zero stays zero, and the double of 0
points :
    (mirror_point xz (pos 1 ∷ pos 2 ∷ negsuc 2 ∷ []) ≡ negsuc 0 ∷ pos 2 ∷ pos 3 ∷ [])
    × (mirror_answer all (0, pos 0 ∷ pos 5 ∷ negsuc 6 ∷ []) ≡ (0, pos 0 ∷ negsuc 4 ∷ pos 7 ∷ []))
    × (mirror_answer all (6, []) ≡ (6, []))
points = (refl, refl, refl)

doubles :
    (in_millimetres (mirror_answer y (0, pos 1 ∷ pos 1536 ∷ pos 0 ∷ []))
    ≡ (0, fin false 1 (negsuc 9) ∷ fin true 3 (negsuc 0) ∷ millimetres (pos 0) ∷ []))
    × (in_millimetres (mirror_answer y (0, pos 0 ∷ pos 0 ∷ pos 0 ∷ [])) ≡ (0, map millimetres (replicate 3 (pos 0))))
    × (in_millimetres (mirror_answer y (6, [])) ≡ (6, []))
unfolding div of_int
doubles = (refl, refl, refl)

-- Document 01, "Bézier net": the points s, u, v, r, m and z. A Bézier point is written in one coordinate, of the nine
-- control values of a triangle's corners. Each definition says the factor that makes it whole.
use Rattle.std.specs.Prelude.{◌≡◌, refl, Bool, true, false, cond, List, [], ◌∷◌, ℤ, pos, ◌+ℤ◌, ◌*ℤ◌}
use Rattle.net.specs.Net.{Index, one, two, three, next, previous, Triangle, corner, Field, is_next}

-- the control values of a triangle's corners: corner, then control
abbrev pub Controls : Type 0
Controls = Index → Index → ℤ

abbrev pub controls_of : Field → Triangle → Controls
controls_of F t P k = F (corner t P) k

-- the nine control values as a list, by corner and then c1 to c3
abbrev pub control_list : Controls → List ℤ
control_list c =
    c one one ∷ c one two ∷ c one three
    ∷ c two one ∷ c two two ∷ c two three
    ∷ c three one ∷ c three two ∷ c three three ∷ []

-- 'For corner P of a triangle, one neighbour is P + ek, the other P - em; n is the third index.' The neighbour P + ek
-- is the next corner and P - em the previous one, in up and in down triangles (`steps_agree` in proofs/Corners.antt);
-- `down` says which triangle.
abbrev pub index_k : Bool → Index → Index
index_k false P = P
index_k true one = two
index_k true two = one
index_k true three = three

abbrev pub index_m : Bool → Index → Index
index_m false P = previous P
index_m true one = three
index_m true two = two
index_m true three = one

abbrev pub index_n : Bool → Index → Index
index_n false P = next P
index_n true one = one
index_n true two = three
index_n true three = two

-- 3s: the sum of the three controls
abbrev pub three_s : Controls → Index → ℤ
three_s c P = c P one +ℤ c P two +ℤ c P three

-- 6u towards P + ek: 4ck + the other two. 6u towards P - em: three times the two that are not cm.
abbrev pub six_u : Bool → Controls → Index → Index → ℤ
six_u down c P Q =
    cond (is_next P Q)
    (pos 4 *ℤ c P (index_k down P) +ℤ c P (index_m down P) +ℤ c P (index_n down P))
    (pos 3 *ℤ (c P (index_k down P) +ℤ c P (index_n down P)))

-- 3v: 2ck + cn
abbrev pub three_v : Bool → Controls → Index → ℤ
three_v down c P = pos 2 *ℤ c P (index_k down P) +ℤ c P (index_n down P)

-- the six kinds of points times 36: s, u and v of a corner; r = (uP + uQ)/2 and m = (vP + vQ)/2 of an edge; z = (v1 +
-- v2 + v3)/3
abbrev pub point_s : Controls → Index → ℤ
point_s c P = pos 12 *ℤ three_s c P

abbrev pub point_u : Bool → Controls → Index → Index → ℤ
point_u down c P Q = pos 6 *ℤ six_u down c P Q

abbrev pub point_v : Bool → Controls → Index → ℤ
point_v down c P = pos 12 *ℤ three_v down c P

abbrev pub point_r : Bool → Controls → Index → Index → ℤ
point_r down c P Q = pos 3 *ℤ (six_u down c P Q +ℤ six_u down c Q P)

abbrev pub point_m : Bool → Controls → Index → Index → ℤ
point_m down c P Q = pos 6 *ℤ (three_v down c P +ℤ three_v down c Q)

abbrev pub point_z : Bool → Controls → ℤ
point_z down c = pos 4 *ℤ (three_v down c one +ℤ three_v down c two +ℤ three_v down c three)

-- worked cases: in the up triangle of cell (0, 0), corner 1 = (0, 0) has (1, 0) = P + e1 and (0, 1) = P - e3, so k, m,
-- n are 1, 3, 2; in the down triangle corner 1 = (1, 0) has (0, 1) = P + e2 and (1, 1) = P - e3
first_corners :
    (index_k false one ≡ one) × (index_m false one ≡ three) × (index_n false one ≡ two)
    × (index_k true one ≡ two) × (index_m true one ≡ three) × (index_n true one ≡ one)
first_corners = (refl, refl, refl, refl, refl, refl)

-- and the points of nine control values that differ, times 36: of the up triangle, by document 01's sums, s of corner 1
-- is 38/3, u12 50/6, u13 13/2, v1 17/3, r12 119/12, m12 28/3 and z 115/9; of the down triangle, u12 is 65/6 and v2 is
-- 9/3
abbrev values : Controls
values one one = pos 4
values one two = pos 9
values one three = pos 25
values two one = pos 1
values two two = pos 16
values two three = pos 7
values three one = pos 37
values three two = pos 2
values three three = pos 11

points_of_values :
    (point_s values one ≡ pos 456)
    × (point_u false values one two ≡ pos 300)
    × (point_u false values one three ≡ pos 234)
    × (point_v false values one ≡ pos 204)
    × (point_r false values one two ≡ pos 357)
    × (point_m false values one two ≡ pos 336)
    × (point_z false values ≡ pos 460)
    × (point_u true values one two ≡ pos 390)
    × (point_v true values two ≡ pos 108)
points_of_values = (refl, refl, refl, refl, refl, refl, refl, refl, refl)

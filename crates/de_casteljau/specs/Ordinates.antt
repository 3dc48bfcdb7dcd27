-- Document 01, "Bézier net", of the small triangle that holds a place: corner P, the middle of the edge P, Q, and the
-- centre. Its six points are source document 000's Bézier ordinates b(λ1, λ2, λ3), λ1 + λ2 + λ3 = 2. They are
-- written in one coordinate and times 36, of ck, cn, cm of the corners P, Q and T.
use Rattle.std.specs.Prelude.{◌≡◌, refl, Bool, true, false, not, List, [], ◌∷◌, ℤ, pos, ◌+ℤ◌, ◌*ℤ◌}
use Rattle.de_casteljau.specs.declared.points.Corner.{Corner}
use Rattle.de_casteljau.specs.declared.points.Ordinates.{Ordinates}

-- the values of a corner
abbrev pub values_of : Corner → List ℤ
values_of c = c.k ∷ c.n ∷ c.m ∷ []

-- 3s: the sum of the three
abbrev pub corner_s : Corner → ℤ
corner_s c = c.k +ℤ c.n +ℤ c.m

-- 6u: towards the next corner, P + ek, 4ck + the other two; towards the previous one, P - em, three times the two that
-- are not cm
abbrev pub corner_u : Bool → Corner → ℤ
corner_u true c = pos 4 *ℤ c.k +ℤ c.n +ℤ c.m
corner_u false c = pos 3 *ℤ (c.k +ℤ c.n)

-- 3v: 2ck + cn
abbrev pub corner_v : Corner → ℤ
corner_v c = pos 2 *ℤ c.k +ℤ c.n

-- sP, u, vP, r, m, z. `ahead` is whether Q is the next corner after P; P is then the previous corner of Q.
abbrev pub ordinates : Bool → (p q t : Corner) → Ordinates
ordinates ahead p q t =
    record {
      b200 = pos 12 *ℤ corner_s p;
      b110 = pos 6 *ℤ corner_u ahead p;
      b101 = pos 12 *ℤ corner_v p;
      b020 = pos 3 *ℤ (corner_u ahead p +ℤ corner_u (not ahead) q);
      b011 = pos 6 *ℤ (corner_v p +ℤ corner_v q);
      b002 = pos 4 *ℤ (corner_v p +ℤ corner_v q +ℤ corner_v t);
    }

-- the six in this order
abbrev pub six : Ordinates → List ℤ
six o = o.b200 ∷ o.b110 ∷ o.b101 ∷ o.b020 ∷ o.b011 ∷ o.b002 ∷ []

-- worked cases: of the up triangle whose nine control values differ in `BezierPoints`, with P = 1, Q = 2, T = 3 and
-- with P = 1, Q = 3, T = 2; the points of the first are those that stand there
abbrev corner1 : Corner
corner1 = record { k = pos 4; n = pos 9; m = pos 25 }

abbrev corner2 : Corner
corner2 = record { k = pos 16; n = pos 7; m = pos 1 }

abbrev corner3 : Corner
corner3 = record { k = pos 11; n = pos 37; m = pos 2 }

points_of_values :
    (six (ordinates true corner1 corner2 corner3)
    ≡ pos 456 ∷ pos 300 ∷ pos 204 ∷ pos 357 ∷ pos 336 ∷ pos 460 ∷ [])
    × (six (ordinates false corner1 corner3 corner2)
    ≡ pos 456 ∷ pos 234 ∷ pos 204 ∷ pos 366 ∷ pos 456 ∷ pos 460 ∷ [])
    × (values_of corner1 ≡ pos 4 ∷ pos 9 ∷ pos 25 ∷ [])
points_of_values = (refl, refl, refl)

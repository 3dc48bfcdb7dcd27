-- Document 02 c: the net through given points, the Hermite interpolant.
use Rattle.std.specs.Prelude.{◌≡◌, refl, List, ◌++◌, map, [], ◌∷◌, ℕ, ◌*◌, ℤ, pos, neg_ℤ, ◌+ℤ◌, ◌-ℤ◌, take, drop}
use Rattle.exact.specs.Filling.{runs}
use Rattle.net.specs.Net.{Index, one, two, three, grid, control_point, stride, squares}
use Rattle.steps.specs.RefinedNet.{Fields, stored}
use Rattle.hermite.specs.Given.{vectors_at, given_p, given_t1, given_t2}

-- 'c1 = p + t1, c2 = p + t2, c3 = p - t1 - t2', in one coordinate
abbrev pub hermite_control : ℤ → ℤ → ℤ → Index → ℤ
hermite_control p t1 t2 one = p +ℤ t1
hermite_control p t1 t2 two = p +ℤ t2
hermite_control p t1 t2 three = p -ℤ t1 -ℤ t2

-- the three fields of the net, and the net as it is stored
abbrev pub hermite_fields : List ℤ → ℕ → Fields
hermite_fields given w x v = hermite_control (given_p given w x v) (given_t1 given w x v) (given_t2 given w x v)

unfoldable pub hermite_net : List ℤ → ℕ → ℕ → List ℤ
hermite_net given w h = stored (hermite_fields given w) w h

-- worked case: given points of 3 by 2 that are the squares; the records of vertices (2, 0) and (1, 1)
abbrev record_of : ℕ → List ℤ
record_of n = take stride (drop (stride * n) (hermite_net (squares 54) 3 2))

of_squares_lem :
    (record_of 2 ≡ map pos (765 ∷ 845 ∷ 929 ∷ 900 ∷ 986 ∷ 1076 ∷ []) ++ map neg_ℤ (map pos (693 ∷ 748 ∷ 805 ∷ [])))
    × (record_of 4
    ≡ map pos (2817 ∷ 2969 ∷ 3125 ∷ 3060 ∷ 3218 ∷ 3380 ∷ []) ++ map neg_ℤ (map pos (1989 ∷ 2080 ∷ 2173 ∷ [])))
unfolding hermite_net stored grid runs vectors_at control_point
of_squares_lem = (refl, refl)

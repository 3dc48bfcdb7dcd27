-- What the inner functions hand on to each other: the control triangle of a vertex by value, in 64 and in 32 bits. No
-- public contract cites these.
use Rattle.std.specs.Prelude.{◌≡◌, refl, List, [], ◌∷◌, map, ℕ, ℤ, pos, negsuc, ◌+ℤ◌, ◌-ℤ◌, get_or}
use Rattle.net.specs.Net.{number}

-- p + t and p - a - b
abbrev pub sum_point : List ℤ → List ℤ → List ℤ
sum_point p t = map (λ (x : ℕ). number p x +ℤ number t x) (0 ∷ 1 ∷ 2 ∷ [])

abbrev pub difference_point : List ℤ → List ℤ → List ℤ → List ℤ
difference_point p a b = map (λ (x : ℕ). number p x -ℤ number a x -ℤ number b x) (0 ∷ 1 ∷ 2 ∷ [])

-- the control triangle of p, t1 and t2
abbrev pub sum_triangle : List (List ℤ) → List (List ℤ)
sum_triangle v =
    sum_point (get_or v 0 []) (get_or v 1 []) ∷ sum_point (get_or v 0 []) (get_or v 2 [])
    ∷ difference_point (get_or v 0 []) (get_or v 1 []) (get_or v 2 []) ∷ []

-- the numbers of a control point and of a control triangle, as arrays have them
abbrev pub three_of : List ℤ → List ℤ
three_of c = map (number c) (0 ∷ 1 ∷ 2 ∷ [])

abbrev pub nine_of : List (List ℤ) → List (List ℤ)
nine_of c = three_of (get_or c 0 []) ∷ three_of (get_or c 1 []) ∷ three_of (get_or c 2 []) ∷ []

-- worked cases: of p = 1, 2, 3, t1 = 10, 20, 30 and t2 = 100, 200, 400; and nine numbers stay as they are
of_numbers :
    sum_triangle ((pos 1 ∷ pos 2 ∷ pos 3 ∷ []) ∷ (pos 10 ∷ pos 20 ∷ pos 30 ∷ []) ∷ (pos 100 ∷ pos 200 ∷ pos 400 ∷ []) ∷ [])
    ≡ (pos 11 ∷ pos 22 ∷ pos 33 ∷ []) ∷ (pos 101 ∷ pos 202 ∷ pos 403 ∷ [])
    ∷ (negsuc 108 ∷ negsuc 217 ∷ negsuc 426 ∷ []) ∷ []
of_numbers = refl

abbrev digits : List (List ℤ)
digits = (pos 1 ∷ pos 2 ∷ pos 3 ∷ []) ∷ (pos 4 ∷ pos 5 ∷ pos 6 ∷ []) ∷ (pos 7 ∷ pos 8 ∷ pos 9 ∷ []) ∷ []

as_they_are : nine_of digits ≡ digits
as_they_are = refl

-- Document 01, "Turned away": the rows of surface points, in the order 1, 6, 2, 5, 3.
use Rattle.std.specs.Prelude.{◌≡◌, refl, Bool, true, false, List, [], ◌∷◌, ℕ, ◌-◌, ℤ, pos, replicate, set}
use Rattle.net.specs.Net.{numbers}
use Rattle.net.specs.Refusals.{first_fault, bad_size, short_net, zeros, too_large, too_few}
use Rattle.places.specs.Places.{chosen}
use Rattle.places.specs.Refusals.{no_place}
use Rattle.triangles.specs.Refusals.{triangle_beyond}

-- 3 looks at the triangle that is chosen for the place; `short` is whether an output lent for the point is too short
abbrev pub point_refusal_with : List ℤ → ℕ → ℕ → ℕ → ℕ → Bool → ℕ
point_refusal_with net w h p q short =
    first_fault
    ((bad_size w h, 1)
    ∷ (no_place 1024 w h p q, 6)
    ∷ (short_net net w h, 2)
    ∷ (short, 5)
    ∷ (triangle_beyond net w (chosen 1024 w h p q), 3)
    ∷ [])

-- where no output is lent: 1, 6, 2, 3
abbrev pub point_refusal : List ℤ → ℕ → ℕ → ℕ → ℕ → ℕ
point_refusal net w h p q = point_refusal_with net w h p q false

-- worked cases: every fault at once, and then without the one that was found, to none, where an output is lent and
-- where none is; document 01's example of 6 and the accepted place p = 1,024 at w = 2; with f + g = 1024, a number of
-- vertex (0, 0) beyond the range counts and one of vertex (1, 1) does not, since the up triangle is chosen
order_with :
    (point_refusal_with too_few 1026 2 1049601 0 true ≡ 1)
    × (point_refusal_with too_few 2 2 1025 0 true ≡ 6)
    × (point_refusal_with too_few 2 2 1024 0 true ≡ 2)
    × (point_refusal_with (too_large 9) 2 2 1024 0 true ≡ 5)
    × (point_refusal_with (too_large 9) 2 2 1024 0 false ≡ 3)
    × (point_refusal_with zeros 2 2 1024 0 false ≡ 0)
order_with = (refl, refl, refl, refl, refl, refl)

order :
    (point_refusal too_few 1026 2 1049601 0 ≡ 1)
    × (point_refusal too_few 2 2 1025 0 ≡ 6)
    × (point_refusal too_few 2 2 1024 0 ≡ 2)
    × (point_refusal (too_large 9) 2 2 1024 0 ≡ 3)
    × (point_refusal zeros 2 2 1024 0 ≡ 0)
order = (refl, refl, refl, refl, refl)

-- of a net of 3 by 2, whose sides tell p from q: the last places and places past them; a number of vertex (2, 0) beyond
-- the range counts in cell (1, 0) and not in cell (0, 0)
abbrev beyond_at20 : List ℤ
beyond_at20 = set (replicate (numbers 3 2) (pos 0)) (numbers 1 2) (pos 16777217)

of_3_by_2 :
    (point_refusal beyond_at20 3 2 2048 1025 ≡ 6)
    × (point_refusal beyond_at20 3 2 1025 2048 ≡ 6)
    × (point_refusal beyond_at20 3 2 2048 1024 ≡ 3)
    × (point_refusal beyond_at20 3 2 1500 300 ≡ 3)
    × (point_refusal beyond_at20 3 2 300 1000 ≡ 0)
of_3_by_2 = (refl, refl, refl, refl, refl)

on_the_diagonal :
    (point_refusal (too_large 0) 2 2 512 512 ≡ 3)
    × (point_refusal (too_large (numbers 2 2 - 1)) 2 2 512 512 ≡ 0)
    × (point_refusal (too_large (numbers 2 2 - 1)) 2 2 512 513 ≡ 3)
    × (point_refusal (too_large 0) 2 2 512 513 ≡ 0)
on_the_diagonal = (refl, refl, refl, refl)

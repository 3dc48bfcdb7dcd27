-- Document 01, "Turned away": the rows of Bézier nets, in the order 1, 6, 2, 5, 3.
use Rattle.std.specs.Prelude.{◌≡◌, refl, Bool, true, false, ◌||◌, List, [], ◌∷◌, ℕ, ◌-◌, leb, ltb, ℤ, pos, replicate}
use Rattle.net.specs.Net.{triangle_at, numbers}
use Rattle.net.specs.Refusals.{first_fault, bad_size, short_net, zeros, too_large, too_few}
use Rattle.triangles.specs.Refusals.{triangle_beyond}

-- 6: no such triangle
abbrev pub no_triangle : ℕ → ℕ → ℕ → ℕ → Bool
no_triangle w h i j = leb (w - 1) i || leb (h - 1) j

-- `room` is the length of the lent output; 5: it is shorter than the 57 numbers
abbrev pub bezier_refusal : List ℤ → ℕ → ℕ → ℕ → ℕ → Bool → ℕ → ℕ
bezier_refusal net w h i j down room =
    first_fault
    ((bad_size w h, 1)
    ∷ (no_triangle w h i j, 6)
    ∷ (short_net net w h, 2)
    ∷ (ltb room 57, 5)
    ∷ (triangle_beyond net w (triangle_at i j down), 3)
    ∷ [])

-- worked cases: every fault at once, and then without the one that was found, to a number beyond the range at a vertex
-- of the down triangle and to none; the last cell of 3 by 2, and a row of cells that it does not have
order :
    (bezier_refusal too_few 1026 2 1025 0 true 56 ≡ 1)
    × (bezier_refusal too_few 2 2 1 0 true 56 ≡ 6)
    × (bezier_refusal too_few 2 2 0 0 true 56 ≡ 2)
    × (bezier_refusal (too_large (numbers 2 2 - 1)) 2 2 0 0 true 56 ≡ 5)
    × (bezier_refusal (too_large (numbers 2 2 - 1)) 2 2 0 0 true 57 ≡ 3)
    × (bezier_refusal zeros 2 2 0 0 true 57 ≡ 0)
order = (refl, refl, refl, refl, refl, refl)

cells :
    (bezier_refusal (replicate (numbers 3 2) (pos 0)) 3 2 1 0 false 57 ≡ 0)
    × (bezier_refusal (replicate (numbers 3 2) (pos 0)) 3 2 0 1 false 57 ≡ 6)
cells = (refl, refl)

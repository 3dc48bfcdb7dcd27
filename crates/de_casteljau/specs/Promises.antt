-- The six points and the averages, of the definitions: the statements, each with the name of its proof.
use Rattle.std.specs.Prelude.{◌≡◌, Bool, [], ◌∷◌, ℕ, ◌+◌, ◌*◌, ℤ, pos, ◌+ℤ◌, ◌*ℤ◌, ◌≤ℤ◌}
use Rattle.std.specs.Int.Signed.{le_z_yes}
use Rattle.net.specs.Net.{Index}
use Rattle.places.specs.Places.{Order, corner_p, corner_q, corner_t}
use Rattle.places.specs.Located.{ahead_of}
use Rattle.triangles.specs.BezierPoints.{Controls, index_k, index_n, index_m, point_s, point_u, point_v, point_r, point_m, point_z}
use Rattle.de_casteljau.specs.declared.points.Corner.{Corner}
use Rattle.de_casteljau.specs.declared.points.Ordinates.{Ordinates}
use Rattle.de_casteljau.specs.Ordinates.{ordinates, six}
use Rattle.de_casteljau.specs.Averages.{average, first_average, second_average, third_average, last_average}

-- ck, cn, cm of a corner, and the six points of a triangle's control values in an order of its corners
abbrev pub corner_in : Bool → Controls → Index → Corner
corner_in down c P = record { k = c P (index_k down P); n = c P (index_n down P); m = c P (index_m down P) }

abbrev pub ordinates_in : Bool → Controls → Order → Ordinates
ordinates_in down c o =
    ordinates (ahead_of o) (corner_in down c (corner_p o)) (corner_in down c (corner_q o)) (corner_in down c (corner_t o))

-- the six points are document 01's sP, u, vP, r, m, z, in both triangles and every order (`six_are_points`)
abbrev pub SixArePoints : Type 0
SixArePoints =
    (down : Bool) (c : Controls) (o : Order) →
    six (ordinates_in down c o)
    ≡ point_s c (corner_p o)
    ∷ point_u down c (corner_p o) (corner_q o)
    ∷ point_v down c (corner_p o)
    ∷ point_r down c (corner_p o) (corner_q o)
    ∷ point_m down c (corner_p o) (corner_q o)
    ∷ point_z down c ∷ []

-- the last average is the quadratic polynomial of the six points (`last_expanded`)
abbrev pub LastExpanded : Type 0
LastExpanded =
    (A B G : ℕ) (o : Ordinates) →
    last_average A B G o
    ≡ pos (A * A) *ℤ o.b200
    +ℤ pos (2 * (A * B)) *ℤ o.b110
    +ℤ pos (2 * (A * G)) *ℤ o.b101
    +ℤ pos (B * B) *ℤ o.b020
    +ℤ pos (2 * (B * G)) *ℤ o.b011
    +ℤ pos (G * G) *ℤ o.b002

-- an average lies between the least and the greatest of its three points, times 1,024 (`average_between`)
abbrev pub Between : ℤ → ℤ → ℤ → Type 0
Between m n x = (m ≤ℤ x) × (x ≤ℤ n)

abbrev pub AverageBetween : Type 0
AverageBetween =
    (A B G : ℕ) (m n x y z : ℤ) → A + B + G ≡ 1024 → Between m n x → Between m n y → Between m n z →
    Between (pos 1024 *ℤ m) (pos 1024 *ℤ n) (average A B G x y z)

-- and so the last average between those of the six points, times 1,024² (`last_between`)
abbrev pub LastBetween : Type 0
LastBetween =
    (A B G : ℕ) (m n : ℤ) (o : Ordinates) → A + B + G ≡ 1024 →
    Between m n o.b200 → Between m n o.b110 → Between m n o.b101 →
    Between m n o.b020 → Between m n o.b011 → Between m n o.b002 →
    Between (pos (1024 * 1024) *ℤ m) (pos (1024 * 1024) *ℤ n) (last_average A B G o)

-- the fixed factors: where all nine values are x, each of the first three averages is 36·1024 times x, and the last
-- 36·1024² times x (`averages_factor`)
abbrev pub AveragesFactor : Type 0
AveragesFactor =
    (A B G : ℕ) (ahead : Bool) (x : ℤ) → A + B + G ≡ 1024 →
    (let c : Corner = record { k = x; n = x; m = x } in
    let o = ordinates ahead c c c in
    (first_average A B G o ≡ pos (36 * 1024) *ℤ x)
    × (second_average A B G o ≡ pos (36 * 1024) *ℤ x)
    × (third_average A B G o ≡ pos (36 * 1024) *ℤ x)
    × (last_average A B G o ≡ pos (36 * (1024 * 1024)) *ℤ x))

-- worked case: 5 and 9 lie between 5 and 9; 4 and 10 do not
between_ends : Between (pos 5) (pos 9) (pos 5) × Between (pos 5) (pos 9) (pos 9)
between_ends = ((le_z_yes tt, le_z_yes tt), (le_z_yes tt, le_z_yes tt))

not_between : (Between (pos 5) (pos 9) (pos 4) → ⊥) × (Between (pos 5) (pos 9) (pos 10) → ⊥)
not_between = ((λ b. b.0.le), (λ b. b.1.le))

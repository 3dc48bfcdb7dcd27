-- Document 02 b: de Casteljau's steps. Source document 000, theorem 2.2, formula 2.15: from b^0 = b, step r makes
-- b^r(λ1, λ2, λ3) = τ1·b^(r-1)(λ1+1, λ2, λ3) + τ2·b^(r-1)(λ1, λ2+1, λ3)
-- + τ3·b^(r-1)(λ1, λ2, λ3+1), and b^2(0, 0, 0)
-- is the point. Here τ = (A, B, G) / 1024.
use Rattle.std.specs.Prelude.{◌≡◌, refl, ℕ, ℤ, pos, ◌+ℤ◌, ◌*ℤ◌}
use Rattle.de_casteljau.specs.declared.points.Ordinates.{Ordinates}

-- A, B and G times three points, summed: 1,024 times their average
abbrev pub average : ℕ → ℕ → ℕ → ℤ → ℤ → ℤ → ℤ
average A B G x y z = pos A *ℤ x +ℤ pos B *ℤ y +ℤ pos G *ℤ z

-- b^1(1, 0, 0), b^1(0, 1, 0) and b^1(0, 0, 1), each times 36·1024
abbrev pub first_average : ℕ → ℕ → ℕ → Ordinates → ℤ
first_average A B G o = average A B G o.b200 o.b110 o.b101

abbrev pub second_average : ℕ → ℕ → ℕ → Ordinates → ℤ
second_average A B G o = average A B G o.b110 o.b020 o.b011

abbrev pub third_average : ℕ → ℕ → ℕ → Ordinates → ℤ
third_average A B G o = average A B G o.b101 o.b011 o.b002

-- b^2(0, 0, 0), times 36·1024²
abbrev pub last_average : ℕ → ℕ → ℕ → Ordinates → ℤ
last_average A B G o = average A B G (first_average A B G o) (second_average A B G o) (third_average A B G o)

-- worked case: the six points of `points_of_values` in `Ordinates`, with A, B, G = 100, 96, 828; the point is
-- 416177088/37748736, about 11.02
abbrev points : Ordinates
points = record { b200 = pos 456; b110 = pos 300; b101 = pos 204; b020 = pos 357; b011 = pos 336; b002 = pos 460 }

four_averages :
    (first_average 100 96 828 points ≡ pos 243312)
    × (second_average 100 96 828 points ≡ pos 342480)
    × (third_average 100 96 828 points ≡ pos 433536)
    × (last_average 100 96 828 points ≡ pos 416177088)
four_averages = (refl, refl, refl, refl)

-- When a row of weights over 12 may be taken in lower terms: each weight over f, and 2·half in the place of 12.
use Rattle.std.specs.Prelude.{◌≡◌, refl, true, List, map, ℕ, ◌*◌, ◌/◌, eqb, ℤ, pos}
use Rattle.subdivision.specs.WeightTable.{every, good_row, row6}

-- the weights of a row over f
abbrev pub reduced_row : ℕ → List ℕ → List ℤ
reduced_row f row = map (λ n. pos (n / f)) row

-- a row that passes, all of whose weights are multiples of f, where f times 2·half is 12
pub record Reducible (row : List ℕ) (f half : ℕ) : Type 0 where
  pub good : good_row row ≡ true
  pub whole : every (λ n. eqb (f * (n / f)) n) row ≡ true
  pub over : f * (2 * half) ≡ 12

-- worked cases: a kept row over 6 and an edge row over 4
kept_over_six : Reducible (row6 8 2 2 0 0 0) 2 3
kept_over_six = record { good = refl; whole = refl; over = refl }

edge_over_four : Reducible (row6 6 3 0 0 3 0) 3 2
edge_over_four = record { good = refl; whole = refl; over = refl }

edge_reduced : reduced_row 3 (row6 6 3 0 0 3 0) ≡ map pos (row6 2 1 0 0 1 0)
edge_reduced = refl

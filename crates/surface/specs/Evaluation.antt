-- What the inner functions of the evaluation hand on to each other. No public contract cites these.
use Rattle.std.specs.Prelude.{◌≡◌, Bool, List, [], ℕ, ◌+◌, ◌<◌, ℤ, get_or}
use Rattle.exact.specs.Rounding.{rounded}
use Rattle.exact.specs.WeightedSum.{Within}
use Rattle.net.specs.Net.{one, two, three, entry}
use Rattle.triangles.specs.Corners.{values_in}
use Rattle.de_casteljau.specs.declared.points.Corner.{Corner}
use Rattle.de_casteljau.specs.Ordinates.{ordinates}
use Rattle.de_casteljau.specs.Averages.{last_average}

-- the values in coordinate x of a corner's control points ck, cn, cm
abbrev pub corner_values : List (List ℤ) → ℕ → Corner
corner_values c x = record { k = entry c one x; n = entry c two x; m = entry c three x }

-- the value in coordinate x of the control triangles of P, Q and T, each in the order ck, cn, cm: the last average,
-- rounded once
abbrev pub evaluated : Bool → ℕ → ℕ → ℕ → List (List (List ℤ)) → ℕ → ℤ
evaluated ahead A B G c x =
    rounded
    (last_average A B G
    (ordinates ahead (corner_values (get_or c 0 []) x) (corner_values (get_or c 1 []) x) (corner_values (get_or c 2 []) x)))
    37748736

-- the precondition of the evaluation, on gaps and control values
pub record Evaluable (A B G : ℕ) (c : List (List (List ℤ))) : Type 0 where
  pub gaps : A + B + G ≡ 1024
  pub within : (x : ℕ) → x < 3 → Within 16777216 (values_in c x)

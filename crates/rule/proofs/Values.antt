-- The six values of a refined number in one coordinate: their size, and the number that a call makes of them.
use mathlib.Core.Path.{◌≡◌, ap, ◌∙◌}
use mathlib.Core.List.{List, map}
use Prim.Native.Nat.{ℕ, ◌<◌, ◌^◌}
use lib.IntN.{ℤ, pos}
use lib.Signed.{mag}
use mir.Syntax.{w32}
use mir.Val.{to_z, of_z}
use Rattle.exact.specs.Rounding.{rounded}
use Rattle.exact.specs.WeightedSum.{weighted_sum, Within}
use Rattle.exact.proofs.SignedCode.{reads_as}
use Rattle.net.specs.Net.{one, two, three, entry}
use Rattle.net.specs.Refusals.{ControlsWithin}
use Rattle.subdivision.specs.WeightTable.{six}

-- the values of control triangles within n are
pub six_within : (n : ℕ) (a b : List (List ℤ)) → ControlsWithin n a → ControlsWithin n b → (x : ℕ) → x < 3 →
    Within n (six (λ k. entry a k x) (λ k. entry b k x))
six_within n a b g h x c = (g one x c, (g two x c, (g three x c, (h one x c, (h two x c, (h three x c, tt))))))

-- what a call gave, read back, of the values that a call of `values_at` gave
pub number : (r : ℤ) (row : List ℕ) {vs us : List ℤ} → mag r < 2 ^ 31 →
    r ≡ rounded (weighted_sum (map pos row) vs) 12 → vs ≡ us →
    to_z w32 (of_z w32 r) ≡ rounded (weighted_sum (map pos row) us) 12
number r row g e f = reads_as w32 r g (e ∙ ap (λ (ws : List ℤ). rounded (weighted_sum (map pos row) ws) 12) f)

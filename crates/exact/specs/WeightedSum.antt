-- Weighted sums. Each formula of document 01 is a sum of whole weights times integers over a whole divisor.
-- Contracts cite `weighted_sum`; proofs use its laws (`proofs/WeightedSumLaws.antt`).
use Rattle.std.specs.Prelude.{◌≡◌, refl, List, [], ◌∷◌, ℕ, ◌+◌, ◌^◌, ◌≤◌, ℤ, pos, negsuc, ◌+ℤ◌, ◌*ℤ◌, nat_abs}
use Rattle.std.proofs.Common.{lit≤}

-- weights times values, term by term, added up. Where one list is longer, the rest of it does not count.
unfoldable pub weighted_sum : List ℤ → List ℤ → ℤ
weighted_sum [] vs = pos 0
weighted_sum (w ∷ ws) [] = pos 0
weighted_sum (w ∷ ws) (v ∷ vs) = w *ℤ v +ℤ weighted_sum ws vs

-- the sum of the weights
unfoldable pub total : List ℤ → ℤ
total [] = pos 0
total (w ∷ ws) = w +ℤ total ws

-- the sizes of the numbers, added up
abbrev pub sizes : List ℤ → ℕ
sizes [] = 0
sizes (z ∷ zs) = nat_abs z + sizes zs

-- each number of the list is at most n in size
abbrev pub Within : ℕ → List ℤ → Type 0
Within n [] = Unit {0}
Within n (z ∷ zs) = (nat_abs z ≤ n) × Within n zs

-- r is the weighted sum; with its size, so that the rounding of a quotient takes it as it is
pub record Summed (ws vs : List ℤ) (r : ℤ) : Type 0 where
  pub sum : r ≡ weighted_sum ws vs
  pub size : nat_abs r ≤ 2 ^ 61

-- worked cases: 4·100 - 1·7 + 2·(-3) = 387; 4, -1 and 2 are at most 4 in size, and 4 + 1 + 2 = 7; 4 - 1 + 2 = 5
three_terms : weighted_sum (pos 4 ∷ negsuc 0 ∷ pos 2 ∷ []) (pos 100 ∷ pos 7 ∷ negsuc 2 ∷ []) ≡ pos 387
unfolding weighted_sum
three_terms = refl

three_sizes : sizes (pos 4 ∷ negsuc 0 ∷ pos 2 ∷ []) ≡ 7
three_sizes = refl

three_within : Within 4 (pos 4 ∷ negsuc 0 ∷ pos 2 ∷ [])
three_within = (lit≤ tt, (lit≤ tt, (lit≤ tt, tt)))

three_weights : total (pos 4 ∷ negsuc 0 ∷ pos 2 ∷ []) ≡ pos 5
unfolding total
three_weights = refl

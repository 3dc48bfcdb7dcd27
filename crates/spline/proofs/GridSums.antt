-- Sums over the columns and rows of a grid, of a function that is 0 but in one cell.
use mathlib.Core.Path.{◌≡◌, refl, ap, ◌∙◌}
use mathlib.Core.Logic.{◌⊎◌, inl, inr}
use Prim.Native.Nat.{ℕ, zero, suc, ◌+◌, ◌≤◌, ◌<◌}
use native.Mathlib.Decide.{dec_le}
use native.Mathlib.Numerals.{add-one}
use native.Mathlib.Omega.{arith}
use lib.IntN.{ℤ, pos, ◌+ℤ◌, +ℤ_idl, +ℤ_idr}

-- f 0 + f 1 + .. + f (n - 1)
abbrev pub sum_to : ℕ → (ℕ → ℤ) → ℤ
sum_to zero f = pos 0
sum_to (suc n) f = sum_to n f +ℤ f n

-- not m and not m + 1
abbrev pub Away : ℕ → ℕ → Type 0
Away m i = (i < m) ⊎ (m + 1 < i)

sum_none : (f : ℕ → ℤ) (n : ℕ) → ((i : ℕ) → i < n → f i ≡ pos 0) → sum_to n f ≡ pos 0
sum_none f zero h = refl
sum_none f (suc n) h = λ t. sum_none f n (λ i l. h i (omega (arith, l))) t +ℤ h n (omega arith) t

sum_two : (f : ℕ → ℤ) (n m : ℕ) → m + 1 < n → ((i : ℕ) → Away m i → f i ≡ pos 0) → sum_to n f ≡ f m +ℤ f (m + 1)
sum_two f zero m h z = absurd (omega (arith, h))
sum_two f (suc n) m h z = go (dec_le (m + 2) n) (sum_two f n m)
  where
    begun : sum_to (m + 1) f ≡ f m
    begun =
        ap (λ (i : ℕ). sum_to i f) (add-one m)
        ∙ ap (λ (s : ℤ). s +ℤ f m) (sum_none f m (λ i l. z i (inl l)))
        ∙ +ℤ_idl (f m)

    go : Dec (m + 2 ≤ n) → (m + 1 < n → ((i : ℕ) → Away m i → f i ≡ pos 0) → sum_to n f ≡ f m +ℤ f (m + 1)) →
        sum_to n f +ℤ f n ≡ f m +ℤ f (m + 1)
    go (yes l) before =
        (λ t. before (omega (arith, l)) z t +ℤ z n (inr (omega (arith, l))) t) ∙ +ℤ_idr (f m +ℤ f (m + 1))
    go (no l) before =
        let last : n ≡ m + 1 = omega (arith, l, h) in
        (λ t. sum_to (last t) f +ℤ f (last t)) ∙ ap (λ (s : ℤ). s +ℤ f (m + 1)) begun

-- over a grid of w columns and h rows, of a function that is 0 away from the columns i and i + 1 and the rows j and j +
-- 1
abbrev pub grid_sum : ℕ → ℕ → (ℕ → ℕ → ℤ) → ℤ
grid_sum w h f = sum_to h (λ j. sum_to w (λ i. f i j))

pub sum_cell : (w h : ℕ) (f : ℕ → ℕ → ℤ) (i j : ℕ) → i + 1 < w → j + 1 < h →
    ((u v : ℕ) → Away i u → f u v ≡ pos 0) → ((u v : ℕ) → Away j v → f u v ≡ pos 0) →
    grid_sum w h f ≡ (f i j +ℤ f (i + 1) j) +ℤ (f i (j + 1) +ℤ f (i + 1) (j + 1))
sum_cell w h f i j a b columns rows =
    sum_two (λ v. sum_to w (λ u. f u v)) h j b (λ v away. sum_none (λ u. f u v) w (λ u l. rows u v away))
    ∙ (λ t. row j t +ℤ row (j + 1) t)
  where
    row : (v : ℕ) → sum_to w (λ u. f u v) ≡ f i v +ℤ f (i + 1) v
    row v = sum_two (λ u. f u v) w i a (λ u away. columns u v away)

-- Lists that are written front to back. Contracts say with `over` what a lent output holds afterwards.
-- Proofs use the laws of `proofs/FillingLaws.antt`.
use Rattle.std.specs.Prelude.{◌≡◌, refl, List, [], ◌∷◌, ◌++◌, ℕ, zero, suc, length, drop, get_or}
use Rattle.std.proofs.Common.{ap, arith}

module _ {ℓ} {A : Type ℓ} where
  -- the result laid over the front of what stood there: nothing after the result changes
  unfoldable pub over : List A → List A → List A
  over result old = result ++ drop (length result) old

  -- the runs f 0, f 1, .., f (n - 1), one after the other
  unfoldable pub runs : ℕ → (ℕ → List A) → List A
  runs zero f = []
  runs (suc n) f = runs n f ++ f n

-- 'the rest unchanged': a slice that has changed in its first n elements alone
abbrev pub UnchangedFrom : {A : Type 0} → ℕ → List A → List A → Type 0
UnchangedFrom n before after = (length after ≡ length before) × (drop n after ≡ drop n before)

-- worked cases
two_of_four : over {A = ℕ} (7 ∷ 8 ∷ []) (1 ∷ 2 ∷ 3 ∷ 4 ∷ []) ≡ 7 ∷ 8 ∷ 3 ∷ 4 ∷ []
unfolding over
two_of_four = refl

three_pairs : runs {A = ℕ} 3 (λ n. n ∷ 9 ∷ []) ≡ 0 ∷ 9 ∷ 1 ∷ 9 ∷ 2 ∷ 9 ∷ []
unfolding runs
three_pairs = refl

-- of five numbers the first two have changed, and so not the first alone; and a slice stays as long as it was
unchanged_from : UnchangedFrom {A = ℕ} 2 (1 ∷ 2 ∷ 3 ∷ 4 ∷ 5 ∷ []) (9 ∷ 9 ∷ 3 ∷ 4 ∷ 5 ∷ [])
unchanged_from = (refl, refl)

changed_further : UnchangedFrom {A = ℕ} 1 (1 ∷ 2 ∷ []) (9 ∷ 8 ∷ []) → ⊥
changed_further e = omega (arith, ap (λ (l : List ℕ). get_or l 0 0) e.1)

shortened : UnchangedFrom {A = ℕ} 2 (1 ∷ 2 ∷ []) (1 ∷ []) → ⊥
shortened e = omega (arith, e.0)

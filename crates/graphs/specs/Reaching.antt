-- Whether the numbers below n for which `inside` holds are connected by edges, computed: n rounds of reaching from the
-- first of them.
use Rattle.std.specs.Prelude.{◌≡◌, refl, Bool, true, false, ◌&&◌, ◌||◌, not, List, [], ◌∷◌, ℕ, zero, suc, eqb, get_or}
use Rattle.exact.specs.Filling.{runs}

-- whether f holds of a number below n
abbrev pub any_below : ℕ → (ℕ → Bool) → Bool
any_below zero f = false
any_below (suc n) f = any_below n f || f n

-- one truth value a number
abbrev pub marked : List Bool → ℕ → Bool
marked marks t = get_or marks t false

abbrev pub marks_of : ℕ → (ℕ → Bool) → List Bool
marks_of n f = runs n (λ t. f t ∷ [])

-- before the first round the first number inside is reached
abbrev pub is_first : (ℕ → Bool) → ℕ → Bool
is_first inside t = inside t && not (any_below t inside)

-- one round: what was reached, and what an edge joins to it
abbrev pub next_reached : ℕ → (ℕ → ℕ → Bool) → List Bool → ℕ → Bool
next_reached n edge marks t = marked marks t || any_below n (λ u. marked marks u && edge u t)

-- what is reached from the first after so many rounds
unfoldable pub reached : ℕ → (ℕ → Bool) → (ℕ → ℕ → Bool) → ℕ → List Bool
reached n inside edge zero = marks_of n (is_first inside)
reached n inside edge (suc rounds) = marks_of n (next_reached n edge (reached n inside edge rounds))

-- there is one, and after n rounds none is unreached (`reaching_judged` in proofs/Reaching.antt)
unfoldable pub all_reached : ℕ → (ℕ → Bool) → (ℕ → ℕ → Bool) → Bool
all_reached n inside edge =
    any_below n inside && not (any_below n (λ t. inside t && not (marked (reached n inside edge n) t)))

-- worked cases: of the numbers below 4 joined to their neighbours, all; all but 1; none; 2 and 3; what is reached after
-- one round, of all, and of 2 and 3 where edges lead up alone; and a number that has no mark
abbrev line : ℕ → ℕ → Bool
line a b = eqb (suc a) b || eqb (suc b) a

abbrev within : (ℕ → Bool) → ℕ → ℕ → Bool
within inside a b = inside a && inside b && line a b

abbrev but_one : ℕ → Bool
but_one t = not (eqb t 1)

abbrev from_two : ℕ → Bool
from_two t = eqb t 2 || eqb t 3

cases :
    (all_reached 4 (λ t. true) (within (λ t. true)) ≡ true)
    × (all_reached 4 but_one (within but_one) ≡ false)
    × (all_reached 4 (λ t. false) (within (λ t. false)) ≡ false)
    × (all_reached 4 from_two (within from_two) ≡ true)
    × (reached 4 (λ t. true) (within (λ t. true)) 1 ≡ true ∷ true ∷ false ∷ false ∷ [])
    × (reached 4 from_two (λ a b. eqb (suc a) b) 1 ≡ false ∷ false ∷ true ∷ true ∷ [])
    × (marked (true ∷ []) 1 ≡ false)
unfolding reached all_reached runs
cases = (refl, refl, refl, refl, refl, refl, refl)

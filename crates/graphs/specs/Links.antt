-- Links between numbers, with which the search keeps what is joined: each leads to a smaller number or to itself, and a
-- root to itself. No public contract cites these.
use Rattle.std.specs.Prelude.{◌≡◌, refl, Bool, true, false, List, [], ◌∷◌, ℕ, zero, suc, ◌+◌, ◌≤◌, ◌<◌, min, max, ltb, length, get_or, set}
use Rattle.std.proofs.Common.{lit<}
use Rattle.graphs.specs.Walks.{Walk}

abbrev pub link : List ℕ → ℕ → ℕ
link l t = get_or l t 0

abbrev pub Linked : List ℕ → Type 0
Linked l = (t : ℕ) → t < length l → link l t ≤ t

-- r is where the links from t end
pub data Root (l : List ℕ) : ℕ → ℕ → Type 0 where
  here : (t : ℕ) → link l t ≡ t → Root l t t
  further : (t r : ℕ) → link l t < t → Root l (link l t) r → Root l t r

-- the two roots become one: the greater links to the smaller
pub record JoinedAt (before after : List ℕ) (a b : ℕ) : Type 0 where
  pub first : ℕ
  pub second : ℕ
  pub first_root : Root before a first
  pub second_root : Root before b second
  pub stored : after ≡ set before (max first second) (min first second)

-- joined where a test holds, else as before
abbrev pub JoinedIf : Bool → List ℕ → List ℕ → ℕ → ℕ → Type 0
JoinedIf true before after a b = JoinedAt before after a b
JoinedIf false before after a b = after ≡ before

-- links that go down, each along a walk
pub record Held (Edge : ℕ → ℕ → Type 0) (l : List ℕ) : Type 0 where
  pub linked : Linked l
  pub along : (t : ℕ) → t < length l → Walk Edge t (link l t)

-- two numbers with one root, and links under which what had one root before still has
abbrev pub SameRoot : List ℕ → ℕ → ℕ → Type 0
SameRoot l a b = (r s : ℕ) → Root l a r → Root l b s → r ≡ s

abbrev pub Keeps : List ℕ → List ℕ → Type 0
Keeps before after =
    (length after ≡ length before)
    × ((a b : ℕ) → a < length before → b < length before → SameRoot before a b → SameRoot after a b)

-- links with more joined: walks lead along them, and what had one root still has
pub record Grown (Edge : ℕ → ℕ → Type 0) (before after : List ℕ) : Type 0 where
  pub held : Held Edge after
  pub keeps : Keeps before after

-- so many of the numbers below n
abbrev pub bit : Bool → ℕ
bit true = 1
bit false = 0

unfoldable pub count_below : ℕ → (ℕ → Bool) → ℕ
count_below zero f = 0
count_below (suc n) f = count_below n f + bit (f n)

-- worked cases: the links 0, 0, 1 lead from 2 to 0; in the links 0, 1, 0, 3 joining 3 and 2 changes the last, and
-- nothing changes where they are not joined; of the numbers below 5 two are above 2
root_of_two : Root (0 ∷ 0 ∷ 1 ∷ []) 2 0
root_of_two = further 2 0 (lit< tt) (further 1 0 (lit< tt) (here 0 refl))

joined_or_not :
    JoinedIf true (0 ∷ 1 ∷ 0 ∷ 3 ∷ []) (0 ∷ 1 ∷ 0 ∷ 0 ∷ []) 3 2
    × JoinedIf false (0 ∷ 1 ∷ 0 ∷ 3 ∷ []) (0 ∷ 1 ∷ 0 ∷ 3 ∷ []) 3 2
joined_or_not = (
  record {
    first = 3;
    second = 0;
    first_root = here 3 refl;
    second_root = further 2 0 (lit< tt) (here 0 refl);
    stored = refl;
  },
  refl,
)

two_above_two : count_below 5 (λ t. ltb 2 t) ≡ 2
unfolding count_below
two_above_two = refl

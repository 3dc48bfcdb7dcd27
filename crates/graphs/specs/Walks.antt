-- Walks along edges, connected sets, and what it means that a truth value tells whether something holds.
use Rattle.std.specs.Prelude.{◌≡◌, Bool, true, false, ◌⊎◌}

-- a walk from t: each step goes along an edge, in either direction
pub data Walk {A : Type 0} (Edge : A → A → Type 0) (t : A) : A → Type 0 where
  start : Walk Edge t t
  step : (u v : A) → Walk Edge t u → Edge u v ⊎ Edge v u → Walk Edge t v

-- what is in a set is connected: there is something in it, and from each a walk leads to each
abbrev pub ConnectedBy : {A : Type 0} → (A → Type 0) → (A → A → Type 0) → Type 0
ConnectedBy {A} In Edge = ((t : A) × In t) × ((t u : A) → In t → In u → Walk Edge t u)

-- b is true exactly where it holds, so b is determined (`judged_once` in proofs/WalkLaws.antt)
pub record Judged (holds : Type 0) (b : Bool) : Type 0 where
  pub told : b ≡ true → holds
  pub denied : b ≡ false → holds → ⊥

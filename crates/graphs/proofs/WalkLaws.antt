-- Walks join, turn round, are mapped and stay in a set; and a truth value that tells whether something holds is
-- determined.
use mathlib.Core.Path.{◌≡◌, refl}
use mathlib.Core.Bool.{Bool, true, false}
use mathlib.Core.Logic.{inl, inr, ⊎_elim}
use Rattle.graphs.specs.Walks.{Walk, start, step, Judged}

module _ {A : Type 0} {Edge : A → A → Type 0} where
  pub walk_on : {t u v : A} → Walk Edge t u → Walk Edge u v → Walk Edge t v
  walk_on w start = w
  walk_on w (step u v x e) = step u v (walk_on w x) e

  pub walk_back : {t u : A} → Walk Edge t u → Walk Edge u t
  walk_back start = start
  walk_back (step u v x e) = walk_on (step v u start (⊎_elim inr inl e)) (walk_back x)

  -- a walk along one edge
  pub along_edge : {t u : A} → Edge t u → Walk Edge t u
  along_edge {t} {u} e = step t u start (inl e)

  -- a walk that leaves a set ends in it, where both ends of each edge are in it
  pub walk_stays : {In : A → Type 0} → ((u v : A) → Edge u v → In u × In v) → {t u : A} → Walk Edge t u → In t → In u
  walk_stays ends start i = i
  walk_stays {In} ends (step u v x e) i =
      ⊎_elim {C = In v} (λ (a : Edge u v). (ends u v a).1) (λ (a : Edge v u). (ends v u a).0) e

-- a map under which each edge becomes a walk makes a walk of each walk, and so does one that keeps edges
module _ {A B : Type 0} {Edge : A → A → Type 0} {Edge' : B → B → Type 0} (f : A → B) where
  pub walk_along : ((u v : A) → Edge u v → Walk Edge' (f u) (f v)) → {t u : A} → Walk Edge t u → Walk Edge' (f t) (f u)
  walk_along g start = start
  walk_along g (step u v x e) =
      walk_on (walk_along g x) (⊎_elim (λ (a : Edge u v). g u v a) (λ (a : Edge v u). walk_back (g v u a)) e)

  pub walk_map : ((u v : A) → Edge u v → Edge' (f u) (f v)) → {t u : A} → Walk Edge t u → Walk Edge' (f t) (f u)
  walk_map g = walk_along (λ u v e. along_edge (g u v e))

pub judged_once : {H : Type 0} {a b : Bool} → Judged H a → Judged H b → a ≡ b
judged_once {a = true} {b = true} j k = refl
judged_once {a = true} {b = false} j k = absurd (k.denied refl (j.told refl))
judged_once {a = false} {b = true} j k = absurd (j.denied refl (k.told refl))
judged_once {a = false} {b = false} j k = refl

-- the truth value where it holds, and where it does not
pub judged_yes : {H : Type 0} {b : Bool} → Judged H b → H → b ≡ true
judged_yes {b = true} j k = refl
judged_yes {b = false} j k = absurd (j.denied refl k)

pub judged_no : {H : Type 0} {b : Bool} → Judged H b → (H → ⊥) → b ≡ false
judged_no {b = true} j k = absurd (k (j.told refl))
judged_no {b = false} j k = refl

-- what holds exactly where something else does is told by the same truth value
pub judged_for : {H K : Type 0} {b : Bool} → (H → K) → (K → H) → Judged H b → Judged K b
judged_for f g j = record { told = λ e. f (j.told e); denied = λ e k. j.denied e (g k) }

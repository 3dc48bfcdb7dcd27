-- What the search is known to be after a call: unchanged where a fault before 14 is there, else free in its first
-- numbers.
use mathlib.Core.Path.{◌≡◌, refl, subst}
use mathlib.Core.List.{List}
use Prim.Native.Nat.{ℕ}
use Rattle.exact.specs.Filling.{UnchangedFrom}
use Rattle.net.specs.Refusals.{Fault, first_fault}
use Rattle.net.proofs.Faults.{when_accepted}
use Rattle.outline.specs.Outline.{triangles}
use Rattle.outline.specs.Refusals.{free_search}

module _ (before : List Fault) (w h : ℕ) (search : List ℕ) where
  pub search_kept : UnchangedFrom (free_search before w h) search search
  search_kept = (refl, refl)

  pub search_free_lem : first_fault before ≡ 0 → (after : List ℕ) → UnchangedFrom (triangles w h) search after →
      UnchangedFrom (free_search before w h) search after
  search_free_lem none after u =
      subst (λ (n : ℕ). UnchangedFrom n search after) (when_accepted (first_fault before) (triangles w h) 0 none) u

-- What the functions that store text say of it. `sets l at vs` (the kit's, `lib.Seq`) is l with vs stored from `at` on.
use Rattle.std.specs.Prelude.{◌≡◌, refl, List, [], ◌∷◌, ℕ, ◌+◌, length}
use Rattle.std.proofs.lemmas.List.Edits.{sets}

-- a text stored in `old` from a place on, and the place after it
pub record Stored (old : List ℕ) (at : ℕ) (text new : List ℕ) (after : ℕ) : Type 0 where
  pub contents : new ≡ sets old at text
  pub place : after ≡ at + length text

-- worked case: 7, 8 at place 1 of four
seven_eight : Stored (1 ∷ 2 ∷ 3 ∷ 4 ∷ []) 1 (7 ∷ 8 ∷ []) (1 ∷ 7 ∷ 8 ∷ 4 ∷ []) 3
seven_eight = record { contents = refl; place = refl }

-- Outlines, of the definitions: the statements, each with the name of its proof.
use Rattle.std.specs.Prelude.{◌≡◌, refl, Bool, true, false, not, List, [], ◌∷◌, ◌⊎◌, ℕ, zero, suc, ◌<◌, ◌≤◌, get_or}
use Rattle.std.proofs.Common.{ap, arith, lit<}
use Rattle.net.specs.Net.{Index, one, two, three, rank, Triangle, triangle_at, corner}
use Rattle.graphs.specs.Walks.{Judged}
use Rattle.outline.specs.Outline.{triangles}
use Rattle.outline.specs.Connected.{Adjacent, Connected, connected}
use Rattle.outline.specs.Refusals.{short_outline, disconnected}

-- two corners of t that are corners of u
pub record CommonCorners (t u : Triangle) : Type 0 where
  pub first : Index
  pub second : Index
  pub different : first ≡ second → ⊥
  pub first_other : Index
  pub second_other : Index
  pub first_common : corner t first ≡ corner u first_other
  pub second_common : corner t second ≡ corner u second_other

-- 'edge to edge': triangles are adjacent exactly when they are two and have two corners in common (`shares_edge`)
abbrev pub SharesEdge : Type 0
SharesEdge =
    (t u : Triangle) →
    ((t ≡ u → ⊥) → CommonCorners t u → Adjacent t u ⊎ Adjacent u t)
    × (Adjacent t u ⊎ Adjacent u t → (t ≡ u → ⊥) × CommonCorners t u)

-- what is computed tells whether the present triangles are connected (`connected_judged`), and so whether they are
-- determines row 14 (`disconnected_determined`)
abbrev pub ConnectedJudged : Type 0
ConnectedJudged = (outline : List ℕ) (w h : ℕ) → Judged (Connected outline w h) (connected outline w h)

abbrev pub DisconnectedDetermined : Type 0
DisconnectedDetermined =
    (outline : List ℕ) (w h : ℕ) (b : Bool) → Judged (Connected outline w h) b →
    disconnected outline w h ≡ not b

-- an outline that is long enough and whose triangles are all present
pub record Full (outline : List ℕ) (w h : ℕ) : Type 0 where
  pub long : short_outline outline w h ≡ false
  pub ones : (n : ℕ) → n < triangles w h → get_or outline n 0 ≡ 1

-- where all triangles are present they are connected (`full_connected`)
abbrev pub FullConnected : Type 0
FullConnected =
    (outline : List ℕ) (w h : ℕ) → 2 ≤ w → 2 ≤ h → ((n : ℕ) → n < triangles w h → get_or outline n 0 ≡ 1) →
    Connected outline w h

-- worked case: corners 2 and 3 of the down triangle of cell (3, 5) are corners 1 and 2 of the up triangle above it
corners : CommonCorners (triangle_at 3 5 true) (triangle_at 3 6 false)
corners =
    record {
      first = two;
      second = three;
      different = λ e. omega (arith, ap rank e);
      first_other = one;
      second_other = two;
      first_common = refl;
      second_common = refl;
    }

-- worked cases: of 3 by 2, all four bytes 1 and one byte more; one triangle missing; a byte too few
abbrev all_ones : List ℕ
all_ones = 1 ∷ 1 ∷ 1 ∷ 1 ∷ 0 ∷ []

full_strip : Full all_ones 3 2
full_strip = record { long = refl; ones = at }
  where
    at : (n : ℕ) → n < triangles 3 2 → get_or all_ones n 0 ≡ 1
    at zero k = refl
    at (suc zero) k = refl
    at (suc (suc zero)) k = refl
    at (suc (suc (suc zero))) k = refl
    at (suc (suc (suc (suc n)))) k = absurd (omega (arith, k))

not_full : (Full (1 ∷ 1 ∷ 0 ∷ 1 ∷ []) 3 2 → ⊥) × (Full (1 ∷ 1 ∷ 1 ∷ []) 3 2 → ⊥)
not_full = ((λ f. omega (arith, f.ones 2 (lit< tt))), (λ f. omega (arith, f.ones 3 (lit< tt))))

-- Rows of the refined grid, two vertices at a time.
use mathlib.Core.Path.{◌≡◌, refl, sym, ap, ◌∙◌}
use mathlib.Core.List.{List, ◌++◌, append_assoc}
use Prim.Native.Nat.{ℕ, zero, suc, ◌+◌, ◌*◌, ◌-◌, ◌≤◌, ◌<◌}
use native.Mathlib.Omega.{arith}
use lib.Dec.{ltb}
use lib.IntN.{ℤ}
use lib.ListN.{length}
use lib.Seq.{sets}
use borrow.Author.Tests.{lt-ltb, le-ltb}
use Rattle.exact.specs.Filling.{runs}
use Rattle.exact.proofs.FillingLaws.{runs_suc, sets_after}
use Rattle.net.specs.Net.{vertex_at, stride}
use Rattle.net.proofs.Faults.{cond_true, cond_false}
use Rattle.steps.specs.RefinedNet.{Fields, vertex_run, row_run, refined_fields, refined_controls}
use Rattle.steps.specs.Steps.{three_points, pair_run}
use Rattle.steps.proofs.RefinedVertices.{stored_controls}

module _ (F : Fields) (w j : ℕ) where
  abbrev vertex_on : ℕ → List ℤ
  vertex_on i = vertex_run F (vertex_at i j)

  -- a pair, and the last column
  two_of_lem : (m : ℕ) → m + 1 < w → vertex_on (2 * m) ++ vertex_on (2 * m + 1) ≡ pair_run F w j m
  two_of_lem m h = cond_true (ltb (m + 1) w) (vertex_on (2 * m) ++ vertex_on (2 * m + 1)) (vertex_on (2 * m)) (lt-ltb _ _ h)

  one_of : (m : ℕ) → w ≤ m + 1 → vertex_on (2 * m) ≡ pair_run F w j m
  one_of m h = cond_false (ltb (m + 1) w) (vertex_on (2 * m) ++ vertex_on (2 * m + 1)) (vertex_on (2 * m)) (le-ltb _ _ h) refl

  pub pair_length : (m : ℕ) → m + 1 < w → length (pair_run F w j m) ≡ 2 * stride
  pair_length m h = ap length (sym (two_of_lem m h))

  -- the pairs before the last column, and all of them, are the row
  pairs_before : (m : ℕ) → m < w → runs m (pair_run F w j) ≡ runs (2 * m) vertex_on
  unfolding runs
  pairs_before zero h = refl
  pairs_before (suc m) h =
      let next : 2 * suc m ≡ 2 * m + 1 + 1 = omega arith in
      (λ t. pairs_before m (omega arith) t ++ sym (two_of_lem m (omega arith)) t)
      ∙ sym (append_assoc (runs (2 * m) vertex_on) (vertex_on (2 * m)) (vertex_on (2 * m + 1)))
      ∙ ap (λ (l : List ℤ). l ++ vertex_on (2 * m + 1)) (sym (runs_suc (2 * m) vertex_on))
      ∙ sym (runs_suc (2 * m + 1) vertex_on)
      ∙ ap (λ (n : ℕ). runs n vertex_on) (sym next)

  pub pairs_row : (n : ℕ) → n + 1 ≡ w → runs (n + 1) (pair_run F w j) ≡ row_run F (2 * w - 1) j
  pairs_row n e =
      let all : 2 * n + 1 ≡ 2 * w - 1 = omega (arith, e) in
      runs_suc n (pair_run F w j)
      ∙ (λ t. pairs_before n (omega (arith, e)) t ++ sym (one_of n (omega (arith, e))) t)
      ∙ sym (runs_suc (2 * n) vertex_on)
      ∙ ap (λ (k : ℕ). runs k vertex_on) all

-- the control triangles of a pair, stored one after the other
module _ (net : List ℤ) (w j m : ℕ) (out : List ℤ) (at : ℕ) {c : List (List ℤ)}
    (e : c ≡ refined_controls net w (vertex_at (2 * m) j)) where
  pub stored_one : w ≤ m + 1 → three_points out at c ≡ sets out at (pair_run (refined_fields net w) w j m)
  stored_one h =
      stored_controls net w (vertex_at (2 * m) j) out at e
      ∙ ap (sets out at) (one_of (refined_fields net w) w j m h)

  pub stored_two : m + 1 < w → {d : List (List ℤ)} → d ≡ refined_controls net w (vertex_at (2 * m + 1) j) →
      three_points (three_points out at c) (at + stride) d ≡ sets out at (pair_run (refined_fields net w) w j m)
  stored_two h {d} f =
      let F = refined_fields net w in
      ap (λ (l : List ℤ). three_points l (at + stride) d) (stored_controls net w (vertex_at (2 * m) j) out at e)
      ∙ stored_controls net w (vertex_at (2 * m + 1) j) (sets out at (vertex_run F (vertex_at (2 * m) j))) (at + stride) f
      ∙ sets_after out at (vertex_run F (vertex_at (2 * m) j)) (vertex_run F (vertex_at (2 * m + 1) j)) refl
      ∙ ap (sets out at) (two_of_lem F w j m h)

-- Numbers beyond 9wh do not matter: refusals and refined nets are those of the net cut after its 9wh numbers.
use mathlib.Core.Path.{◌≡◌, sym, ◌∙◌}
use mathlib.Core.Bool.{Bool, true}
use mathlib.Core.List.{List, [], ◌∷◌, ◌++◌}
use Prim.Native.Nat.{ℕ}
use lib.IntN.{ℤ}
use Rattle.net.specs.Net.{vertex_at, field}
use Rattle.net.specs.Refusals.{first_fault}
use Rattle.net.proofs.Beyond.{cut, cut_short, cut_beyond, cut_field}
use Rattle.net.proofs.Places.{vertex_ends}
use Rattle.subdivision.specs.Refinement.{side_after, steps}
use Rattle.subdivision.specs.WeightTable.{Table, passes, refined_by, weights, weights_pass}
use Rattle.steps.specs.RefinedNet.{refined_net}
use Rattle.steps.proofs.StoredNets.{stored_same, steps_local, net_by, our_net}
use Rattle.refine.specs.Refusals.{net_faults, refine_refusal, size_faults}

-- by any table that passes, and by ours
pub cut_refined_by : (T : Table) → passes T ≡ true → (net : List ℤ) (w h k : ℕ) →
    net_by T net w h k ≡ net_by T (cut net w h) w h k
unfolding net_by
cut_refined_by T p net w h k =
    stored_same (λ x. steps (refined_by T) k (field net w x)) (λ x. steps (refined_by T) k (field (cut net w h) w x))
    (side_after k w) (side_after k h)
    (λ x c. steps_local T p k w h (field net w x) (field (cut net w h) w x)
    (λ i j a b l. cut_field net w h (vertex_at i j) (vertex_ends {w = w} {h = h} {i = i} {j = j} a b) l x c))

pub cut_refined : (net : List ℤ) (w h k : ℕ) → refined_net net w h k ≡ refined_net (cut net w h) w h k
cut_refined net w h k =
    sym (our_net net w h k) ∙ cut_refined_by weights weights_pass net w h k ∙ our_net (cut net w h) w h k

module _ (net : List ℤ) (w h : ℕ) (short : Bool) where
  pub cut_faults : net_faults net w h short ≡ net_faults (cut net w h) w h short
  cut_faults =
      λ t. (cut_short net w h t, 2) ∷ (short, 5) ∷ (cut_beyond net w h t, 3) ∷ []

  pub cut_refine_refusal : (k : ℕ) → refine_refusal net w h k short ≡ refine_refusal (cut net w h) w h k short
  cut_refine_refusal k = λ t. first_fault (size_faults w h k ++ cut_faults t)

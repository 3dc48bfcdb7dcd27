-- Refinement, the coarse field, details and merging of fields with a coordinate negated: each gives the result negated.
use mathlib.Core.Path.{◌≡◌, sym, ap, ◌∙◌}
use mathlib.Core.Bool.{Bool}
use mathlib.Core.List.{[], ◌∷◌}
use Prim.Native.Nat.{ℕ, zero, suc, ◌*◌}
use native.Mathlib.Omega.{arith}
use lib.Dec.{lit<}
use lib.IntN.{ℤ, pos, negsuc, ◌+ℤ◌, ◌-ℤ◌}
use Rattle.exact.specs.Rounding.{rounded, negated_if}
use Rattle.exact.specs.WeightedSum.{weighted_sum}
use Rattle.net.specs.Net.{Index, next, previous, Vertex, vertex_at, Field}
use Rattle.subdivision.specs.Refinement.{kind_of, begin_of, end_of, refinement, refinements, refined_side, side_after}
use Rattle.subdivision.specs.WeightTable.{Table, kind_number, weights_at, six, exact_by, refined_by, weights}
use Rattle.subdivision.proofs.Tables.{our_refinement}
use Rattle.steps.proofs.StoredNets.{Agree, refinement_local}
use Rattle.coarse.specs.Coarse.{coarse_side, coarse_control, coarsened}
use Rattle.coarse.proofs.CoarseLaws.{coarse_sum}
use Rattle.split.specs.Split.{detail_of}
use Rattle.merge.specs.Merge.{merged}
use Rattle.mirror.proofs.Numbers.{rounded_negated, values_negated, sum_negated, difference_negated}

-- a field, negated where the test says so
abbrev pub turned : Bool → Field → Field
turned s F v k = negated_if s (F v k)

-- ---- one refinement, by every table, and k steps of ours

pub refined_by_turned : (T : Table) (s : Bool) (F : Field) (v : Vertex) (l : Index) →
    refined_by T (turned s F) v l ≡ negated_if s (refined_by T F v l)
unfolding refined_by exact_by
refined_by_turned T s F v l =
    let row = weights_at T (kind_number (kind_of v)) l in
    let values = six (F (begin_of v)) (F (end_of v)) in
    ap (λ (z : ℤ). rounded z 12) (values_negated s row values) ∙ rounded_negated s (weighted_sum row values) 12 (lit< tt)

refinement_turned : (s : Bool) (F : Field) (v : Vertex) (l : Index) →
    refinement (turned s F) v l ≡ negated_if s (refinement F v l)
refinement_turned s F v l =
    (λ t. sym (our_refinement (turned s F)) t v l) ∙ refined_by_turned weights s F v l
    ∙ (λ t. negated_if s (our_refinement F t v l))

module _ (s : Bool) (w h : ℕ) (F G : Field) (e : Agree w h G (turned s F)) where
  pub refinement_opposite : Agree (refined_side w) (refined_side h) (refinement G) (turned s (refinement F))
  refinement_opposite i j a b l = refinement_local G (turned s F) w h e i j a b l ∙ refinement_turned s F (vertex_at i j) l

  -- the coarse field
  pub coarse_opposite : Agree (coarse_side w) (coarse_side h) (coarsened G) (turned s (coarsened F))
  unfolding coarsened
  coarse_opposite i j a b l =
      let at = vertex_at (2 * i) (2 * j) in
      let row = pos 5 ∷ negsuc 0 ∷ negsuc 0 ∷ [] in
      let values = F at l ∷ F at (next l) ∷ F at (previous l) ∷ [] in
      (λ t. rounded (coarse_control (λ k. e (2 * i) (2 * j) (omega (arith, a)) (omega (arith, b)) k t) l) 3)
      ∙ ap (λ (z : ℤ). rounded z 3)
      (sym (coarse_sum (turned s F at l) (turned s F at (next l)) (turned s F at (previous l)))
      ∙ values_negated s row values
      ∙ ap (negated_if s) (coarse_sum (F at l) (F at (next l)) (F at (previous l))))
      ∙ rounded_negated s (coarse_control (F at) l) 3 (lit< tt)

pub steps_opposite : (k : ℕ) (s : Bool) (w h : ℕ) (F G : Field) → Agree w h G (turned s F) →
    Agree (side_after k w) (side_after k h) (refinements k G) (turned s (refinements k F))
steps_opposite zero s w h F G e = e
steps_opposite (suc k) s w h F G e =
    refinement_opposite s (side_after k w) (side_after k h) (refinements k F) (refinements k G) (steps_opposite k s w h F G e)

-- ---- details and merged nets, of a field and a coarse field of which one refinement is taken

module _ (s : Bool) (w h : ℕ) (C C' : Field) (e : Agree w h C' (turned s C)) (F F' : Field) where
  pub detail_opposite : Agree (refined_side w) (refined_side h) F' (turned s F) →
      Agree (refined_side w) (refined_side h) (detail_of F' C') (turned s (detail_of F C))
  unfolding detail_of
  detail_opposite f i j a b l =
      (λ t. f i j a b l t -ℤ refinement_opposite s w h C C' e i j a b l t)
      ∙ difference_negated s (F (vertex_at i j) l) (refinement C (vertex_at i j) l)

  pub merged_opposite : Agree (refined_side w) (refined_side h) F' (turned s F) →
      Agree (refined_side w) (refined_side h) (merged C' F') (turned s (merged C F))
  unfolding merged
  merged_opposite f i j a b l =
      (λ t. refinement_opposite s w h C C' e i j a b l t +ℤ f i j a b l t)
      ∙ sum_negated s (refinement C (vertex_at i j) l) (F (vertex_at i j) l)

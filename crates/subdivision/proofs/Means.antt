-- Refined values at the corners of a triangle's children, by any table that passes the test: means of the values of the
-- triangle's own corners.
use mathlib.Core.Path.{◌≡◌, refl, sym, ap, ◌∙◌}
use mathlib.Core.Bool.{Bool, true, false, cond}
use mathlib.Core.List.{List, [], ◌∷◌}
use mathlib.Core.Logic.{◌⊎◌, inl, inr}
use Prim.Native.Nat.{ℕ, zero, suc, ◌+◌}
use native.Mathlib.Omega.{arith}
use lib.IntN.{ℤ, pos}
use lib.ListN.{get_or}
use lib.Seq.{get_or-drop}
use Rattle.exact.specs.WeightedSum.{weighted_sum}
use Rattle.exact.proofs.WeightedSumLaws.{sum_same}
use Rattle.net.specs.Net.{Index, Vertex, vertex_at, Triangle, corner, Field, is_next, same}
use Rattle.triangles.specs.BezierPoints.{index_k}
use Rattle.subdivision.specs.Refinement.{kept, along}
use Rattle.subdivision.specs.WeightTable.{Table, kind_number, weights_at, passes, six, exact_by}
use Rattle.subdivision.proofs.Tables.{kept_row}
use Rattle.subdivision.proofs.Children.{Child, child, source, kind_between, begin_between, end_between, child_corner}

module _ (T : Table) (e : passes T ≡ true) where
  -- a kept vertex's neighbour does not count
  nothing_after : (l : Index) (j : ℕ) → get_or (weights_at T 0 l) (3 + j) (pos 0) ≡ pos 0
  nothing_after l j =
      sym (get_or-drop 3 (weights_at T 0 l) j (pos 0)) ∙ ap (λ (ws : List ℤ). get_or ws j (pos 0)) (kept_row T e l) ∙ zeros j
    where
      zeros : (j : ℕ) → get_or (pos 0 ∷ pos 0 ∷ pos 0 ∷ []) j (pos 0) ≡ pos 0
      zeros zero = refl
      zeros (suc zero) = refl
      zeros (suc (suc zero)) = refl
      zeros (suc (suc (suc j))) = refl

  pub kept_alone : (l : Index) (a b b' : Index → ℤ) →
      weighted_sum (weights_at T 0 l) (six a b) ≡ weighted_sum (weights_at T 0 l) (six a b')
  kept_alone l a b b' = sum_same (weights_at T 0 l) (six a b) (six a b') refl at
    where
      at : (i : ℕ) → (get_or (weights_at T 0 l) i (pos 0) ≡ pos 0) ⊎ (get_or (six a b) i (pos 0) ≡ get_or (six a b') i (pos 0))
      at zero = inr refl
      at (suc zero) = inr refl
      at (suc (suc zero)) = inr refl
      at (suc (suc (suc j))) = inl (ap (λ (i : ℕ). get_or (weights_at T 0 l) i (pos 0)) (omega arith) ∙ nothing_after l j)

  module _ (F : Field) where
    end_counts : (b : Bool) (k : Index) (a : Index → ℤ) (v v' : Vertex) (l : Index) →
        weighted_sum (weights_at T (kind_number (cond b kept (along k))) l) (six a (F (cond b v v')))
        ≡ weighted_sum (weights_at T (kind_number (cond b kept (along k))) l) (six a (F v'))
    end_counts true k a v v' l = kept_alone l a (F v) (F v')
    end_counts false k a v v' l = refl

    -- 12 times a refined value at corner P of a child
    pub child_mean : (t : Triangle) (k : Child) (P l : Index) →
        (let X = (source k P).0 in
        let Y = (source k P).1 in
        exact_by T F (corner (child t k) P) l
        ≡ weighted_sum (weights_at T (kind_number (kind_between t.down X Y)) l)
        (six (F (corner t (begin_between X Y))) (F (corner t (end_between X Y)))))
    unfolding exact_by
    child_mean t k P l =
        let b = child_corner t k P in
        let X = (source k P).0 in
        let Y = (source k P).1 in
        (λ i. weighted_sum (weights_at T (kind_number (b.kind i)) l) (six (F (b.begins i)) (F (b.ends i))))
        ∙ end_counts (same X Y) (index_k t.down (cond (is_next X Y) X Y)) (F (corner t (begin_between X Y)))
        (vertex_at ((corner t X).column + 1) (corner t X).row) (corner t (end_between X Y)) l

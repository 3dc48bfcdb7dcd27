-- What the test of a table says of each of its rows; our table is document 01's rule; and the rule on control triangles
-- is one refinement of a stored net.
use mathlib.Core.Path.{◌≡◌, refl, sym, ◌∙◌, ap, subst}
use mathlib.Core.Bool.{Bool, true, false, cond, ◌&&◌}
use mathlib.Core.List.{List, [], ◌∷◌, map}
use Prim.Native.Nat.{ℕ, zero, suc, ◌+◌, ◌<◌}
use native.Mathlib.Omega.{arith}
use lib.Dec.{T, eqb, lit<}
use lib.IntN.{ℤ, pos, ◌+ℤ◌}
use lib.ListN.{length, get_or, drop, replicate, length-map, length-drop}
use borrow.Author.Tests.{eqb-true}
use Rattle.exact.specs.Rounding.{rounded}
use Rattle.exact.specs.WeightedSum.{weighted_sum, total}
use Rattle.exact.proofs.Parts.{integers}
use Rattle.exact.proofs.Expressions.{Expr, var, lit, ◌⊕◌, ◌⊗◌, identity}
use Rattle.exact.proofs.WeightedSumLaws.{NotNegative, sum_from}
use Rattle.exact.proofs.RoundingLaws.{nearest, rounded_scale}
use Rattle.net.specs.Net.{Index, one, two, three, next, previous, rank, Vertex, entry, field, control_triangle, same}
use Rattle.net.proofs.Places.{below_three}
use Rattle.subdivision.specs.Refinement.{Kind, kept, along, kind_of, begin_of, end_of, rule_by, exact_refinement, refinement}
use Rattle.subdivision.specs.WeightTable.{Table, kind_number, weights_at, sum, every, good_row, good_kept_row, good_kind, passes, six, exact_by, refined_by, refined_number, refined_point, refined_triangle, weights}
use Rattle.subdivision.specs.Promises.{Quotients, StepNearest, OurTable, OurRefinement}

-- ---- from the test of a table to its rows

pub both : (a b : Bool) → (a && b) ≡ true → (a ≡ true) × (b ≡ true)
both true b e = (refl, e)
both false b e = (e, absurd (subst T (sym e) tt))

every_at : {A : Type 0} (test : A → Bool) (xs : List A) (d : A) → every test xs ≡ true → (i : ℕ) → i < length xs →
    test (get_or xs i d) ≡ true
every_at test [] d e i h = absurd (omega (arith, h))
every_at test (x ∷ xs) d e zero h = (both (test x) (every test xs) e).0
every_at test (x ∷ xs) d e (suc i) h = every_at test xs d (both (test x) (every test xs) e).1 i (omega (arith, h))

-- the six weights of control l at a vertex of kind number n, as the table has them
abbrev pub row_at : Table → ℕ → Index → List ℕ
row_at t n l = get_or (get_or t n []) (rank l) []

kind_row : (test : List ℕ → Bool) (rows : List (List ℕ)) → good_kind test rows ≡ true → (l : Index) →
    test (get_or rows (rank l) []) ≡ true
kind_row test rows e l =
    let h = both (eqb (length rows) 3) (every test rows) e in
    every_at test rows [] h.1 (rank l) (omega (arith, eqb-true (length rows) 3 h.0, below_three l refl))

kept_passes : (t : Table) → passes t ≡ true → (l : Index) → good_kept_row (row_at t 0 l) ≡ true
kept_passes [] e l = absurd (subst T (sym e) tt)
kept_passes (keptRows ∷ edges) e l = kind_row good_kept_row keptRows (both (good_kind good_kept_row keptRows) _ e).0 l

-- each row passes the test of a row
pub row_passes : (t : Table) → passes t ≡ true → (n : ℕ) → n < 4 → (l : Index) → good_row (row_at t n l) ≡ true
row_passes t e zero h l = (both _ _ (kept_passes t e l)).0
row_passes [] e (suc n) h l = absurd (subst T (sym e) tt)
row_passes (keptRows ∷ edges) e (suc n) h l =
    let g =
    both (eqb (length edges) 3) (every (good_kind good_row) edges) (both (good_kind good_kept_row keptRows) _ e).1 in
    let edge = every_at (good_kind good_row) edges [] g.1 n (omega (arith, eqb-true (length edges) 3 g.0, h)) in
    kind_row good_row (get_or edges n []) edge l

-- there are four kinds
pub kind_below : (k : Kind) → kind_number k < 4
kind_below kept = lit< tt
kind_below (along one) = lit< tt
kind_below (along two) = lit< tt
kind_below (along three) = lit< tt

-- ---- what the test of a row says of its weights

pub good_length : (row : List ℕ) → good_row row ≡ true → length row ≡ 6
good_length row e = eqb-true (length row) 6 (both (eqb (length row) 6) (eqb (sum row) 12) e).0

pub good_sum : (row : List ℕ) → good_row row ≡ true → sum row ≡ 12
good_sum row e = eqb-true (sum row) 12 (both (eqb (length row) 6) (eqb (sum row) 12) e).1

pub total_sum : (row : List ℕ) → total (map pos row) ≡ pos (sum row)
unfolding total
total_sum [] = refl
total_sum (n ∷ row) = ap (λ (z : ℤ). pos n +ℤ z) (total_sum row)

pub not_negative : (row : List ℕ) → NotNegative (map pos row)
not_negative [] = tt
not_negative (n ∷ row) = (omega integers, not_negative row)

zeros : (row : List ℕ) → every (λ n. eqb n 0) row ≡ true → row ≡ replicate (length row) 0
zeros [] e = refl
zeros (n ∷ row) e =
    let h = both (eqb n 0) (every (λ m. eqb m 0) row) e in
    λ t. eqb-true n 0 h.0 t ∷ zeros row h.1 t

drop_map : (n : ℕ) (row : List ℕ) → drop n (map pos row) ≡ map pos (drop n row)
drop_map zero row = refl
drop_map (suc n) [] = refl
drop_map (suc n) (m ∷ row) = drop_map n row

-- ---- the six weights of a control, by kind number and control

pub row_length : (t : Table) → passes t ≡ true → (n : ℕ) → n < 4 → (l : Index) → length (weights_at t n l) ≡ 6
row_length t e n h l = length-map (row_at t n l) pos ∙ good_length (row_at t n l) (row_passes t e n h l)

pub row_total : (t : Table) → passes t ≡ true → (n : ℕ) → n < 4 → (l : Index) → total (weights_at t n l) ≡ pos 12
row_total t e n h l = total_sum (row_at t n l) ∙ ap pos (good_sum (row_at t n l) (row_passes t e n h l))

pub row_not_negative : (t : Table) → passes t ≡ true → (n : ℕ) → n < 4 → (l : Index) → NotNegative (weights_at t n l)
row_not_negative t e n h l = not_negative (row_at t n l)

-- the second three weights of a kept vertex are 0
pub kept_row : (t : Table) → passes t ≡ true → (l : Index) → drop 3 (weights_at t 0 l) ≡ pos 0 ∷ pos 0 ∷ pos 0 ∷ []
kept_row t e l =
    let row = row_at t 0 l in
    let long : length (drop 3 row)
    ≡ 3 = omega (arith, length-drop 3 row, good_length row (row_passes t e 0 (omega arith) l)) in
    drop_map 3 row
    ∙ ap (map pos) (zeros (drop 3 row) (both (good_row row) (every (λ m. eqb m 0) (drop 3 row)) (kept_passes t e l)).1)
    ∙ ap (λ (k : ℕ). map pos (replicate k 0)) long

-- ---- our table is document 01's rule

-- document 01's rule as an expression, in the form of `rule_by`, of whatever stands for the controls of the two ends
abbrev pub rule_e : (a b : Index → Expr) → Kind → Index → Expr
rule_e a b kept k = lit (pos 2) ⊗ (lit (pos 4) ⊗ a k ⊕ a (next k) ⊕ a (previous k))
rule_e a b (along k) l = cond (same l k) (lit (pos 6) ⊗ (b (next k) ⊕ b (previous k))) (lit (pos 3) ⊗ (lit (pos 2) ⊗ a k ⊕ a l ⊕ b l))

-- of the six values
abbrev by_rule : Kind → Index → Expr
by_rule = rule_e (λ k. var (rank k)) (λ k. var (3 + rank k))

abbrev by_table : Kind → Index → Expr
by_table n l = sum_from (weights_at weights (kind_number n) l) 0

pub our_rule : (n : Kind) (a b : Index → ℤ) (l : Index) →
    weighted_sum (weights_at weights (kind_number n) l) (six a b) ≡ rule_by n a b l
unfolding weighted_sum
our_rule kept a b one = identity (by_table kept one) (by_rule kept one) (six a b) refl
our_rule kept a b two = identity (by_table kept two) (by_rule kept two) (six a b) refl
our_rule kept a b three = identity (by_table kept three) (by_rule kept three) (six a b) refl
our_rule (along one) a b one = identity (by_table (along one) one) (by_rule (along one) one) (six a b) refl
our_rule (along one) a b two = identity (by_table (along one) two) (by_rule (along one) two) (six a b) refl
our_rule (along one) a b three = identity (by_table (along one) three) (by_rule (along one) three) (six a b) refl
our_rule (along two) a b one = identity (by_table (along two) one) (by_rule (along two) one) (six a b) refl
our_rule (along two) a b two = identity (by_table (along two) two) (by_rule (along two) two) (six a b) refl
our_rule (along two) a b three = identity (by_table (along two) three) (by_rule (along two) three) (six a b) refl
our_rule (along three) a b one = identity (by_table (along three) one) (by_rule (along three) one) (six a b) refl
our_rule (along three) a b two = identity (by_table (along three) two) (by_rule (along three) two) (six a b) refl
our_rule (along three) a b three = identity (by_table (along three) three) (by_rule (along three) three) (six a b) refl

pub our_table : OurTable
unfolding exact_by exact_refinement
our_table F = λ t v l. our_rule (kind_of v) (F (begin_of v)) (F (end_of v)) l t

pub our_refinement : OurRefinement
unfolding refined_by refinement
our_refinement F = λ t v l. rounded (our_table F t v l) 12

-- ---- each value is rounded once, and rounding over 12 is rounding of document 01's own quotients

pub step_nearest : StepNearest
unfolding refined_by
step_nearest T F v l = nearest (exact_by T F v l) 12 (lit< tt)

pub quotients : Quotients
quotients z = (
  rounded_scale 2 z 6 (lit< tt) (lit< tt),
  rounded_scale 6 z 2 (lit< tt) (lit< tt),
  rounded_scale 3 z 4 (lit< tt)
      (lit< tt),
)

-- ---- the rule on control triangles is one refinement of a stored net

module _ (t : Table) (n : ℕ) (a b : List (List ℤ)) where
  point_number : (l : Index) (x : ℕ) → x < 3 → get_or (refined_point t n a b l) x (pos 0) ≡ refined_number t n a b l x
  point_number l zero h = refl
  point_number l (suc zero) h = refl
  point_number l (suc (suc zero)) h = refl
  point_number l (suc (suc (suc x))) h = absurd (omega (arith, h))

  triangle_number : (l : Index) (x : ℕ) → x < 3 → entry (refined_triangle t n a b) l x ≡ refined_number t n a b l x
  unfolding refined_triangle
  triangle_number one = point_number one
  triangle_number two = point_number two
  triangle_number three = point_number three

pub rule_refines : (t : Table) (net : List ℤ) (w : ℕ) (v : Vertex) (l : Index) (x : ℕ) → x < 3 →
    entry (refined_triangle t (kind_number (kind_of v)) (control_triangle net w (begin_of v))
    (control_triangle net w (end_of v))) l x
    ≡ refined_by t (field net w x) v l
unfolding refined_by exact_by
rule_refines t net w v =
    triangle_number t (kind_number (kind_of v)) (control_triangle net w (begin_of v)) (control_triangle net w (end_of v))

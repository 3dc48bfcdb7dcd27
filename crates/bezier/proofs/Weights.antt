-- The 19 Bézier points are weighted sums of the control values in corner form, and so are those that the code joins
-- from the terms of the corners.
use mathlib.Core.Path.{◌≡◌, refl, ap, ◌∙◌}
use mathlib.Core.Bool.{Bool, true, false}
use mathlib.Core.List.{List, [], ◌∷◌, map}
use Prim.Native.Nat.{ℕ, ◌+◌, ◌*◌, ◌≤◌}
use lib.IntN.{ℤ, pos, nat_abs}
use lib.ListN.{length, get_or}
use mir.Syntax.{w32}
use Rattle.exact.specs.WeightedSum.{weighted_sum, Within}
use Rattle.exact.specs.Filling.{runs}
use Rattle.exact.proofs.Expressions.{Expr, var, lit, ◌⊕◌, ◌⊗◌, normal, identities}
use Rattle.exact.proofs.SignedCode.{Leaf, of_number, exact_bound}
use Rattle.exact.proofs.FillingLaws.{array_elements}
use Rattle.exact.proofs.Sizes.{fits_of_size}
use Rattle.exact.proofs.WeightedSumLaws.{within_at}
use Rattle.net.specs.Net.{Index, one, two, three, rank}
use Rattle.places.specs.Places.{o123}
use Rattle.triangles.specs.BezierPoints.{Controls, control_list}
use Rattle.triangles.proofs.CornerForm.{in_form, summed, s, u, v, r, m, z}
use Rattle.bezier.specs.BezierNet.{bezier_points}
use Rattle.bezier.specs.Weights.{bezier_rows, points_of, terms_at, SmallTerms, joined_terms}
use Rattle.bezier.specs.declared.bezier.Terms.{Terms}

-- ---- row n of the table gives point n

-- the nine values in a list, by corner and then c1 to c3, and the points of these
abbrev c : Index → Index → Expr
c P k = var (3 * rank P + rank k)

abbrev points : Bool → List Expr
points down =
    s c one ∷ s c two ∷ s c three
    ∷ u c down one two ∷ u c down one three ∷ u c down two one
    ∷ u c down two three ∷ u c down three one ∷ u c down three two
    ∷ v c down one ∷ v c down two ∷ v c down three
    ∷ r c down one two ∷ r c down one three ∷ r c down two three
    ∷ m c down one two ∷ m c down one three ∷ m c down two three
    ∷ z c down ∷ []

abbrev by_rows : Bool → List Expr
by_rows down = map (λ (row : List ℤ). summed (map lit row) (in_form down c o123)) bezier_rows

same_forms : (down : Bool) → map normal (by_rows down) ≡ map normal (points down)
same_forms false = refl
same_forms true = refl

pub points_by_rows : (down : Bool) (e : Controls) →
    map (λ (row : List ℤ). weighted_sum row (in_form down e o123)) bezier_rows ≡ bezier_points down e
unfolding weighted_sum bezier_points
points_by_rows false e = identities (by_rows false) (points false) (control_list e) (same_forms false)
points_by_rows true e = identities (by_rows true) (points true) (control_list e) (same_forms true)

-- ---- the points from the terms of the corners

-- ck, cn and cm of a corner, as the code holds them
abbrev pub held_corner : (values : List ℤ) → Within 16777216 values → ℕ → List (Leaf w32)
held_corner values h at = number at ∷ number (at + 1) ∷ number (at + 2) ∷ []
  where
    number : ℕ → Leaf w32
    number i = let k = within_at 16777216 values h i in of_number (get_or values i (pos 0)) (fits_of_size k tt) k

-- the terms of a corner as expressions of these
abbrev pub s_e : (k n m : Expr) → Expr
s_e k n m = lit (pos 12) ⊗ (k ⊕ n ⊕ m)

abbrev pub ahead_e : (k n m : Expr) → Expr
ahead_e k n m = lit (pos 3) ⊗ (lit (pos 4) ⊗ k ⊕ n ⊕ m)

abbrev pub back_e : (k n : Expr) → Expr
back_e k n = lit (pos 9) ⊗ (k ⊕ n)

abbrev pub v_e : (k n : Expr) → Expr
v_e k n = lit (pos 2) ⊗ k ⊕ n

-- what bounds the values bounds the terms
pub small_terms : (values : List ℤ) → Within 16777216 values → (at : ℕ) → SmallTerms (terms_at values at)
small_terms values h at =
    let L = held_corner values h at in
    let k = var 0 in
    let n = var 1 in
    let m = var 2 in
    (exact_bound L (ahead_e k n m), exact_bound L (back_e k n), exact_bound L (v_e k n))

-- `ahead`, `back` and `v` of three corners, as the code holds them
abbrev pub held_terms : (p q t : Terms) → SmallTerms p × SmallTerms q × SmallTerms t → List (Leaf w32)
held_terms p q t h =
    long p.ahead h.0.0 ∷ long q.ahead h.1.0 ∷ long t.ahead h.2.0
    ∷ long p.back h.0.1 ∷ long q.back h.1.1 ∷ long t.back h.2.1
    ∷ short p.v h.0.2 ∷ short q.v h.1.2 ∷ short t.v h.2.2
    ∷ []
  where
    long : (z : ℤ) → nat_abs z ≤ 301989888 → Leaf w32
    long z k = of_number z (fits_of_size k tt) k

    short : (z : ℤ) → nat_abs z ≤ 50331648 → Leaf w32
    short z k = of_number z (fits_of_size k tt) k

-- the points of the terms of the three corners, where variables 0 to 8 are the nine values
abbrev joined_e : List Expr
joined_e =
    (let a1 = ahead_e (var 0) (var 1) (var 2) in
    let a2 = ahead_e (var 3) (var 4) (var 5) in
    let a3 = ahead_e (var 6) (var 7) (var 8) in
    let b1 = back_e (var 0) (var 1) in
    let b2 = back_e (var 3) (var 4) in
    let b3 = back_e (var 6) (var 7) in
    let v1 = v_e (var 0) (var 1) in
    let v2 = v_e (var 3) (var 4) in
    let v3 = v_e (var 6) (var 7) in
    let two = lit (pos 2) in
    let six = lit (pos 6) in
    let twelve = lit (pos 12) in
    s_e (var 0) (var 1) (var 2) ∷ s_e (var 3) (var 4) (var 5) ∷ s_e (var 6) (var 7) (var 8)
    ∷ (two ⊗ a1) ∷ (two ⊗ b1) ∷ (two ⊗ b2) ∷ (two ⊗ a2) ∷ (two ⊗ a3) ∷ (two ⊗ b3)
    ∷ (twelve ⊗ v1) ∷ (twelve ⊗ v2) ∷ (twelve ⊗ v3)
    ∷ (a1 ⊕ b2) ∷ (b1 ⊕ a3) ∷ (a2 ⊕ b3)
    ∷ (six ⊗ (v1 ⊕ v2)) ∷ (six ⊗ (v1 ⊕ v3)) ∷ (six ⊗ (v2 ⊕ v3))
    ∷ (lit (pos 4) ⊗ (v1 ⊕ v2 ⊕ v3)) ∷ [])

-- the same by the rows of weights
abbrev rows_e : List Expr
rows_e =
    map (λ (row : List ℤ).
    summed (map lit row) (var 0 ∷ var 1 ∷ var 2 ∷ var 3 ∷ var 4 ∷ var 5 ∷ var 6 ∷ var 7 ∷ var 8 ∷ [])) bezier_rows

pub joined_points : (values : List ℤ) → length values ≡ 9 →
    joined_terms (terms_at values 0) (terms_at values 3) (terms_at values 6) ≡ points_of values
unfolding weighted_sum runs
joined_points values long = identities joined_e rows_e values refl ∙ ap points_of (array_elements (pos 0) values 9 long)

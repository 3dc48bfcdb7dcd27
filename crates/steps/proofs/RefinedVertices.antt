-- The control triangle of one refined vertex: the table's rule is document 01's, and the numbers that it reads lie in
-- the net.
use mathlib.Core.Path.{◌≡◌, refl, sym, ap, ◌∙◌}
use mathlib.Core.Bool.{Bool, true, false}
use mathlib.Core.List.{List, ◌++◌}
use Prim.Native.Nat.{ℕ, ◌+◌, ◌/◌, ◌*◌}
use native.Mathlib.Omega.{arith}
use lib.IntN.{ℤ}
use lib.Seq.{sets}
use borrow.Author.Tests.{lt-ltb, le-ltb}
use Rattle.exact.specs.Rounding.{rounded}
use Rattle.exact.proofs.FillingLaws.{sets_after}
use Rattle.net.specs.Net.{Index, one, two, three, Vertex, vertex_at, entry, control_triangle, field, point_stride}
use Rattle.subdivision.specs.Refinement.{kind_of, begin_of, end_of, is_odd, kind_by, begin_by, end_by}
use Rattle.subdivision.specs.WeightTable.{kind_number, weights, weights_pass, exact_by, refined_by, refined_number, refined_triangle}
use Rattle.subdivision.proofs.Means.{kept_alone}
use Rattle.subdivision.proofs.Tables.{our_refinement}
use Rattle.steps.specs.RefinedNet.{Fields, point_at, triangle_of, vertex_run, refined_fields, refined_controls}
use Rattle.steps.specs.Steps.{three_points}

-- the rule by our table, at the ends of the edge, is one refinement
by_table_lem : (net : List ℤ) (w : ℕ) (v : Vertex) →
    refined_triangle weights (kind_number (kind_of v)) (control_triangle net w (begin_of v))
    (control_triangle net w (end_of v)) ≡ refined_controls net w v
unfolding refined_triangle refined_controls refined_by exact_by
by_table_lem net w v = λ t. triangle_of (λ x. our_refinement (field net w x) t) v

-- of vertex (i, j), whose column is m doubled, or one more, and whose row is n doubled, or one more
pub by_kind : (net : List ℤ) (w i j m n : ℕ) (p q : Bool) → i / 2 ≡ m → j / 2 ≡ n → is_odd i ≡ p → is_odd j ≡ q →
    (let k = kind_by p q in
    refined_triangle weights (kind_number k) (control_triangle net w (begin_by k m n)) (control_triangle net w (end_by k m n))
    ≡ refined_controls net w (vertex_at i j))
by_kind net w i j m n p q c d e f =
    (λ t.
    let k = kind_by (sym e t) (sym f t) in
    refined_triangle weights (kind_number k) (control_triangle net w (begin_by k (sym c t) (sym d t)))
    (control_triangle net w (end_by k (sym c t) (sym d t))))
    ∙ by_table_lem net w (vertex_at i j)

-- a number doubled is even, and one more is odd
pub even_double : (n : ℕ) → is_odd (2 * n) ≡ false
even_double n = le-ltb (2 * (2 * n / 2)) (2 * n) (omega arith)

pub odd_double : (n : ℕ) → is_odd (2 * n + 1) ≡ true
odd_double n = lt-ltb (2 * ((2 * n + 1) / 2)) (2 * n + 1) (omega arith)

-- what the rule made of two loaded control triangles, at such a vertex
pub made_by_kind : (net : List ℤ) (w i j m n : ℕ) (p q : Bool) {r a b : List (List ℤ)} →
    i / 2 ≡ m → j / 2 ≡ n → is_odd i ≡ p → is_odd j ≡ q →
    r ≡ refined_triangle weights (kind_number (kind_by p q)) a b →
    a ≡ control_triangle net w (begin_by (kind_by p q) m n) → b ≡ control_triangle net w (end_by (kind_by p q) m n) →
    r ≡ refined_controls net w (vertex_at i j)
made_by_kind net w i j m n p q c d e f r a b =
    r ∙ (λ t. refined_triangle weights (kind_number (kind_by p q)) (a t) (b t)) ∙ by_kind net w i j m n p q c d e f

-- the second vertex of a kept one has no weight
pub kept_second : (a b c : List (List ℤ)) → refined_triangle weights 0 a b ≡ refined_triangle weights 0 a c
unfolding refined_triangle
kept_second a b c =
    let same : (l : Index) (x : ℕ) → refined_number weights 0 a b l x ≡ refined_number weights 0 a c l x =
    λ l x. ap (λ (z : ℤ). rounded z 12)
    (kept_alone weights weights_pass l (λ k. entry a k x) (λ k. entry b k x) (λ k. entry c k x)) in
    λ t. triangle_of (λ x v l. same l x t) (vertex_at 0 0)

-- the three control points of a vertex, stored one after the other, are its numbers
pub stored_triangle : (F : Fields) (v : Vertex) (l : List ℤ) (at : ℕ) {c : List (List ℤ)} → c ≡ triangle_of F v →
    three_points l at c ≡ sets l at (vertex_run F v)
stored_triangle F v l at e =
    (λ t. three_points l at (e t))
    ∙ ap (λ (m : List ℤ). sets m (at + 2 * point_stride) (point_at F v three))
    (sets_after l at (point_at F v one) (point_at F v two) refl)
    ∙ sets_after l at (point_at F v one ++ point_at F v two) (point_at F v three) refl

pub stored_controls : (net : List ℤ) (w : ℕ) (v : Vertex) (l : List ℤ) (at : ℕ) {c : List (List ℤ)} →
    c ≡ refined_controls net w v →
    three_points l at c ≡ sets l at (vertex_run (refined_fields net w) v)
unfolding refined_controls
stored_controls net w = stored_triangle (refined_fields net w)

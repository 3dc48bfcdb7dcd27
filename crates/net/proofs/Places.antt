-- Sizes that are accepted, places of vertices in storage, and stores.
use mathlib.Core.Path.{◌≡◌, refl, sym, ap, subst, ◌∙◌}
use mathlib.Core.Bool.{false}
use mathlib.Core.List.{List, [], ◌∷◌}
use Prim.Native.Nat.{ℕ, zero, suc, ◌+◌, ◌*◌, ◌≤◌, ◌<◌}
use native.Mathlib.Nat.{le_refl, mul-le-mul, mul-add, mul-one, mul_comm}
use native.Mathlib.Omega.{arith}
use native.Mathlib.Numerals.{unary_clauses}
use lib.Arith.{digits_lt}
use lib.Dec.{ltb, lit<}
use lib.IntN.{ℤ, pos, nat_abs}
use lib.ListN.{length, get_or, set, drop, length-take, length-drop}
use lib.Seq.{sets, get_or-take, get_or-drop}
use borrow.Author.Tests.{ltb-false, leb-false}
use Rattle.exact.specs.Filling.{runs}
use Rattle.exact.proofs.FillingLaws.{array_elements}
use Rattle.net.specs.Net.{Index, one, two, three, rank, Vertex, vertex_at, record_start, numbers, start, vertex_numbers, number, control_point, control_triangle, field, stride, point_stride}
use Rattle.net.specs.Refusals.{bad_side, bad_size, no_vertex, short_net, net_limit, any_beyond, vertex_refusal, vertex_part}
use Rattle.net.proofs.Faults.{or_none, fault_none, when_accepted, when_refused}
use Rattle.net.proofs.Ranges.{in_range_lem}

-- 2 to 1,025 vertices a side
pub record GoodSize (w h : ℕ) : Type 0 where
  pub wide : 2 ≤ w
  pub narrow : w ≤ 1025
  pub high : 2 ≤ h
  pub low : h ≤ 1025

good_side : (n : ℕ) → bad_side n ≡ false → (2 ≤ n) × (n ≤ 1025)
good_side n e =
    let e₂ = or_none (ltb n 2) (ltb 1025 n) e in
    (ltb-false n 2 e₂.0, ltb-false 1025 n e₂.1)

pub good_size : (w h : ℕ) → bad_size w h ≡ false → GoodSize w h
good_size w h e =
    let e₂ = or_none (bad_side w) (bad_side h) e in
    let a = good_side w e₂.0 in
    let b = good_side h e₂.1 in
    record { wide = a.0; narrow = a.1; high = b.0; low = b.1 }

pub few_vertices : {w h : ℕ} → GoodSize w h → w * h ≤ 1050625
few_vertices s = mul-le-mul s.narrow s.low

-- a vertex's record of n numbers ends within those of the grid, and so its numbers within the net
pub record_ends : (n : ℕ) {w h i j : ℕ} → i < w → j < h → record_start n w (vertex_at i j) + n ≤ n * (w * h)
record_ends n {w} {h} {i} {j} a b =
    let place : j * w + i < h * w = digits_lt b a in
    let before : j * w + i + 1 ≤ w * h = omega (arith, place, mul_comm h w) in
    omega (arith, mul-le-mul (le_refl n) before, mul-add n (j * w + i) 1, mul-one n)

pub vertex_ends : {w h i j : ℕ} → i < w → j < h → start w (vertex_at i j) + stride ≤ numbers w h
vertex_ends {w} {h} {i} {j} = record_ends stride {w = w} {h = h} {i = i} {j = j}

-- what an accepted vertex is known by
pub record GoodVertex (net : List ℤ) (w h i j : ℕ) : Type 0 where
  pub size : GoodSize w h
  pub column : i < w
  pub row : j < h
  pub long : numbers w h ≤ length net

pub good_vertex : (net : List ℤ) (w h i j : ℕ) → vertex_refusal net w h i j ≡ 0 → GoodVertex net w h i j
good_vertex net w h i j e =
    let e₁ = fault_none (bad_size w h) 1 _ (lit< tt) e in
    let e₆ = fault_none (no_vertex w h i j) 6 _ (lit< tt) e₁.1 in
    let e₂ = fault_none (short_net net w h) 2 _ (lit< tt) e₆.1 in
    let v = or_none _ _ e₆.0 in
    record {
      size = good_size w h e₁.0;
      column = leb-false w i v.0;
      row = leb-false h j v.1;
      long = ltb-false (length net) (numbers w h) e₂.0;
    }

-- its numbers lie in the net, and their places are small numbers
pub vertex_lies : (net : List ℤ) (w h i j : ℕ) → GoodVertex net w h i j →
    (start w (vertex_at i j) + stride ≤ length net) × (start w (vertex_at i j) + stride ≤ stride * 1050625)
vertex_lies net w h i j v =
    let ends = vertex_ends {w = w} {h = h} {i = i} {j = j} v.column v.row in
    let few = few_vertices v.size in
    (omega (arith, ends, v.long), omega (arith, ends, few))

-- the vertex part where it is accepted, and where it is refused
pub accepted_part : (net : List ℤ) (w h i j : ℕ) → vertex_refusal net w h i j ≡ 0 →
    vertex_numbers net w (vertex_at i j) ≡ vertex_part net w h i j
unfolding vertex_part
accepted_part net w h i j e = when_accepted (vertex_refusal net w h i j) (vertex_numbers net w (vertex_at i j)) [] e

pub refused_part : (net : List ℤ) (w h i j : ℕ) → (vertex_refusal net w h i j ≡ 0 → ⊥) → [] ≡ vertex_part net w h i j
unfolding vertex_part
refused_part net w h i j e = when_refused (vertex_refusal net w h i j) (vertex_numbers net w (vertex_at i j)) [] e

-- an array of three is its three elements
array3 : (l : List ℤ) → length l ≡ 3 → l ≡ get_or l 0 (pos 0) ∷ get_or l 1 (pos 0) ∷ get_or l 2 (pos 0) ∷ []
unfolding runs
array3 l e = sym (array_elements (pos 0) l 3 e)

-- three stores, one after the other
pub stored : (l : List ℤ) (at : ℕ) (p : List ℤ) → length p ≡ 3 →
    set (set (set l at (get_or p 0 (pos 0))) (at + 1) (get_or p 1 (pos 0))) (at + 2) (get_or p 2 (pos 0)) ≡ sets l at p
stored l at p e = simp unary_clauses (ap (sets l at) (sym (array3 p e)))

-- where a number of a control point and of a field stands in storage
pub point_number : (net : List ℤ) (at x : ℕ) → x < 3 → number (control_point net at) x ≡ number net (at + x)
unfolding control_point
point_number net at zero h = ap (number net) (omega arith)
point_number net at (suc zero) h = refl
point_number net at (suc (suc zero)) h = refl
point_number net at (suc (suc (suc x))) h = absurd (omega (arith, h))

pub field_number : (net : List ℤ) (w : ℕ) (v : Vertex) (k : Index) (x : ℕ) → x < 3 →
    field net w x v k ≡ number net (start w v + (point_stride * rank k + x))
unfolding control_triangle
field_number net w v one x h = point_number net (start w v) x h ∙ ap (number net) (omega arith)
field_number net w v two x h = point_number net (start w v + point_stride) x h ∙ ap (number net) (omega arith)
field_number net w v three x h = point_number net (start w v + 2 * point_stride) x h ∙ ap (number net) (omega arith)

-- the numbers of a control point lie within the vertex's
pub within_record : (k : Index) (x : ℕ) → x < 3 → point_stride * rank k + x < stride
within_record one x h = omega (arith, h)
within_record two x h = omega (arith, h)
within_record three x h = omega (arith, h)

-- the numbers of a vertex in range
pub field_size : (net : List ℤ) (w : ℕ) (v : Vertex) → any_beyond (vertex_numbers net w v) ≡ false →
    start w v + stride ≤ length net →
    (k : Index) (x : ℕ) → x < 3 → nat_abs (field net w x v k) ≤ 16777216
field_size net w v e l k x h =
    let at = point_stride * rank k + x in
    let here = within_record k x h in
    let long : at < length (vertex_numbers net w v) =
    omega (arith, length-take stride (drop (start w v) net), length-drop (start w v) net, l, here) in
    let same : number (vertex_numbers net w v) at ≡ field net w x v k =
    get_or-take stride (drop (start w v) net) at (pos 0) here
    ∙ get_or-drop (start w v) net at (pos 0)
    ∙ sym (field_number net w v k x h) in
    subst (λ (z : ℤ). nat_abs z ≤ 16777216) same (in_range_lem net_limit (vertex_numbers net w v) e at long)

-- where P, Q and T stand among the corners
pub below_three : (k : Index) {n : ℕ} → n ≡ rank k → n < 3
below_three k e = subst (λ (n : ℕ). n < 3) (sym e) (at k)
  where
    at : (k : Index) → rank k < 3
    at one = lit< tt
    at two = lit< tt
    at three = lit< tt

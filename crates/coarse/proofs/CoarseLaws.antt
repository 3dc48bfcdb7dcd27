-- The coarse value of three numbers: its sum, in code too, and that one refinement of it gives the value back; the
-- coarse net, vertex by vertex and row by row.
use mathlib.Core.Path.{◌≡◌, refl, sym, ap, ◌∙◌}
use mathlib.Core.Bool.{false}
use mathlib.Core.List.{List, [], ◌∷◌}
use Prim.Native.Nat.{ℕ, ◌+◌, ◌*◌, ◌≤◌, ◌<◌}
use native.Mathlib.Nat.{le_trans, mul-le-mul}
use native.Mathlib.Omega.{arith}
use lib.Dec.{lit<, lit≤}
use lib.IntN.{ℤ, pos, negsuc, nat_abs, ◌+ℤ◌, ◌-ℤ◌, ◌*ℤ◌}
use lib.ListN.{length}
use borrow.Author.Tests.{ltb-false}
use Rattle.exact.specs.Rounding.{rounded}
use Rattle.exact.specs.Filling.{runs}
use Rattle.exact.specs.WeightedSum.{weighted_sum}
use Rattle.exact.proofs.Expressions.{Expr, var, lit, ◌⊕◌, ◌⊖◌, ◌⊗◌, identity}
use Rattle.exact.proofs.Linear.{expression_parts}
use Rattle.exact.proofs.Parts.{integers, size_parts}
use Rattle.exact.proofs.RoundingLaws.{nearest, rounded_scale}
use Rattle.exact.proofs.Sizes.{value_bound}
use Rattle.net.specs.Net.{vertex_at, vertex_of, grid, numbers, start, stride, vertex_numbers}
use Rattle.net.specs.Refusals.{net_limit, bad_size, any_beyond, AcceptedNet}
use Rattle.net.proofs.Places.{good_size, few_vertices, vertex_ends}
use Rattle.net.proofs.Ranges.{part_in_range}
use Rattle.steps.specs.RefinedNet.{vertex_run, row_run, stored}
use Rattle.steps.proofs.StoredNets.{stored_beyond, stored_by_number}
use Rattle.coarse.specs.Coarse.{coarse_side, coarse_fields, coarse_net, coarse_beyond}

pub coarse_sum : (c a b : ℤ) →
    weighted_sum (pos 5 ∷ negsuc 0 ∷ negsuc 0 ∷ []) (c ∷ a ∷ b ∷ []) ≡ pos 5 *ℤ c -ℤ (a +ℤ b)
unfolding weighted_sum
coarse_sum c a b =
    identity
    (lit (pos 5) ⊗ var 0 ⊕ (lit (negsuc 0) ⊗ var 1 ⊕ (lit (negsuc 0) ⊗ var 2 ⊕ lit (pos 0))))
    (lit (pos 5) ⊗ var 0 ⊖ (var 1 ⊕ var 2)) (c ∷ a ∷ b ∷ []) refl

-- in code, twice as much over 6: the weights, and the sum as an expression
abbrev pub code_weights : List ℤ
code_weights = pos 10 ∷ negsuc 1 ∷ negsuc 1 ∷ []

abbrev code_sum : Expr
code_sum = lit (pos 10) ⊗ var 0 ⊕ (lit (negsuc 1) ⊗ var 1 ⊕ (lit (negsuc 1) ⊗ var 2 ⊕ lit (pos 0)))

pub coarse_quotient : (c a b : ℤ) →
    rounded (weighted_sum code_weights (c ∷ a ∷ b ∷ [])) 6 ≡ rounded (pos 5 *ℤ c -ℤ (a +ℤ b)) 3
unfolding weighted_sum
coarse_quotient c a b =
    ap (λ (z : ℤ). rounded z 6)
    (identity code_sum (lit (pos 2) ⊗ (lit (pos 5) ⊗ var 0 ⊖ (var 1 ⊕ var 2))) (c ∷ a ∷ b ∷ []) refl)
    ∙ rounded_scale 2 (pos 5 *ℤ c -ℤ (a +ℤ b)) 3 (lit< tt) (lit< tt)

-- of numbers in the net range, 14 times the limit at most; the code's bound is 6 times 3 times it
pub coarse_few : (c a b : ℤ) → nat_abs c ≤ net_limit → nat_abs a ≤ net_limit → nat_abs b ≤ net_limit →
    nat_abs (weighted_sum code_weights (c ∷ a ∷ b ∷ [])) ≤ 6 * (3 * net_limit)
unfolding weighted_sum
coarse_few c a b h k l =
    let size = value_bound (c ∷ a ∷ b ∷ []) (net_limit ∷ net_limit ∷ net_limit ∷ []) code_sum (h, (k, (l, tt))) in
    le_trans size (lit≤ tt)

-- ---- the coarse net, vertex by vertex and row by row

-- the numbers of vertex n of the coarse net
abbrev pub coarse_run : List ℤ → ℕ → ℕ → List ℤ
coarse_run net w n = vertex_run (coarse_fields net w) (vertex_of (coarse_side w) n)

pub coarse_by_number : (net : List ℤ) (w h : ℕ) → coarse_net net w h ≡ runs (coarse_side w * coarse_side h) (coarse_run net w)
unfolding coarse_net
coarse_by_number net w h = stored_by_number (coarse_fields net w) (coarse_side w) (coarse_side h)

pub coarse_tested : (net : List ℤ) (w h : ℕ) →
    coarse_beyond net w h ≡ any_beyond (runs (coarse_side w * coarse_side h) (coarse_run net w))
unfolding coarse_net
coarse_tested net w h = stored_beyond (coarse_fields net w) (coarse_side w) (coarse_side h)

-- the numbers of vertex i of row j
abbrev pub run_in_row : List ℤ → ℕ → ℕ → ℕ → List ℤ
run_in_row net w j i = vertex_run (coarse_fields net w) (vertex_at i j)

pub coarse_by_rows : (net : List ℤ) (w h : ℕ) →
    coarse_net net w h ≡ runs (coarse_side h) (row_run (coarse_fields net w) (coarse_side w))
unfolding coarse_net stored grid
coarse_by_rows net w h = refl

pub rows_tested : (net : List ℤ) (w h : ℕ) →
    coarse_beyond net w h ≡ any_beyond (runs (coarse_side h) (row_run (coarse_fields net w) (coarse_side w)))
rows_tested net w h =
    coarse_tested net w h ∙ ap any_beyond (sym (coarse_by_number net w h) ∙ coarse_by_rows net w h)

-- the sides of a net are small, and so are those of its coarse net
pub record SmallSides (w h : ℕ) : Type 0 where
  pub wide : 2 ≤ w
  pub narrow : w ≤ 1025
  pub low : h ≤ 1025
  pub many : w * h ≤ 1050625
  pub few : coarse_side w * coarse_side h ≤ 263169

pub small_sides : (w h : ℕ) → bad_size w h ≡ false → SmallSides w h
small_sides w h e =
    let s = good_size w h e in
    let wide : coarse_side w ≤ 513 = omega (arith, s.narrow) in
    let high : coarse_side h ≤ 513 = omega (arith, s.low) in
    record { wide = s.wide; narrow = s.narrow; low = s.low; many = few_vertices s; few = mul-le-mul wide high }

-- the vertex that is kept lies in the net
pub kept_vertex : (net : List ℤ) (w h i j : ℕ) → AcceptedNet net w h → i < coarse_side w → j < coarse_side h →
    (let v = vertex_at (2 * i) (2 * j) in
    (1 ≤ w) × (start w v + stride ≤ length net) × (any_beyond (vertex_numbers net w v) ≡ false))
kept_vertex net w h i j a p q =
    let s = good_size w h a.size in
    let long : numbers w h ≤ length net = ltb-false (length net) (numbers w h) a.long in
    let ends = vertex_ends {w = w} {h = h} {i = 2 * i} {j = 2 * j} (omega (arith, p)) (omega (arith, q)) in (
      omega (arith, s.wide),
      omega (arith, ends, long),
      part_in_range net w h (start w (vertex_at (2 * i) (2 * j))) stride a.in_range ends,
    )

-- ---- the refined value at a kept vertex

-- from the nearest law of rounding alone: a coarse value times 3 is 5c - a - b with an error of at most 1, so the
-- refined value, 12 times which is nearest to twice 4g + p + q of the coarse values g, p, q, is the one of the net
pub kept_value : (c a b : ℤ) →
    (let g = rounded (pos 5 *ℤ c -ℤ (a +ℤ b)) 3 in
    let p = rounded (pos 5 *ℤ a -ℤ (b +ℤ c)) 3 in
    let q = rounded (pos 5 *ℤ b -ℤ (c +ℤ a)) 3 in
    rounded (pos 2 *ℤ (pos 4 *ℤ g +ℤ p +ℤ q)) 12 ≡ c)
kept_value c a b =
    let x = pos 5 *ℤ c -ℤ (a +ℤ b) in
    let y = pos 5 *ℤ a -ℤ (b +ℤ c) in
    let z = pos 5 *ℤ b -ℤ (c +ℤ a) in
    let g = rounded x 3 in
    let p = rounded y 3 in
    let q = rounded z 3 in
    let n = pos 2 *ℤ (pos 4 *ℤ g +ℤ p +ℤ q) in
    let r = rounded n 12 in
    let ρ = c ∷ a ∷ b ∷ g ∷ p ∷ q ∷ r ∷ [] in
    let sum = lit (pos 2) ⊗ (lit (pos 4) ⊗ var 3 ⊕ var 4 ⊕ var 5) in
    let near_g = nearest x 3 (lit< tt) in
    let near_p = nearest y 3 (lit< tt) in
    let near_q = nearest z 3 (lit< tt) in
    let near_r = nearest n 12 (lit< tt) in
    omega (
      integers,
      near_g,
      near_p,
      near_q,
      near_r,
      size_parts (pos 3 *ℤ g -ℤ x),
      size_parts (pos 3 *ℤ p -ℤ y),
      size_parts (pos 3 *ℤ q -ℤ z),
      size_parts (pos 12 *ℤ r -ℤ n),
      expression_parts ρ (lit (pos 3) ⊗ var 3 ⊖ (lit (pos 5) ⊗ var 0 ⊖ (var 1 ⊕ var 2))),
      expression_parts ρ (lit (pos 3) ⊗ var 4 ⊖ (lit (pos 5) ⊗ var 1 ⊖ (var 2 ⊕ var 0))),
      expression_parts ρ (lit (pos 3) ⊗ var 5 ⊖ (lit (pos 5) ⊗ var 2 ⊖ (var 0 ⊕ var 1))),
      expression_parts ρ (lit (pos 12) ⊗ var 6 ⊖ sum),
    )

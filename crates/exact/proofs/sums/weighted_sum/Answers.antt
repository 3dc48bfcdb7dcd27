-- `exact::sums::weighted_sum` meets its contract. The loop's invariant: the sum so far and the weighted sum of the rest
-- are the whole sum, and the sum so far leaves room for 2 ^ 57 in size for each term of the rest.
use mathlib.Core.Path.{◌≡◌, refl, sym, ◌∙◌, ap, subst}
use mathlib.Core.Logic.{◌⊎◌, ⊎_elim, inl, inr}
use mathlib.Core.List.{List, [], ◌∷◌}
use Prim.Native.Nat.{◌+◌, ◌*◌, ◌^◌}
use native.Mathlib.Nat.{le_refl}
use native.Mathlib.Omega.{arith}
use lib.ListN.{length}
use lib.IntN.{ℤ, pos, nat_abs, ◌+ℤ◌, ◌*ℤ◌, +ℤ_idr, +ℤ_assoc}
use borrow.Author.Rules.{rules}
use mir.Syntax.{w32, w64}
use mir.Val.{SFits, to_z}
use Rattle.exact.specs.WeightedSum.{weighted_sum, Within}
use Rattle.exact.proofs.Expressions.{Expr, var, ◌⊕◌, ◌⊗◌, plus, times}
use Rattle.exact.proofs.Sizes.{size_of_fits, reach_bound}
use Rattle.exact.proofs.SignedCode.{Leaf, of_number, of_bits, of_narrow, reads_exact, operation_fits}
use Rattle.exact.proofs.sums.weighted_sum.Given.{Over}
use Rattle.exact.proofs.sums.weighted_sum.Goals as goal
use Rattle.exact.proofs.sums.weighted_sum.Goals.{After-v-1}

-- the next weight and value, and the three leaves of an iteration: the sum so far, the weight, and the value cast to an
-- i64
module _ {g : Over} (c : After-v-1 g) where
  abbrev w : ℤ
  w = c.in-Some.field-0-0.now

  abbrev v : ℤ
  v = c.in-Some.field-0-1.now

  value_fits : SFits w32 v
  value_fits = search rules

  weight_fits : SFits w64 w
  weight_fits = search rules

  -- the weights of the rest, of which w is the first
  small : Within (2 ^ 26) (w ∷ c.next.new.self.a.rest.now)
  small = subst (Within (2 ^ 26)) c.in-Some.ensures.steps.0 c.loop-w.invariant.small

  longer : length c.loop-w.w-iterator.a.rest.now ≡ length c.next.new.self.a.rest.now + 1
  longer = ap length c.in-Some.ensures.steps.0 ∙ omega arith

  abbrev leaves : List (Leaf w64)
  leaves =
      of_bits {n = 9 * 2 ^ 57} c.loop-w.sum-bits refl (omega (arith, c.loop-w.invariant.size))
      ∷ of_number w weight_fits small.0
      ∷ of_narrow v value_fits tt (size_of_fits value_fits)
      ∷ []

  -- one term more
  abbrev next : Expr
  next = var 0 ⊕ var 1 ⊗ var 2

pub overflow_mul-sum : goal.overflow_mul-sum
overflow_mul-sum g c = operation_fits (leaves c) times (var 1) (var 2) tt

pub overflow_add-sum : goal.overflow_add-sum
overflow_add-sum g c = operation_fits (leaves c) plus (var 0) (var 1 ⊗ var 2) tt

pub loop-w-preserved : goal.loop-w-preserved
unfolding weighted_sum
loop-w-preserved g c =
    let sum = to_z w64 c.loop-w.sum-bits in
    let reads = reads_exact (leaves c) (next c) tt in
    let rest = weighted_sum c.next.new.self.a.rest.now c.next.new.self.b.rest.now in
    let term = reach_bound times (w c) (v c) (small c).0 (size_of_fits (value_fits c)) in
    let grown = reach_bound plus sum (w c *ℤ v c) (le_refl (nat_abs sum)) term in
    record {
      sum =
          ap (λ (z : ℤ). z +ℤ rest) reads
          ∙ +ℤ_assoc sum (w c *ℤ v c) rest
          ∙ (λ t. sum +ℤ weighted_sum (sym c.in-Some.ensures.steps.0 t) (sym c.in-Some.ensures.steps.1 t))
          ∙ c.loop-w.invariant.sum;
      size = omega (arith, ap nat_abs reads, grown, longer c, c.loop-w.invariant.size);
      small = (small c).1;
    }

-- where one of the two lists has come to its end, nothing is left
none_left : (ws vs : List ℤ) → (length ws ≡ 0) ⊎ (length vs ≡ 0) → weighted_sum ws vs ≡ pos 0
unfolding weighted_sum
none_left [] vs e = refl
none_left (w ∷ ws) [] e = refl
none_left (w ∷ ws) (v ∷ vs) e = absurd (⊎_elim (λ h. omega (arith, h)) (λ h. omega (arith, h)) e)

pub returns : goal.returns
returns g c =
    let sum = to_z w64 c.loop-w.sum-bits in
    let ws = c.loop-w.w-iterator.a.rest.now in
    let vs = c.loop-w.w-iterator.b.rest.now in
    let ended = ⊎_elim (λ h. inl h.1.0) (λ h. inr h.1.0) c.in-None.ensures.steps in
    record {
      sum = sym (+ℤ_idr sum) ∙ ap (λ (z : ℤ). sum +ℤ z) (sym (none_left ws vs ended)) ∙ c.loop-w.invariant.sum;
      size = omega (arith, c.loop-w.invariant.size);
    }

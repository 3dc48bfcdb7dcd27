-- The controls p + t1, p + t2 and p - t1 - t2 in one coordinate: their sum is 3p, the point after one refinement is p,
-- and no other controls have this point and these derivatives. Of rounding only that it is nearest is used.
use mathlib.Core.Path.{◌≡◌, refl}
use mathlib.Core.List.{[], ◌∷◌}
use Prim.Native.Nat.{ℕ, ◌+◌, ◌*◌, ◌≤◌}
use lib.Dec.{lit<}
use lib.IntN.{ℤ, pos, nat_abs, ◌+ℤ◌, ◌-ℤ◌, ◌*ℤ◌}
use Rattle.exact.specs.Rounding.{rounded}
use Rattle.exact.proofs.Expressions.{Expr, var, lit, ◌⊕◌, ◌⊖◌, ◌⊗◌, identity}
use Rattle.exact.proofs.Linear.{expression_parts}
use Rattle.exact.proofs.Parts.{integers, size_parts}
use Rattle.exact.proofs.RoundingLaws.{nearest}
use Rattle.net.specs.Net.{Index, one, two, three, next, previous}
use Rattle.subdivision.specs.Refinement.{kept_control}
use Rattle.hermite.specs.HermiteNet.{hermite_control}

-- the sum of three controls
abbrev pub sum_of : (Index → ℤ) → ℤ
sum_of c = c one +ℤ c two +ℤ c three

-- variables 0, 1 and 2 are p, t1 and t2
abbrev control_e : Index → Expr
control_e one = var 0 ⊕ var 1
control_e two = var 0 ⊕ var 2
control_e three = var 0 ⊖ var 1 ⊖ var 2

pub hermite_sum : (p t1 t2 : ℤ) → sum_of (hermite_control p t1 t2) ≡ pos 3 *ℤ p
hermite_sum p t1 t2 =
    identity (control_e one ⊕ control_e two ⊕ control_e three) (lit (pos 3) ⊗ var 0) (p ∷ t1 ∷ t2 ∷ []) refl

-- r is nearest to a third of z
abbrev pub NearThird : ℤ → ℤ → Type 0
NearThird r z = 2 * nat_abs (pos 3 *ℤ r -ℤ z) ≤ 3

-- 12·1024² times z, over 36·1024², is rounded to such a number
pub third_near : (z : ℤ) → NearThird (rounded (pos 12582912 *ℤ z) 37748736) z
third_near z =
    let n = pos 12582912 *ℤ z in
    let r = rounded n 37748736 in
    let ρ = r ∷ z ∷ [] in
    omega (
      integers,
      nearest n 37748736 (lit< tt),
      size_parts (pos 37748736 *ℤ r -ℤ n),
      size_parts (pos 3 *ℤ r -ℤ z),
      expression_parts ρ (lit (pos 37748736) ⊗ var 0 ⊖ lit (pos 12582912) ⊗ var 1),
      expression_parts ρ (lit (pos 3) ⊗ var 0 ⊖ var 1),
    )

-- nearest to a third of 3p is p
pub third_whole : (p r : ℤ) → NearThird r (pos 3 *ℤ p) → r ≡ p
third_whole p r near =
    omega (
      integers,
      near,
      size_parts (pos 3 *ℤ r -ℤ pos 3 *ℤ p),
      expression_parts (r ∷ p ∷ []) (lit (pos 3) ⊗ var 0 ⊖ lit (pos 3) ⊗ var 1),
    )

-- ---- after one refinement

abbrev kept_e : Index → Expr
kept_e k = lit (pos 2) ⊗ (lit (pos 4) ⊗ control_e k ⊕ control_e (next k) ⊕ control_e (previous k))

-- each refined control is within a half of p + t/2, so their sum, which is whole, is within 1 of 3p
pub kept_third : (p t1 t2 r : ℤ) → NearThird r (sum_of (λ k. rounded (kept_control (hermite_control p t1 t2) k) 12)) → r ≡ p
kept_third p t1 t2 r near =
    let c = hermite_control p t1 t2 in
    let r1 = rounded (kept_control c one) 12 in
    let r2 = rounded (kept_control c two) 12 in
    let r3 = rounded (kept_control c three) 12 in
    let sum = r1 +ℤ r2 +ℤ r3 in
    let ρ = p ∷ t1 ∷ t2 ∷ r1 ∷ r2 ∷ r3 ∷ r ∷ [] in
    let near_1 = nearest (kept_control c one) 12 (lit< tt) in
    let near_2 = nearest (kept_control c two) 12 (lit< tt) in
    let near_3 = nearest (kept_control c three) 12 (lit< tt) in
    omega (
      integers,
      near_1,
      near_2,
      near_3,
      near,
      size_parts (pos 12 *ℤ r1 -ℤ kept_control c one),
      size_parts (pos 12 *ℤ r2 -ℤ kept_control c two),
      size_parts (pos 12 *ℤ r3 -ℤ kept_control c three),
      size_parts (pos 3 *ℤ r -ℤ sum),
      expression_parts ρ (lit (pos 12) ⊗ var 3 ⊖ kept_e one),
      expression_parts ρ (lit (pos 12) ⊗ var 4 ⊖ kept_e two),
      expression_parts ρ (lit (pos 12) ⊗ var 5 ⊖ kept_e three),
      expression_parts ρ (lit (pos 3) ⊗ var 6 ⊖ (var 3 ⊕ var 4 ⊕ var 5)),
    )

-- ---- no other controls

-- variables 0 to 2 are three controls, and 3 to 5 are p, t1 and t2
abbrev sum_e : Expr
sum_e = var 0 ⊕ var 1 ⊕ var 2

abbrev slope_e : ℕ → Expr
slope_e k = lit (pos 24) ⊗ (lit (pos 3) ⊗ var k ⊖ sum_e)

abbrev tangent_e : ℕ → Expr
tangent_e k = lit (pos 36) ⊗ (lit (pos 2) ⊗ var (4 + k))

-- the sum is 3 times c1 - t1, so it is 3p
pub only_controls : (p t1 t2 : ℤ) (c : Index → ℤ) → NearThird p (sum_of c) →
    pos 24 *ℤ (pos 3 *ℤ c one -ℤ sum_of c) ≡ pos 36 *ℤ (pos 2 *ℤ t1) →
    pos 24 *ℤ (pos 3 *ℤ c two -ℤ sum_of c) ≡ pos 36 *ℤ (pos 2 *ℤ t2) →
    (k : Index) → c k ≡ hermite_control p t1 t2 k
only_controls p t1 t2 c near f g k =
    let ρ = c one ∷ c two ∷ c three ∷ p ∷ t1 ∷ t2 ∷ [] in
    let distance = expression_parts ρ (lit (pos 3) ⊗ var 3 ⊖ sum_e) in
    let first : c one ≡ p +ℤ t1 =
    omega (
      integers,
      f,
      near,
      size_parts (pos 3 *ℤ p -ℤ sum_of c),
      distance,
      expression_parts ρ (slope_e 0),
      expression_parts ρ (tangent_e 0),
      expression_parts ρ (var 3 ⊕ var 4),
    ) in
    let second : c two ≡ p +ℤ t2 =
    omega (
      integers,
      f,
      g,
      first,
      expression_parts ρ (slope_e 0),
      expression_parts ρ (slope_e 1),
      expression_parts ρ (tangent_e 0),
      expression_parts ρ (tangent_e 1),
      expression_parts ρ (var 3 ⊕ var 4),
      expression_parts ρ (var 3 ⊕ var 5),
    ) in
    let third : c three ≡ p -ℤ t1 -ℤ t2 =
    omega (
      integers,
      f,
      first,
      second,
      expression_parts ρ (slope_e 0),
      expression_parts ρ (tangent_e 0),
      expression_parts ρ (var 3 ⊕ var 4),
      expression_parts ρ (var 3 ⊕ var 5),
      expression_parts ρ (var 3 ⊖ var 4 ⊖ var 5),
    ) in
    at first second third k
  where
    at : c one ≡ p +ℤ t1 → c two ≡ p +ℤ t2 → c three ≡ p -ℤ t1 -ℤ t2 → (k : Index) → c k ≡ hermite_control p t1 t2 k
    at first second third one = first
    at first second third two = second
    at first second third three = third

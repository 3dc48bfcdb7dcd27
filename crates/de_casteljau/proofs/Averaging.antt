-- The averages: between their points, small where their points are, and the last is the quadratic polynomial.
use mathlib.Core.Path.{◌≡◌, refl, sym, ap, subst, ◌∙◌}
use mathlib.Core.Bool.{Bool, true, false}
use mathlib.Core.List.{List, [], ◌∷◌}
use Prim.Native.Nat.{ℕ, ◌+◌, ◌*◌, ◌^◌, ◌≤◌, ◌<◌}
use native.Mathlib.Nat.{le_trans, le_refl}
use native.Mathlib.Omega.{arith}
use lib.IntN.{ℤ, pos, nat_abs, ◌+ℤ◌, ◌*ℤ◌}
use lib.ListN.{get_or}
use lib.Signed.{mag, ◌≤ℤ◌}
use mir.Syntax.{w64}
use mir.Val.{to_z, of_z}
use mir.Facts.{to_z-of_z}
use Rattle.exact.specs.WeightedSum.{Within}
use Rattle.exact.proofs.Parts.{integers}
use Rattle.exact.proofs.Expressions.{Expr, var, lit, ◌⊕◌, ◌⊗◌, value, identity}
use Rattle.exact.proofs.Order.{+ℤ-mono, *ℤ-mono}
use Rattle.exact.proofs.Sizes.{value_bound, fits_of_size}
use Rattle.exact.proofs.SignedCode.{reads_as}
use Rattle.de_casteljau.specs.declared.points.Corner.{Corner}
use Rattle.de_casteljau.specs.declared.points.Ordinates.{Ordinates}
use Rattle.de_casteljau.specs.Ordinates.{ordinates, six}
use Rattle.de_casteljau.specs.Averages.{average, first_average, second_average, third_average, last_average}
use Rattle.de_casteljau.proofs.SmallTriangles.{six_e}
use Rattle.de_casteljau.specs.Promises.{LastExpanded, AverageBetween, LastBetween, AveragesFactor}

-- variables 0, 1 and 2 are A, B and G
abbrev average_e : Expr → Expr → Expr → Expr
average_e x y z = var 0 ⊗ x ⊕ var 1 ⊗ y ⊕ var 2 ⊗ z

abbrev last_e : Expr
last_e =
    average_e (average_e (var 3) (var 4) (var 5)) (average_e (var 4) (var 6) (var 7)) (average_e (var 5) (var 7) (var 8))

abbrev expanded_e : Expr
expanded_e =
    var 0 ⊗ var 0 ⊗ var 3
    ⊕ lit (pos 2) ⊗ (var 0 ⊗ var 1) ⊗ var 4
    ⊕ lit (pos 2) ⊗ (var 0 ⊗ var 2) ⊗ var 5
    ⊕ var 1 ⊗ var 1 ⊗ var 6
    ⊕ lit (pos 2) ⊗ (var 1 ⊗ var 2) ⊗ var 7
    ⊕ var 2 ⊗ var 2 ⊗ var 8

pub last_expanded : LastExpanded
last_expanded A B G o = identity last_e expanded_e (pos A ∷ pos B ∷ pos G ∷ six o) refl

-- three equal points
pub average_alike : (A B G : ℕ) (x : ℤ) → A + B + G ≡ 1024 → average A B G x x x ≡ pos 1024 *ℤ x
average_alike A B G x e =
    identity (average_e (var 3) (var 3) (var 3)) ((var 0 ⊕ var 1 ⊕ var 2) ⊗ var 3) (pos A ∷ pos B ∷ pos G ∷ x ∷ []) refl
    ∙ (λ t. pos (e t) *ℤ x)

-- A, B and G are at least 0, so an average grows with its points
not_negative : (n : ℕ) → pos 0 ≤ℤ pos n
not_negative n = omega integers

average_grows : (A B G : ℕ) {x y z x' y' z' : ℤ} → x ≤ℤ x' → y ≤ℤ y' → z ≤ℤ z' →
    average A B G x y z ≤ℤ average A B G x' y' z'
average_grows A B G a b c =
    +ℤ-mono (+ℤ-mono (*ℤ-mono (pos A) (not_negative A) a) (*ℤ-mono (pos B) (not_negative B) b)) (*ℤ-mono (pos G) (not_negative G) c)

pub average_between : AverageBetween
average_between A B G m n x y z e hx hy hz = (
  subst (λ (l : ℤ). l ≤ℤ average A B G x y z) (average_alike A B G m e) (average_grows A B G hx.0 hy.0 hz.0),
  subst (λ (l : ℤ). average A B G x y z ≤ℤ l) (average_alike A B G n e) (average_grows A B G hx.1 hy.1 hz.1),
)

pub last_between : LastBetween
last_between A B G m n o e s u v r k z =
    let first = average_between A B G m n o.b200 o.b110 o.b101 e s u v in
    let second = average_between A B G m n o.b110 o.b020 o.b011 e u r k in
    let third = average_between A B G m n o.b101 o.b011 o.b002 e v k z in
    let last =
    average_between A B G (pos 1024 *ℤ m) (pos 1024 *ℤ n) (first_average A B G o) (second_average A B G o)
    (third_average A B G o) e first second third in (
      subst (λ (l : ℤ). l ≤ℤ last_average A B G o) (twice m) last.0,
      subst (λ (l : ℤ). last_average A B G o ≤ℤ l) (twice n) last.1,
    )
  where
    twice : (x : ℤ) → pos 1024 *ℤ (pos 1024 *ℤ x) ≡ pos (1024 * 1024) *ℤ x
    twice x =
        identity (lit (pos 1024) ⊗ (lit (pos 1024) ⊗ var 0)) (lit (pos 1024) ⊗ lit (pos 1024) ⊗ var 0) (x ∷ []) refl

-- a bound for the three points, times 1,024, bounds the average
pub average_size : (A B G n : ℕ) (x y z : ℤ) → A + B + G ≡ 1024 → Within n (x ∷ y ∷ z ∷ []) →
    nat_abs (average A B G x y z) ≤ 1024 * n
average_size A B G n x y z e h =
    le_trans
    (value_bound (pos A ∷ pos B ∷ pos G ∷ x ∷ y ∷ z ∷ []) (A ∷ B ∷ G ∷ n ∷ n ∷ n ∷ [])
    (average_e (var 3) (var 4) (var 5))
    (le_refl A, (le_refl B, (le_refl G, (h.0, (h.1.0, (h.1.1.0, tt)))))))
    (omega (arith, ap (λ (k : ℕ). k * n) e))

-- a bound for the six points, times 1,024², bounds the last average
pub last_size : (A B G n : ℕ) (o : Ordinates) → A + B + G ≡ 1024 → Within n (six o) →
    nat_abs (last_average A B G o) ≤ 1024 * (1024 * n)
last_size A B G n o e h =
    average_size A B G (1024 * n) (first_average A B G o) (second_average A B G o) (third_average A B G o) e (
      average_size A B G n o.b200 o.b110 o.b101 e (h.0, (h.1.0, (h.1.1.0, tt))),
      (
        average_size A B G n o.b110 o.b020 o.b011 e (h.1.0, (h.1.1.1.0, (h.1.1.1.1.0, tt))),
        (
          average_size A B G n o.b101 o.b011 o.b002 e (h.1.1.0, (h.1.1.1.1.0, (h.1.1.1.1.1.0, tt))),
          tt,
        ),
      ),
    )

-- ---- the fixed factors

-- where all nine values are variable 3
abbrev point_e : Bool → ℕ → Expr
point_e ahead i = get_or (six_e ahead (var 3) (var 3) (var 3) (var 3) (var 3) (var 3) (var 3) (var 3)) i (var 3)

abbrev first_e : Bool → Expr
first_e ahead = average_e (point_e ahead 0) (point_e ahead 1) (point_e ahead 2)

abbrev second_e : Bool → Expr
second_e ahead = average_e (point_e ahead 1) (point_e ahead 3) (point_e ahead 4)

abbrev third_e : Bool → Expr
third_e ahead = average_e (point_e ahead 2) (point_e ahead 4) (point_e ahead 5)

abbrev whole_e : Expr
whole_e = var 0 ⊕ var 1 ⊕ var 2

pub averages_factor : AveragesFactor
averages_factor A B G ahead x e = go ahead
  where
    ρ : List ℤ
    ρ = pos A ∷ pos B ∷ pos G ∷ x ∷ []

    once : value ρ (lit (pos 36) ⊗ whole_e ⊗ var 3) ≡ pos (36 * 1024) *ℤ x
    once = λ t. pos 36 *ℤ pos (e t) *ℤ x

    twice : value ρ (lit (pos 36) ⊗ (whole_e ⊗ whole_e) ⊗ var 3) ≡ pos (36 * (1024 * 1024)) *ℤ x
    twice = λ t. pos 36 *ℤ (pos (e t) *ℤ pos (e t)) *ℤ x

    go : (ahead : Bool) →
        (let c : Corner = record { k = x; n = x; m = x } in
        let o = ordinates ahead c c c in
        (first_average A B G o ≡ pos (36 * 1024) *ℤ x)
        × (second_average A B G o ≡ pos (36 * 1024) *ℤ x)
        × (third_average A B G o ≡ pos (36 * 1024) *ℤ x)
        × (last_average A B G o ≡ pos (36 * (1024 * 1024)) *ℤ x))
    go true = (
      identity (first_e true) (lit (pos 36) ⊗ whole_e ⊗ var 3) ρ refl ∙ once,
      identity (second_e true) (lit (pos 36) ⊗ whole_e ⊗ var 3) ρ refl ∙ once,
      identity (third_e true) (lit (pos 36) ⊗ whole_e ⊗ var 3) ρ refl ∙ once,
      identity (average_e (first_e true) (second_e true) (third_e true)) (lit (pos 36) ⊗ (whole_e ⊗ whole_e) ⊗ var 3) ρ refl
          ∙ twice,
    )
    go false = (
      identity (first_e false) (lit (pos 36) ⊗ whole_e ⊗ var 3) ρ refl ∙ once,
      identity (second_e false) (lit (pos 36) ⊗ whole_e ⊗ var 3) ρ refl ∙ once,
      identity (third_e false) (lit (pos 36) ⊗ whole_e ⊗ var 3) ρ refl ∙ once,
      identity (average_e (first_e false) (second_e false) (third_e false)) (lit (pos 36) ⊗ (whole_e ⊗ whole_e) ⊗ var 3) ρ refl
          ∙ twice,
    )

-- ---- what the code holds of three points and of their average

-- a number out of its bits
abbrev pub held : ℤ → ℤ
held z = to_z w64 (of_z w64 z)

held_is : (z : ℤ) → nat_abs z ≤ 2 ^ 48 → held z ≡ z
held_is z h = to_z-of_z {w = w64} (fits_of_size {w = w64} h tt)

pub held_within : (x y z : ℤ) → Within (2 ^ 48) (x ∷ y ∷ z ∷ []) → Within (2 ^ 48) (held x ∷ held y ∷ held z ∷ [])
held_within x y z h =
    subst (Within (2 ^ 48))
    (λ t. sym (held_is x h.0) t ∷ sym (held_is y h.1.0) t ∷ sym (held_is z h.1.1.0) t ∷ []) h

pub held_average : (A B G : ℕ) (r x y z : ℤ) → Within (2 ^ 48) (x ∷ y ∷ z ∷ []) → mag r < 2 ^ 63 →
    r ≡ average A B G (held x) (held y) (held z) → held r ≡ average A B G x y z
held_average A B G r x y z h f e =
    reads_as w64 r f
    (e ∙ (λ t. average A B G (held_is x h.0 t) (held_is y h.1.0 t) (held_is z h.1.1.0 t)))

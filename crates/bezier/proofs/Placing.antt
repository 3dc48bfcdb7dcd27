-- The 57 numbers are stored one coordinate after the other, number n of coordinate x at place 3n + x.
use mathlib.Core.Path.{◌≡◌, refl, sym, ap, ◌∙◌}
use mathlib.Core.Logic.{◌≢◌}
use mathlib.Core.List.{List}
use Prim.Native.Nat.{ℕ, zero, suc, ◌+◌, ◌*◌, ◌≤◌, ◌<◌}
use native.Mathlib.Numerals.{add-one}
use native.Mathlib.Omega.{arith}
use lib.IntN.{ℤ, pos}
use lib.ListN.{length, get_or, set}
use lib.Seq.{set_comm}
use Rattle.exact.specs.Filling.{over, runs}
use Rattle.exact.proofs.FillingLaws.{over_none, over_more}
use Rattle.bezier.specs.Weights.{placed, three_at}

-- what a loop keeps: at first nothing is stored, and then one number more
pub placed_none : (x : ℕ) (numbers out : List ℤ) → out ≡ placed 0 x numbers out
unfolding placed
placed_none x numbers out = refl

pub placed_more : (n x : ℕ) (numbers out : List ℤ) →
    set (placed n x numbers out) (3 * n + x) (get_or numbers n (pos 0)) ≡ placed (n + 1) x numbers out
unfolding placed
placed_more n x numbers out = ap (λ (k : ℕ). placed k x numbers out) (sym (add-one n))

-- a number that is stored elsewhere may be stored first
placed_apart : (n x : ℕ) (numbers out : List ℤ) (at : ℕ) (z : ℤ) → ((i : ℕ) → i < n → 3 * i + x ≢ at) →
    placed n x numbers (set out at z) ≡ set (placed n x numbers out) at z
unfolding placed
placed_apart zero x numbers out at z h = refl
placed_apart (suc n) x numbers out at z h =
    ap (λ (l : List ℤ). set l (3 * n + x) (get_or numbers n (pos 0)))
    (placed_apart n x numbers out at z (λ i k. h i (omega arith)))
    ∙ set_comm (placed n x numbers out) at (3 * n + x) z (get_or numbers n (pos 0)) (λ e. h n (omega arith) (sym e))

-- the three coordinates of n points lie over the front as n runs of three numbers
placed_points : (xs ys zs out : List ℤ) (n : ℕ) → n * 3 ≤ length out →
    placed n 2 zs (placed n 1 ys (placed n 0 xs out)) ≡ over (runs n (three_at xs ys zs)) out
unfolding placed
placed_points xs ys zs out zero h = over_none out (three_at xs ys zs)
placed_points xs ys zs out (suc n) h =
    let x = get_or xs n (pos 0) in
    let y = get_or ys n (pos 0) in
    let z = get_or zs n (pos 0) in
    let before = placed n 0 xs out in
    let first : placed n 1 ys (set before (3 * n + 0) x) ≡ set (placed n 1 ys before) (3 * n + 0) x =
    placed_apart n 1 ys before (3 * n + 0) x (λ i k e. omega arith) in
    let both : placed n 2 zs (set (set (placed n 1 ys before) (3 * n + 0) x) (3 * n + 1) y)
    ≡ set (set (placed n 2 zs (placed n 1 ys before)) (3 * n + 0) x) (3 * n + 1) y =
    placed_apart n 2 zs (set (placed n 1 ys before) (3 * n + 0) x) (3 * n + 1) y (λ i k e. omega arith)
    ∙ ap (λ (l : List ℤ). set l (3 * n + 1) y)
    (placed_apart n 2 zs (placed n 1 ys before) (3 * n + 0) x (λ i k e. omega arith)) in
    let place : 3 * n + 0 ≡ n * 3 = omega arith in
    let place₁ : 3 * n + 1 ≡ suc (n * 3) = omega arith in
    let place₂ : 3 * n + 2 ≡ suc (suc (n * 3)) = omega arith in
    ap (λ (l : List ℤ). set (placed n 2 zs (set l (3 * n + 1) y)) (3 * n + 2) z) first
    ∙ ap (λ (l : List ℤ). set l (3 * n + 2) z) both
    ∙ (λ i. set (set (set (placed_points xs ys zs out n (omega arith) i) (place i) x) (place₁ i) y) (place₂ i) z)
    ∙ over_more out n 3 (three_at xs ys zs) (λ i k. refl) (omega arith)
    ∙ ap (λ (k : ℕ). over (runs k (three_at xs ys zs)) out) (add-one n)

-- the coordinates one after the other
pub passes : ℕ → (ℕ → List ℤ) → List ℤ → List ℤ
passes zero f out = out
passes (suc x) f out = placed 19 x (f x) (passes x f out)

pub passes_none : (f : ℕ → List ℤ) (out : List ℤ) → out ≡ passes 0 f out
unfolding passes
passes_none f out = refl

pub passes_more : (x : ℕ) (f : ℕ → List ℤ) (out : List ℤ) → placed 19 x (f x) (passes x f out) ≡ passes (x + 1) f out
unfolding passes
passes_more x f out = ap (λ (k : ℕ). passes k f out) (sym (add-one x))

-- all three
pub passes_points : (f : ℕ → List ℤ) (out : List ℤ) → 57 ≤ length out →
    passes 3 f out ≡ over (runs 19 (three_at (f 0) (f 1) (f 2))) out
unfolding passes
passes_points f out h = placed_points (f 0) (f 1) (f 2) out 19 h

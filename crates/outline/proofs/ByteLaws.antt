-- How many triangles a net has, and the test of its bytes.
use mathlib.Core.Path.{◌≡◌, refl, sym, ap, ◌∙◌}
use mathlib.Core.Bool.{Bool, true, false, ◌||◌}
use mathlib.Core.List.{List, [], ◌∷◌}
use Prim.Native.Nat.{ℕ, zero, suc, ◌+◌, ◌-◌, ◌*◌, ◌≤◌, ◌<◌}
use native.Mathlib.Nat.{mul-le-mul}
use native.Mathlib.Numerals.{unary_clauses}
use native.Mathlib.Omega.{arith}
use lib.Dec.{ltb}
use lib.ListN.{length, get_or, drop}
use lib.Seq.{drop-cons}
use borrow.Author.Tests.{ltb-false, le-ltb}
use Rattle.net.proofs.Faults.{or_no, or_none}
use Rattle.net.proofs.Places.{GoodSize}
use Rattle.outline.specs.Refusals.{any_above_one}

pub few_cells : {w h : ℕ} → GoodSize w h → (w - 1) * (h - 1) ≤ 1048576
few_cells {w} {h} s =
    let a : w - 1 ≤ 1024 = omega (arith, s.narrow) in
    let b : h - 1 ≤ 1024 = omega (arith, s.low) in
    mul-le-mul a b

-- the bytes from place i on: the one at i, and those after it
any_from : (l : List ℕ) (i : ℕ) → i < length l →
    any_above_one (drop i l) ≡ (ltb 1 (get_or l i 0) || any_above_one (drop (i + 1) l))
any_from l i h = simp unary_clauses (ap any_above_one (drop-cons l i 0 h))

-- one byte more is tested
pub tested_more : (l : List ℕ) (i : ℕ) (bad : Bool) {all : Bool} → i < length l →
    (bad || any_above_one (drop i l)) ≡ all →
    ((bad || ltb 1 (get_or l i 0)) || any_above_one (drop (i + 1) l)) ≡ all
tested_more l i true h e = e
tested_more l i false h e = sym (any_from l i h) ∙ e

-- no byte is above 1
pub none_above : (l : List ℕ) → any_above_one l ≡ false → (n : ℕ) → n < length l → get_or l n 0 ≤ 1
none_above [] e n a = absurd (omega (arith, a))
none_above (b ∷ l) e zero a = ltb-false 1 b (or_none (ltb 1 b) (any_above_one l) e).0
none_above (b ∷ l) e (suc n) a = none_above l (or_none (ltb 1 b) (any_above_one l) e).1 n (omega (arith, a))

pub above_none : (l : List ℕ) → ((n : ℕ) → n < length l → get_or l n 0 ≤ 1) → any_above_one l ≡ false
above_none [] f = refl
above_none (b ∷ l) f =
    sym (or_no (ltb 1 b) (any_above_one l) (le-ltb 1 b (f 0 (omega arith)))
    (sym (above_none l (λ n a. f (suc n) (omega (arith, a))))))

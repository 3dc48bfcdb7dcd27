-- `exact::filling::copy_over` meets its contract: each iteration stores one run of one number more (`over_more`),
-- and the runs of a list's numbers are the list.
use mathlib.Core.Path.{◌≡◌, refl, sym, ◌∙◌, ap}
use mathlib.Core.List.{List}
use Prim.Native.Nat.{ℕ}
use native.Mathlib.Nat.{mul-one, le_refl}
use native.Mathlib.Omega.{arith}
use lib.ListN.{length, get_or, set}
use lib.Seq.{sets, take-length}
use lib.IntN.{ℤ, pos}
use mir.Facts.{to_z-of_z}
use mir.Syntax.{w32}
use borrow.Author.Rules.{sfits_of}
use Rattle.exact.specs.Filling.{over, runs}
use Rattle.exact.proofs.FillingLaws.{over_none, over_more, runs_of_list}
use Rattle.exact.proofs.filling.copy_over.Invariants.{single}
use Rattle.exact.proofs.filling.copy_over.Goals as goal

pub loop-i-init : goal.loop-i-init
loop-i-init c = over_none _ _

pub loop-i-preserved : goal.loop-i-preserved
loop-i-preserved c =
    let numbers = c.args.numbers.now in
    let old = c.args.out.now in
    let i = c.loop-i.i in
    rw (to_z-of_z {w = w32} (sfits_of c.z-1.given))
    (ap (λ (l : List ℤ). set l i (get_or numbers i (pos 0))) c.loop-i.invariant
    ∙ ap (λ (at : ℕ). sets (over (runs i (single numbers)) old) at (single numbers i)) (sym (mul-one i))
    ∙ over_more old i 1 (single numbers) (λ k h. refl) (omega arith))

pub returns : goal.returns
returns c =
    let numbers = c.args.numbers.now in
    let old = c.args.out.now in
    let all : c.loop-i.i ≡ length numbers = omega arith in
    c.loop-i.invariant
    ∙ ap (λ (n : ℕ). over (runs n (single numbers)) old) all
    ∙ ap (λ (l : List ℤ). over l old)
    (runs_of_list (pos 0) numbers (length numbers) (le_refl (length numbers)) ∙ take-length numbers)

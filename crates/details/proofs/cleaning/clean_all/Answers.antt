-- `details::cleaning::clean_all` meets its contract: the details so far are cleaned, the others are as they were.
use mathlib.Core.Path.{◌≡◌, refl, sym, ap, ◌∙◌}
use mathlib.Core.List.{List, [], ◌∷◌, ◌++◌, map, append-nil}
use Prim.Native.Nat.{ℕ, zero, suc, ◌<◌, ◌≤◌}
use native.Mathlib.Nat.{le_of_suc-le-suc, not-suc-le-zero}
use native.Mathlib.Numerals.{add-one}
use native.Mathlib.Omega.{arith}
use lib.ListN.{length, set, take, length-map, drop_of_length-le}
use lib.Seq.{take_all}
use lib.IntN.{ℤ}
use mir.Syntax.{w32}
use borrow.Author.Rules.{rules}
use Rattle.exact.specs.Filling.{over}
use Rattle.exact.proofs.SignedCode.{reads_back, reads_as}
use Rattle.net.specs.Net.{number}
use Rattle.details.specs.Cleaning.{cleaned}
use Rattle.details.proofs.cleaning.clean_all.Goals as goal

-- where the numbers before i are changed by f, the one at i is still the old one, and storing it changed is one more
module _ (f : ℤ → ℤ) where
  next_old : (l : List ℤ) (i : ℕ) → i < length l → number (over (map f (take i l)) l) i ≡ number l i
  unfolding over
  next_old [] i h = absurd (not-suc-le-zero h)
  next_old (z ∷ l) zero h = refl
  next_old (z ∷ l) (suc i) h = next_old l i (le_of_suc-le-suc h)

  one_more : (l : List ℤ) (i : ℕ) → i < length l →
      set (over (map f (take i l)) l) i (f (number l i)) ≡ over (map f (take (suc i) l)) l
  unfolding over
  one_more [] i h = absurd (not-suc-le-zero h)
  one_more (z ∷ l) zero h = refl
  one_more (z ∷ l) (suc i) h = ap (λ (m : List ℤ). f z ∷ m) (one_more l i (le_of_suc-le-suc h))

pub loop-z-init : goal.loop-z-init
unfolding over
loop-z-init c = refl

pub loop-z-preserved : goal.loop-z-preserved
loop-z-preserved c =
    let at = c.loop-z in
    let old = c.args.details.now in
    let f = cleaned c.args.t in
    let i = at.z-index in
    let here : i < length old = omega arith in
    let read = reads_back w32 (number at.z-items i) (search rules)
    ∙ ap (λ (l : List ℤ). number l i) at.invariant ∙ next_old f old i here in
    let stored = reads_as w32 c.cleaned_number.result c.cleaned_number.type_inv (c.cleaned_number.ensures ∙ ap f read) in
    (λ u. set (at.invariant u) i (stored u)) ∙ one_more f old i here
    ∙ ap (λ (k : ℕ). over (map f (take k old)) old) (sym (add-one i))

-- a list as long as another leaves nothing of it
over_all : (new old : List ℤ) → length old ≤ length new → over new old ≡ new
unfolding over
over_all new old h = ap (λ (l : List ℤ). new ++ l) (drop_of_length-le old h) ∙ append-nil new

pub returns : goal.returns
returns c =
    let at = c.loop-z in
    let old = c.args.details.now in
    let f = cleaned c.args.t in
    at.invariant
    ∙ ap (λ (l : List ℤ). over (map f l) old) (take_all at.z-index old (omega arith))
    ∙ over_all (map f old) old (omega (arith, length-map old f))

-- `exact::filling::copy_over` meets its contract: each iteration stores one run of one number more (`over_more`),
-- and the runs of a list's numbers are the list.
use mathlib.Core.Path.{◌≡◌}
use mathlib.Core.List.{List, [], ◌∷◌}
use Prim.Native.Nat.{ℕ}
use lib.ListN.{get_or}
use lib.IntN.{ℤ, pos}
use Rattle.exact.specs.Filling.{over, runs}
use Rattle.exact.proofs.filling.copy_over.Given as goal

-- the number at i, as a run
abbrev pub single : List ℤ → ℕ → List ℤ
single numbers i = get_or numbers i (pos 0) ∷ []

abbrev pub invariant-loop-i : goal.invariant-loop-i
invariant-loop-i l =
    l.out ≡ over (runs l.i (single l.numbers)) l.initial.out

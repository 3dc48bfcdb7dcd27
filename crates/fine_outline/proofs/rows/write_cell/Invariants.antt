-- `fine_outline::rows::write_cell` meets its contract: each iteration stores one byte more.
use mathlib.Core.Path.{◌≡◌}
use mathlib.Core.Bool.{cond}
use mathlib.Core.List.{List, [], ◌∷◌}
use Prim.Native.Nat.{ℕ, ◌+◌, ◌/◌, ◌%◌}
use lib.Dec.{leb}
use lib.Seq.{sets}
use Rattle.exact.specs.Filling.{runs}
use Rattle.fine_outline.proofs.rows.write_cell.Given as goal

-- the byte of place n
abbrev pub byte_at : ℕ → ℕ → ℕ → ℕ → ℕ → List ℕ
byte_at up down s g n = cond (leb s (n / 2 + g + n % 2)) down up ∷ []

abbrev pub invariant-loop-n : goal.invariant-loop-n
invariant-loop-n l = l.fine ≡ sets l.initial.fine l.at (runs l.n (byte_at l.up l.down l.s l.g))

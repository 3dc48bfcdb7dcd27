-- `bezier::bezier::join_terms` meets its contract.
use mathlib.Core.List.{List, [], ◌∷◌}
use lib.IntN.{pos}
use mir.Syntax.{w32}
use Rattle.exact.proofs.Expressions.{var, lit, ◌⊕◌, ◌⊗◌}
use Rattle.exact.proofs.SignedCode.{Leaf, reads_back, reads_exact}
use Rattle.bezier.proofs.Weights.{held_terms}
use Rattle.bezier.proofs.bezier.join_terms.Goals as goal
use Rattle.bezier.proofs.bezier.join_terms.Goals.{After-struct_told-9-1, Start}

-- where the terms are read
abbrev start : After-struct_told-9-1 → Start
start c = (goal.at.After-struct_told-9-1 c).Start

-- `ahead` of the three corners, then `back`, then `v`
abbrev leaves : After-struct_told-9-1 → List (Leaf w32)
leaves c = let s = start c in held_terms s.args.p s.args.q s.args.t s.requires

pub returns : goal.returns
returns c =
    let at = (goal.at.returns c).After-struct_told-9-1 in
    let a = (start at).args in
    let L = leaves at in
    λ t.
    reads_back w32 a.p.s c.struct_told-10-1.given.0.1 t
    ∷ reads_back w32 a.q.s c.struct_told-11-1.given.0.1 t
    ∷ reads_back w32 a.t.s c.struct_told-12-1.given.0.1 t
    ∷ reads_exact L (lit (pos 2) ⊗ var 0) tt t
    ∷ reads_exact L (lit (pos 2) ⊗ var 3) tt t
    ∷ reads_exact L (lit (pos 2) ⊗ var 4) tt t
    ∷ reads_exact L (lit (pos 2) ⊗ var 1) tt t
    ∷ reads_exact L (lit (pos 2) ⊗ var 2) tt t
    ∷ reads_exact L (lit (pos 2) ⊗ var 5) tt t
    ∷ reads_exact L (lit (pos 12) ⊗ var 6) tt t
    ∷ reads_exact L (lit (pos 12) ⊗ var 7) tt t
    ∷ reads_exact L (lit (pos 12) ⊗ var 8) tt t
    ∷ reads_exact L (var 0 ⊕ var 4) tt t
    ∷ reads_exact L (var 3 ⊕ var 2) tt t
    ∷ reads_exact L (var 1 ⊕ var 5) tt t
    ∷ reads_exact L (lit (pos 6) ⊗ (var 6 ⊕ var 7)) tt t
    ∷ reads_exact L (lit (pos 6) ⊗ (var 6 ⊕ var 8)) tt t
    ∷ reads_exact L (lit (pos 6) ⊗ (var 7 ⊕ var 8)) tt t
    ∷ reads_exact L (lit (pos 4) ⊗ (var 6 ⊕ var 7 ⊕ var 8)) tt t
    ∷ []

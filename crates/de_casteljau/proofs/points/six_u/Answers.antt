-- `de_casteljau::points::six_u` meets its contract.
use mathlib.Core.List.{List}
use mathlib.Core.Bool.{Bool, true}
use mathlib.Core.Path.{sym, ap, ◌∙◌}
use mir.Syntax.{w64}
use Rattle.exact.proofs.Expressions.{var}
use Rattle.exact.proofs.SignedCode.{Leaf, reads_exact}
use Rattle.de_casteljau.specs.Ordinates.{corner_u}
use Rattle.de_casteljau.proofs.SmallTriangles.{held_corner, u_e}
use Rattle.de_casteljau.proofs.points.six_u.Goals as goal
use Rattle.de_casteljau.proofs.points.six_u.Goals.{After-struct_told-4-1, Start}

abbrev leaves : Start → List (Leaf w64)
leaves c = held_corner c.args.c c.requires

-- where every field is read
abbrev read : After-struct_told-4-1 → Start
read c = (goal.at.After-struct_told-4-1 c).Start

pub returns-then-ahead : goal.returns-then-ahead
returns-then-ahead c =
    reads_exact (leaves (read (goal.at.returns-then-ahead c).After-struct_told-4-1)) (u_e true (var 0) (var 1) (var 2)) tt
    ∙ ap (λ (b : Bool). corner_u b (read (goal.at.returns-then-ahead c).After-struct_told-4-1).args.c) (sym c.if-ahead.true)

-- `de_casteljau::averages::weigh` meets its contract: A, B and G are at most 1,024, so the sum is exact.
use mathlib.Core.List.{List, [], ◌∷◌}
use native.Mathlib.Omega.{arith}
use mir.Syntax.{w64}
use Rattle.exact.proofs.Expressions.{var, ◌⊕◌, ◌⊗◌, plus}
use Rattle.exact.proofs.SignedCode.{Leaf, of_number, of_unsigned, reads_exact, operation_fits}
use Rattle.de_casteljau.proofs.averages.weigh.Goals as goal
use Rattle.de_casteljau.proofs.averages.weigh.Goals.{Start}

abbrev leaves : Start → List (Leaf w64)
leaves c =
    of_unsigned {n = 1024} c.args.a (omega (arith, c.requires.0)) tt
    ∷ of_unsigned {n = 1024} c.args.b (omega (arith, c.requires.0)) tt
    ∷ of_unsigned {n = 1024} c.args.g (omega (arith, c.requires.0)) tt
    ∷ of_number c.args.x c.ranges.x c.requires.1.0
    ∷ of_number c.args.y c.ranges.y c.requires.1.1.0
    ∷ of_number c.args.z c.ranges.z c.requires.1.1.1.0
    ∷ []

pub overflow_add-result : goal.overflow_add-result
overflow_add-result c = operation_fits (leaves c) plus (var 0 ⊗ var 3) (var 1 ⊗ var 4) tt

pub overflow_add-result-2 : goal.overflow_add-result-2
overflow_add-result-2 c = operation_fits (leaves c) plus (var 0 ⊗ var 3 ⊕ var 1 ⊗ var 4) (var 2 ⊗ var 5) tt

pub returns : goal.returns
returns c = reads_exact (leaves c) (var 0 ⊗ var 3 ⊕ var 1 ⊗ var 4 ⊕ var 2 ⊗ var 5) tt

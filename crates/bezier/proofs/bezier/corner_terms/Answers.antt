-- `bezier::bezier::corner_terms` meets its contract.
use mathlib.Core.List.{List}
use lib.IntN.{pos}
use mir.Syntax.{w32}
use Rattle.exact.proofs.Expressions.{var, lit, ◌⊕◌, ◌⊗◌, plus, times}
use Rattle.exact.proofs.SignedCode.{Leaf, reads_exact, operation_fits}
use Rattle.bezier.proofs.Weights.{held_corner, s_e, ahead_e, back_e, v_e}
use Rattle.bezier.proofs.bezier.corner_terms.Goals as goal
use Rattle.bezier.proofs.bezier.corner_terms.Goals.{After-m-1}

-- the three values that were read
abbrev leaves : After-m-1 → List (Leaf w32)
leaves c = let start = c in held_corner start.args.values start.requires.0 start.args.at

pub overflow_add-s : goal.overflow_add-s
overflow_add-s c = operation_fits (leaves c) plus (var 0) (var 1) tt

pub overflow_add-s-2 : goal.overflow_add-s-2
overflow_add-s-2 c = operation_fits (leaves c) plus (var 0 ⊕ var 1) (var 2) tt

pub overflow_mul-s : goal.overflow_mul-s
overflow_mul-s c = operation_fits (leaves c) times (lit (pos 12)) (var 0 ⊕ var 1 ⊕ var 2) tt

pub overflow_mul-ahead : goal.overflow_mul-ahead
overflow_mul-ahead c = operation_fits (leaves c) times (lit (pos 4)) (var 0) tt

pub overflow_add-ahead : goal.overflow_add-ahead
overflow_add-ahead c = operation_fits (leaves c) plus (lit (pos 4) ⊗ var 0) (var 1) tt

pub overflow_add-ahead-2 : goal.overflow_add-ahead-2
overflow_add-ahead-2 c = operation_fits (leaves c) plus (lit (pos 4) ⊗ var 0 ⊕ var 1) (var 2) tt

pub overflow_mul-ahead-2 : goal.overflow_mul-ahead-2
overflow_mul-ahead-2 c = operation_fits (leaves c) times (lit (pos 3)) (lit (pos 4) ⊗ var 0 ⊕ var 1 ⊕ var 2) tt

pub overflow_add-back : goal.overflow_add-back
overflow_add-back c = operation_fits (leaves c) plus (var 0) (var 1) tt

pub overflow_mul-back : goal.overflow_mul-back
overflow_mul-back c = operation_fits (leaves c) times (lit (pos 9)) (var 0 ⊕ var 1) tt

pub overflow_mul-v : goal.overflow_mul-v
overflow_mul-v c = operation_fits (leaves c) times (lit (pos 2)) (var 0) tt

pub overflow_add-v : goal.overflow_add-v
overflow_add-v c = operation_fits (leaves c) plus (lit (pos 2) ⊗ var 0) (var 1) tt

pub returns : goal.returns
returns c = λ t.
    record {
      s = reads_exact (leaves c) (s_e (var 0) (var 1) (var 2)) tt t;
      ahead = reads_exact (leaves c) (ahead_e (var 0) (var 1) (var 2)) tt t;
      back = reads_exact (leaves c) (back_e (var 0) (var 1)) tt t;
      v = reads_exact (leaves c) (v_e (var 0) (var 1)) tt t;
    }

-- `de_casteljau::points::ordinates_of` meets its contract.
use mathlib.Core.List.{List, [], ◌∷◌}
use mathlib.Core.Bool.{not}
use Prim.Native.Nat.{◌^◌}
use lib.IntN.{pos}
use mir.Syntax.{w64}
use mir.Val.{of_z}
use Rattle.exact.proofs.Expressions.{var, lit, ◌⊕◌, plus, times}
use Rattle.exact.proofs.SignedCode.{Leaf, of_bits, reads_as, reads_exact, operation_fits}
use Rattle.de_casteljau.proofs.SmallTriangles.{s_size, u_size, v_size, b200, b110, b101, b020, b011, b002}
use Rattle.de_casteljau.proofs.points.ordinates_of.Goals as goal
use Rattle.de_casteljau.proofs.points.ordinates_of.Goals.{After-three_v-v_t}

-- what the six calls gave
abbrev leaves : After-three_v-v_t → List (Leaf w64)
leaves c =
    let start = c in
    let n = 2 ^ 32 in
    let s = c.three_s-s in
    let u = c.six_u-u in
    let u_back = c.six_u-u_back in
    let v = c.three_v-v in
    let v_q = c.three_v-v_q in
    let v_t = c.three_v-v_t in
    of_bits (of_z w64 s.result) (reads_as w64 s.result s.type_inv s.ensures) (s_size n start.args.p start.requires.0)
    ∷ of_bits (of_z w64 u.result) (reads_as w64 u.result u.type_inv u.ensures)
    (u_size n start.args.ahead start.args.p start.requires.0)
    ∷ of_bits (of_z w64 v.result) (reads_as w64 v.result v.type_inv v.ensures) (v_size n start.args.p start.requires.0)
    ∷ of_bits (of_z w64 u_back.result) (reads_as w64 u_back.result u_back.type_inv u_back.ensures)
    (u_size n (not start.args.ahead) start.args.q start.requires.1)
    ∷ of_bits (of_z w64 v_q.result) (reads_as w64 v_q.result v_q.type_inv v_q.ensures)
    (v_size n start.args.q start.requires.1)
    ∷ of_bits (of_z w64 v_t.result) (reads_as w64 v_t.result v_t.type_inv v_t.ensures)
    (v_size n start.args.t start.requires.2)
    ∷ []

pub overflow_mul-b110 : goal.overflow_mul-b110
overflow_mul-b110 c = operation_fits (leaves c) times (lit (pos 6)) (var 1) tt

pub overflow_add-b020 : goal.overflow_add-b020
overflow_add-b020 c = operation_fits (leaves c) plus (var 1) (var 3) tt

pub overflow_mul-b020 : goal.overflow_mul-b020
overflow_mul-b020 c = operation_fits (leaves c) times (lit (pos 3)) (var 1 ⊕ var 3) tt

pub overflow_mul-b011 : goal.overflow_mul-b011
overflow_mul-b011 c = operation_fits (leaves c) times (lit (pos 6)) (var 2 ⊕ var 4) tt

pub overflow_add-b002-2 : goal.overflow_add-b002-2
overflow_add-b002-2 c = operation_fits (leaves c) plus (var 2 ⊕ var 4) (var 5) tt

pub overflow_mul-b002 : goal.overflow_mul-b002
overflow_mul-b002 c = operation_fits (leaves c) times (lit (pos 4)) (var 2 ⊕ var 4 ⊕ var 5) tt

pub returns : goal.returns
returns c = λ t.
    record {
      b200 = reads_exact (leaves c) b200 tt t;
      b110 = reads_exact (leaves c) b110 tt t;
      b101 = reads_exact (leaves c) b101 tt t;
      b020 = reads_exact (leaves c) b020 tt t;
      b011 = reads_exact (leaves c) b011 tt t;
      b002 = reads_exact (leaves c) b002 tt t;
    }

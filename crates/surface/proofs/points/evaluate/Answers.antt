-- `surface::points::evaluate` meets its contract: each iteration stores one coordinate more.
use mathlib.Core.Path.{◌≡◌, refl, sym, ◌∙◌, ap}
use mathlib.Core.List.{List, [], ◌∷◌}
use Prim.Native.Nat.{ℕ}
use native.Mathlib.Nat.{mul-one}
use native.Mathlib.Omega.{arith}
use lib.IntN.{ℤ, pos}
use lib.ListN.{get_or, set}
use lib.Seq.{sets}
use mir.Syntax.{w32}
use borrow.Author.Rules.{rules}
use Rattle.exact.specs.Filling.{over, runs}
use Rattle.exact.proofs.FillingLaws.{over_none, over_more}
use Rattle.exact.proofs.SignedCode.{reads_as}
use Rattle.surface.proofs.points.evaluate.Invariants.{single}
use Rattle.surface.proofs.points.evaluate.Goals as goal

pub loop-i-init : goal.loop-i-init
loop-i-init c = over_none _ _

pub loop-i-preserved : goal.loop-i-preserved
loop-i-preserved c =
    let s = c.args in
    let i = c.loop-i.i in
    let f = single s.ahead s.a s.b s.g s.c in
    let zeros = pos 0 ∷ pos 0 ∷ pos 0 ∷ [] in
    (λ t. set (c.loop-i.invariant t) i
    (reads_as w32 c.coordinate_at.result c.coordinate_at.type_inv c.coordinate_at.ensures t))
    ∙ ap (λ (at : ℕ). sets (over (runs i f) zeros) at (f i)) (sym (mul-one i))
    ∙ over_more zeros i 1 f (λ k h. refl) (omega arith)

pub returns : goal.returns
unfolding over runs
returns c =
    let l = c in
    let s = l.args in
    let f = single s.ahead s.a s.b s.g s.c in
    let last : l.loop-i.i ≡ 3 = search rules in
    let all : l.loop-i.value-items ≡ over (runs 3 f) (pos 0 ∷ pos 0 ∷ pos 0 ∷ []) =
    l.loop-i.invariant ∙ ap (λ (n : ℕ). over (runs n f) (pos 0 ∷ pos 0 ∷ pos 0 ∷ [])) last in record {
      x_value = reads_as w32 (get_or l.loop-i.value-items 0 (pos 0)) c.x-1.given (ap (λ (p : List ℤ). get_or p 0 (pos 0)) all);
      y_value = reads_as w32 (get_or l.loop-i.value-items 1 (pos 0)) c.y-1.given (ap (λ (p : List ℤ). get_or p 1 (pos 0)) all);
      z_value = reads_as w32 (get_or l.loop-i.value-items 2 (pos 0)) c.z-1.given (ap (λ (p : List ℤ). get_or p 2 (pos 0)) all);
    }

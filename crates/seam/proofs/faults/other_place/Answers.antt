-- `seam::faults::other_place` meets its contract: no shift loses anything.
use mathlib.Core.Path.{sym, ap, ◌∙◌}
use mathlib.Core.Bool.{not}
use Prim.Native.Nat.{◌*◌, ◌^◌}
use lib.Dec.{eqb}
use borrow.Author.Tests.{eq-eqb}
use Rattle.net.proofs.Faults.{or_no}
use Rattle.seam.proofs.RefusalLaws.{shifted}
use Rattle.seam.proofs.faults.other_place.Goals as goal

pub returns : goal.returns
returns c =
    let s = c in
    let a = s.args in
    or_no (not (eqb (a.p * 2 ^ a.l) (a.p2 * 2 ^ a.k))) _
    (ap not (eq-eqb (a.p * 2 ^ a.l) (a.p2 * 2 ^ a.k)
    (sym (shifted a.l a.p s.requires.1 s.requires.2) ∙ c.if-p-l.false ∙ shifted a.k a.p2 s.requires.0 s.requires.4)))
    (λ t. not (eqb (shifted a.l a.q s.requires.1 s.requires.3 t) (shifted a.k a.q2 s.requires.0 s.requires.5 t)))

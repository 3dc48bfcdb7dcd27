-- `ups::ups_seam_points` meets its contract.
use mathlib.Core.Path.{subst}
use mathlib.Core.List.{List, [], ◌∷◌}
use Prim.Native.Nat.{ℕ}
use lib.IntN.{ℤ}
use Rattle.seam.specs.Answers.{seam_outcome}
use Rattle.ups.proofs.Exports.{Outcome, seam_accepted}
use Rattle.ups.proofs.ups_seam_points.Goals as goal
use Rattle.ups.proofs.ups_seam_points.Goals.{After-seam_points_with, In-Ok, Start}

-- what the call ensures of an outcome, from where it was called
module _ (c : After-seam_points_with) where
  abbrev start : Start
  start = (goal.at.After-seam_points_with c).Start

  -- the slices after it
  abbrev left : List ℤ × List ℤ × List ℤ × List ℤ
  left =
      let l = c.seam_points_with.new in
      (l.out, l.scratch, l.out2, l.scratch2)

  abbrev Of : ℕ × List ℤ → Type 0
  Of =
      let a = start.args in
      Outcome a.net.now a.w a.h a.k a.l a.p a.q a.p2 a.q2 a.out.now a.scratch.now
      a.out2.now a.scratch2.now a.points.now left.0 left.1 left.2 left.3

-- an answer with points
module _ (c : In-Ok) where
  abbrev call : After-seam_points_with
  call = (goal.at.In-Ok c).After-seam_points_with

  abbrev six : List ℤ
  six =
      let a = c.in-Ok.a in
      let b = c.in-Ok.b in
      a.x ∷ a.y ∷ a.z ∷ b.x ∷ b.y ∷ b.z ∷ []

  given : Of call (0, six)
  given = let e = c.in-Ok.ensures in (e.result_value, (e.seam_left, e.seam_holds))

pub returns-in-Ok : goal.returns-in-Ok
returns-in-Ok c =
    let p = (let at = (goal.at.returns-in-Ok c).In-Ok in
    let a = (start (call at)).args in
    let l = left (call at) in
    seam_accepted a.net.now a.w a.h a.k a.l a.p a.q a.p2 a.q2 a.out.now a.scratch.now
    a.out2.now a.scratch2.now a.points.now l.0 l.1 l.2 l.3 (given at)
    c.store_points.ensures) in record { value = p.0; seam_left = p.1.0; points_after = p.1.1.0; seam_holds = p.1.1.1 }

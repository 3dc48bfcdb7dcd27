-- `seam::points::seam_points_with` meets its contract: past 1, 4 and 6 the second point decides what is refused, and
-- then the first is answered too.
use mathlib.Core.Path.{sym, subst}
use mathlib.Core.Bool.{Bool, ◌||◌}
use mathlib.Core.List.{List}
use Prim.Native.Nat.{ℕ}
use lib.IntN.{ℤ}
use lib.ListN.{length}
use Rattle.std.proofs.lemmas.Result.{err_from_is_err_and}
use Rattle.net.proofs.Faults.{Clear}
use Rattle.net.proofs.Results.{refusal_there}
use Rattle.refine.specs.Refusals.{too_short}
use Rattle.refined_points.specs.Contract.{RefinedPointContract}
use Rattle.seam.specs.Refusals.{places_faults}
use Rattle.seam.proofs.CallLaws.{places_clear, second_refused, first_answered, both_answered}
use Rattle.seam.proofs.points.seam_points_with.Goals as goal
use Rattle.seam.proofs.points.seam_points_with.Goals.{In_ok-places_refusal, After-refined_point_with, In_err-first}

-- 1, 4 and 6 do not refuse
clear : (c : In_ok-places_refusal) → (let a = c.args in
    Clear (places_faults a.w a.h a.k a.l a.p a.q a.p2 a.q2))
clear c =
    let a = c.args in
    places_clear a.w a.h a.k a.l a.p a.q a.p2 a.q2
    (sym c.in_ok-places_refusal.ensures)

-- the second point
module _ (c : After-refined_point_with) where
  abbrev out2 : List ℤ
  out2 = c.refined_point_with.new.out

  abbrev scratch2 : List ℤ
  scratch2 = c.refined_point_with.new.scratch

  abbrev Second : Bool → ℕ × List ℤ → Type 0
  Second short o =
      let a = c.args in
      RefinedPointContract a.net.now a.w a.h a.l a.p2 a.q2 (a.short || short) a.out2.now
      a.scratch2.now o out2 scratch2

  abbrev short : Bool
  short =
      let a = c.args in
      too_short a.w a.h a.k (length a.out.now) (length a.scratch.now)

  -- with what the first lacks of room
  second : {o : ℕ × List ℤ} → Second c.too_short-first_short.result o → Second short o
  second {o} = subst (λ (b : Bool). Second b o) c.too_short-first_short.ensures

pub returns-in_err-second-clause-result_value : goal.returns-in_err-second-clause-result_value
returns-in_err-second-clause-result_value c =
    let a = c.args in
    let g = goal.at.returns-in_err-second-clause-result_value c in
    let call = g.After-refined_point_with in
    let p = err_from_is_err_and c.from_residual-in_err-second.result c.from_residual-in_err-second.ensures.1 in
    rw (p.1, p.2)
    (second_refused a.net.now a.w a.h a.k a.l a.p a.q a.p2 a.q2 a.short a.out.now a.scratch.now a.out2.now
    a.scratch2.now (clear g.In_ok-places_refusal) (out2 call) (scratch2 call) (second call c.in_err-second.ensures)).0

-- past the second point the first is refused nothing
no_refusal : In_err-first → ⊥
no_refusal c =
    let a = c.args in
    let g = goal.at.In_err-first c in
    let call = g.After-refined_point_with in
    let first = c.refined_point.new in
    refusal_there _
    (first_answered a.net.now a.w a.h a.k a.l a.p a.q a.p2 a.q2 a.short a.out.now a.scratch.now a.out2.now
    a.scratch2.now (clear g.In_ok-places_refusal) (out2 call) (scratch2 call) (second call c.in_ok-second.ensures)
    first.out first.scratch c.in_err-first.ensures)

pub returns-in_err-first : goal.returns-in_err-first
returns-in_err-first c = absurd (no_refusal (goal.at.returns-in_err-first c).In_err-first)

pub returns : goal.returns
returns c =
    let a = c.args in
    let g = goal.at.returns c in
    let call = g.After-refined_point_with in
    let first = c.refined_point.new in
    let p = both_answered a.net.now a.w a.h a.k a.l a.p a.q a.p2 a.q2 a.short a.out.now a.scratch.now a.out2.now
    a.scratch2.now (clear g.In_ok-places_refusal) (out2 call) (scratch2 call) (second call c.in_ok-second.ensures)
    first.out first.scratch c.in_ok-first.ensures in
    record { result_value = p.0; seam_left = p.1.0; seam_holds = p.1.1 }

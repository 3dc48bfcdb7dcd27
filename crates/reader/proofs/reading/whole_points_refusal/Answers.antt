-- `reader::reading::whole_points_refusal` meets its contract: the control points before i have no fault.
use mathlib.Core.Path.{◌≡◌, sym, ap, ◌∙◌, subst}
use mathlib.Core.List.{List}
use Prim.Native.Nat.{ℕ, ◌+◌, ◌-◌, ◌*◌, ◌≤◌, ◌<◌}
use native.Mathlib.Omega.{arith}
use lib.ListN.{length, take, drop, length-drop}
use Rattle.exact.specs.Filling.{runs}
use Rattle.exact.proofs.FillingLaws.{runs_suc}
use Rattle.net.specs.Refusals.{Fault, first_fault}
use Rattle.net.specs.Results.{refused}
use Rattle.net.proofs.Results.{handed_on, refusal_there}
use Rattle.net.proofs.Faults.{Clear, clear_none, clear_append, fault_in_runs}
use Rattle.words.specs.NetFile.{from_point, head_size, point_size}
use Rattle.reader.specs.Refusals.{point_faults}
use Rattle.reader.proofs.Parsing.{passes, point_numbered, point_within}
use Rattle.reader.proofs.reading.whole_points_refusal.Goals as goal
use Rattle.reader.proofs.reading.whole_points_refusal.Goals.{In-loop-i}

-- the control point at i
module _ (c : In-loop-i) where
  abbrev file : List ℕ
  file = c.args.file.now

  abbrev at : ℕ
  at = c.loop-i.i

  abbrev faults : ℕ → List Fault
  faults j = point_faults (from_point file j)

  -- what is known of its twelve bytes
  outcome : {r : ℕ} →
      (let from = head_size + point_size * at in
      r ≡ first_fault (point_faults (take (from + point_size - from) (drop from file)))) →
      r ≡ first_fault (faults at)
  outcome e =
      let from = head_size + point_size * at in
      let all : from + point_size - from ≡ point_size = omega arith in
      let there : head_size + point_size * c.args.n ≤ length file = c.requires in
      let below : at < c.args.n = c.loop-i-test.true in
      e
      ∙ ap (λ (n : ℕ). first_fault (point_faults (take n (drop from file)))) all
      ∙ ap first_fault (point_within (from_point file at) (omega (arith, length-drop from file, there, below)))

pub loop-i-init : goal.loop-i-init
unfolding runs
loop-i-init c = tt

pub returns-in_err-point_refusal : goal.returns-in_err-point_refusal
returns-in_err-point_refusal c =
    let p = (goal.at.returns-in_err-point_refusal c).In-loop-i in
    ap refused (handed_on c.from_residual.result c.from_residual.ensures.1)
    ∙ fault_in_runs p.args.n (faults p) (at p) p.loop-i-test.true p.loop-i.invariant
    (outcome p c.in_err-point_refusal.ensures) (refusal_there _)

pub loop-i-preserved : goal.loop-i-preserved
loop-i-preserved c =
    let p = (goal.at.loop-i-preserved c).In-loop-i in
    let met = outcome p c.in_ok-point_refusal.ensures in
    let k = passes (faults p (at p)) (point_numbered (from_point (file p) (at p))) met in
    subst Clear (sym (runs_suc (at p) (faults p)))
    (clear_append (runs (at p) (faults p)) (faults p (at p)) p.loop-i.invariant k)

pub returns : goal.returns
returns c =
    let i = c.loop-i.i in
    let all : i ≡ c.args.n = omega arith in
    let faults : ℕ → List Fault = λ j. point_faults (from_point c.args.file.now j) in
    sym (clear_none (runs i faults) c.loop-i.invariant) ∙ ap (λ (n : ℕ). first_fault (runs n faults)) all

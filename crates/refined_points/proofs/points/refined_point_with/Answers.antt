-- `refined_points::points::refined_point_with` meets its contract.
use mathlib.Core.Path.{◌≡◌, sym, ◌∙◌}
use mathlib.Core.Bool.{false}
use mathlib.Core.List.{List}
use Prim.Native.Nat.{ℕ}
use lib.IntN.{ℤ}
use lib.ListN.{length}
use Rattle.net.proofs.Faults.{accepted_answer}
use Rattle.places.specs.Places.{OnGrid}
use Rattle.surface.specs.Answers.{point_answer}
use Rattle.subdivision.specs.Refinement.{side_after}
use Rattle.steps.specs.RefinedNet.{refined_net}
use Rattle.refine.proofs.Refinable.{Refinable}
use Rattle.refine.proofs.CallLaws.{left_accepted}
use Rattle.refined_points.specs.Answers.{refusal_at, refined_surface_point}
use Rattle.refined_points.proofs.RefinedPoints.{point_accepted, point_answered, point_of_refined, answer_claimed}
use Rattle.refined_points.proofs.points.refined_point_with.Goals as goal
use Rattle.refined_points.proofs.points.refined_point_with.Goals.{In_ok-refusal_at, Start}

abbrev refusal : Start → ℕ
refusal s =
    refusal_at s.args.net.now s.args.w s.args.h s.args.k s.args.p s.args.q s.args.short
    s.args.out.now s.args.scratch.now

abbrev result : Start → List ℤ
result s = refined_net s.args.net.now s.args.w s.args.h s.args.k

abbrev values : Start → List ℤ
values s = refined_surface_point s.args.net.now s.args.w s.args.h s.args.k s.args.p s.args.q

-- nothing is refused
module _ (c : In_ok-refusal_at) where
  none : refusal (goal.at.In_ok-refusal_at c).Start ≡ 0
  none = sym c.in_ok-refusal_at.ensures

  taken :
      (let s = (goal.at.In_ok-refusal_at c).Start in
      Refinable s.args.net.now s.args.w s.args.h s.args.k (length s.args.out.now)
      (length s.args.scratch.now)
      × OnGrid 1024 (side_after s.args.k s.args.w) (side_after s.args.k s.args.h) s.args.p
      s.args.q
      × (s.args.short ≡ false))
  taken =
      let s = c in
      point_accepted s.args.net.now s.args.w s.args.h s.args.k s.args.p s.args.q
      s.args.short (length s.args.out.now) (length s.args.scratch.now) none

pub returns : goal.returns
returns c =
    let e = (goal.at.returns c).In_ok-refusal_at in
    let s = (goal.at.returns c).Start in
    let a = s.args in
    let t = taken e in
    let steps = c.refine_steps in
    let outcome =
    c.surface_point.ensures
    ∙ (λ i. point_answer (steps.ensures.out_after i) (c.side_after-m.ensures i) (c.side_after-n.ensures i) a.p a.q)
    ∙ sym (point_answered a.net.now a.w a.h a.k a.out.now t.0 a.p a.q t.1)
    ∙ accepted_answer (refusal s) (values s) (none e)
    (point_of_refined a.net.now a.w a.h a.k a.out.now t.0 a.p a.q t.1) in
    let left =
    left_accepted (refusal s) a.k a.w a.h (result s) a.out.now a.scratch.now
    steps.new.scratch (none e) steps.ensures.out_after steps.ensures.unchanged_from in
    record {
      answer = outcome;
      output = left.0;
      scratch_free = left.1;
      demand_three =
          answer_claimed a.net.now a.w a.h a.k a.p a.q a.short a.out.now
          a.scratch.now outcome;
    }

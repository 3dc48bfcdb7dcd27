-- `outlined_refine::refining::refine_outlined` meets its contract: past the faults before 14 the search decides 14, and
-- plain refining 3.
use mathlib.Core.Path.{◌≡◌, sym, ap, ◌∙◌}
use mathlib.Core.List.{List}
use Prim.Native.Nat.{ℕ}
use lib.Dec.{lit<}
use lib.ListN.{length}
use Rattle.std.proofs.lemmas.Result.{err_from_is_err_and}
use Rattle.net.specs.Refusals.{Fault, answer_by}
use Rattle.net.proofs.Faults.{not_carried_out}
use Rattle.net.proofs.Results.{refusal_there, refused_before}
use Rattle.outline.proofs.Searching.{search_free_lem}
use Rattle.refine.specs.Answers.{refusal_of}
use Rattle.outlined_refine.specs.Refusals.{late_faults}
use Rattle.outlined_refine.specs.Answers.{faults_of, outlined_refusal_of}
use Rattle.outlined_refine.proofs.CallLaws.{searchable_by, refused_range, plain_refusal, left_by}
use Rattle.outlined_refine.proofs.refining.refine_outlined.Goals as goal
use Rattle.outlined_refine.proofs.refining.refine_outlined.Goals.{Start, Else-not-is_connected}

module _ (s : Start) where
  abbrev before : List Fault
  before =
      let a = s.args in
      faults_of a.net.now a.w a.h a.k a.outline.now a.out.now a.scratch.now a.fine.now a.search.now

  abbrev refusal : ℕ
  refusal =
      let a = s.args in
      outlined_refusal_of a.net.now a.w a.h a.k a.outline.now a.out.now a.scratch.now a.fine.now a.search.now

pub returns-in_err-refusal_before-clause-result_value : goal.returns-in_err-refusal_before-clause-result_value
returns-in_err-refusal_before-clause-result_value c =
    let s = (goal.at.returns-in_err-refusal_before-clause-result_value c).Start in
    let p = err_from_is_err_and c.from_residual.result c.from_residual.ensures.1 in
    rw (p.1, p.2)
    (not_carried_out (refusal s)
    (refused_before _ (before s) (late_faults s.args.net.now s.args.w s.args.h s.args.outline.now)
    c.in_err-refusal_before.ensures)
    (refusal_there _))

-- what plain refining refuses, 3 or nothing, is then what the call refuses
same : (c : Else-not-is_connected) → (let s = (goal.at.Else-not-is_connected c).Start in
    refusal_of s.args.net.now s.args.w s.args.h s.args.k s.args.out.now s.args.scratch.now ≡ refusal s)
same c =
    let s = (goal.at.Else-not-is_connected c).Start in
    let a = s.args in
    let none = sym c.in_ok-refusal_before.ensures in
    let ready = searchable_by a.net.now a.w a.h a.k a.outline.now (length a.out.now) (length a.scratch.now)
    (length a.fine.now) (length a.search.now) none in
    sym (plain_refusal a.net.now a.w a.h a.k a.outline.now a.out.now a.scratch.now (length a.fine.now)
    (length a.search.now) ready)
    ∙ refused_range a.net.now a.w a.h a.outline.now (before s) (lit< tt, (lit< tt, (lit< tt, (lit< tt, (lit< tt, tt)))))
    none (sym c.is_connected.ensures.value ∙ c.if-not-is_connected.false)

pub returns : goal.returns
returns c =
    let g = goal.at.returns c in
    let s = g.Start in
    let a = s.args in
    let e = same g.Else-not-is_connected in
    let both = c.refine_both in
    let searched = c.is_connected.new.search in
    record {
      result_value = both.ensures.result_value ∙ ap answer_by e;
      outlined_left =
          left_by (before s) a.net.now a.w a.h a.k a.outline.now a.out.now a.scratch.now a.fine.now a.search.now
          (refusal s) both.new.out both.new.scratch both.new.fine searched e
          (both.ensures.out_after, both.ensures.refine_scratch) both.ensures.fine_after
          (search_free_lem (before s) a.w a.h a.search.now (sym c.in_ok-refusal_before.ensures) searched
          c.is_connected.ensures.unchanged_from);
    }

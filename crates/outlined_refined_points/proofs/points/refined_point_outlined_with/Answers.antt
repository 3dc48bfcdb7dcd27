-- `outlined_refined_points::points::refined_point_outlined_with` meets its contract: past the faults before 14 the
-- search decides 14, and plain refining and its point 3, with demand 3.
use mathlib.Core.Path.{◌≡◌, sym, ◌∙◌}
use mathlib.Core.List.{List}
use Prim.Native.Nat.{ℕ}
use native.Mathlib.Omega.{arith}
use lib.Dec.{lit<}
use Rattle.std.proofs.lemmas.Result.{err_from_is_err_and}
use Rattle.net.specs.Refusals.{Fault, first_fault}
use Rattle.net.proofs.Faults.{Numbered}
use Rattle.net.proofs.Results.{refusal_there, refused_before}
use Rattle.outline.proofs.Searching.{search_kept, search_free_lem}
use Rattle.outlined_refine.specs.Refusals.{late_faults}
use Rattle.outlined_refine.proofs.CallLaws.{refused_apart, refused_range}
use Rattle.outlined_refined_points.specs.Answers.{point_faults_of, outlined_refusal_at}
use Rattle.outlined_refined_points.proofs.CallLaws.{PointSearchable, searchable_at, plain_point_refusal, refused_contract, plain_contract}
use Rattle.outlined_refined_points.proofs.points.refined_point_outlined_with.Goals as goal
use Rattle.outlined_refined_points.proofs.points.refined_point_outlined_with.Goals.{In_ok-refusal_before, Start}

module _ (s : Start) where
  abbrev before : List Fault
  before =
      point_faults_of s.args.net.now s.args.w s.args.h s.args.k s.args.outline.now s.args.p
      s.args.q s.args.short s.args.out.now s.args.scratch.now s.args.fine.now
      s.args.search.now

  abbrev late : List Fault
  late = late_faults s.args.net.now s.args.w s.args.h s.args.outline.now

  abbrev refusal : ℕ
  refusal =
      outlined_refusal_at s.args.net.now s.args.w s.args.h s.args.k s.args.outline.now s.args.p
      s.args.q s.args.short s.args.out.now s.args.scratch.now s.args.fine.now
      s.args.search.now

  numbered : Numbered before
  numbered = (lit< tt, (lit< tt, (lit< tt, (lit< tt, (lit< tt, (lit< tt, (lit< tt, tt)))))))

-- no fault before 14 is there
module _ (c : In_ok-refusal_before) where
  abbrev begun : Start
  begun = (goal.at.In_ok-refusal_before c).Start

  none : first_fault (before begun) ≡ 0
  none = sym c.in_ok-refusal_before.ensures

  ready : (let a = begun.args in PointSearchable a.net.now a.w a.h a.k a.outline.now a.p a.q
      a.out.now a.scratch.now a.fine.now a.search.now)
  ready =
      let a = begun.args in
      searchable_at a.net.now a.w a.h a.k a.outline.now a.p a.q a.short a.out.now
      a.scratch.now a.fine.now a.search.now none

pub returns-in_err-refusal_before : goal.returns-in_err-refusal_before
returns-in_err-refusal_before c =
    let s = (goal.at.returns-in_err-refusal_before c).Start in
    let a = s.args in
    let p = err_from_is_err_and c.from_residual.result c.from_residual.ensures.1 in
    rw (p.1, p.2)
    (refused_contract a.net.now a.w a.h a.k a.outline.now a.p a.q a.short a.out.now
    a.scratch.now a.fine.now a.search.now (refused_before _ (before s) (late s) c.in_err-refusal_before.ensures)
    (refusal_there _) a.search.now
    (search_kept (before s) a.w a.h a.search.now))

pub is_connected-requires : goal.is_connected-requires
is_connected-requires c =
    let r = (ready (goal.at.is_connected-requires c).In_ok-refusal_before).parts in
    (r.bytes, r.search)

pub returns-then-not-is_connected : goal.returns-then-not-is_connected
returns-then-not-is_connected c =
    let call = c in
    let e = (goal.at.returns-then-not-is_connected c).In_ok-refusal_before in
    let s = begun e in
    let a = s.args in
    let apart = refused_apart a.net.now a.w a.h a.outline.now (before s) (numbered s) (none e)
    (sym call.is_connected.ensures.value ∙ c.if-not-is_connected.true) in
    refused_contract a.net.now a.w a.h a.k a.outline.now a.p a.q a.short a.out.now
    a.scratch.now a.fine.now a.search.now apart (λ z. omega (arith, z)) call.is_connected.new.search
    (search_free_lem (before s) a.w a.h a.search.now (none e) call.is_connected.new.search
    call.is_connected.ensures.unchanged_from)

pub returns : goal.returns
returns c =
    let both = c in
    let decided = c in
    let call = c in
    let e = (goal.at.returns c).In_ok-refusal_before in
    let s = begun e in
    let a = s.args in
    let same = sym (plain_point_refusal a.net.now a.w a.h a.k a.outline.now a.p a.q a.out.now
    a.scratch.now a.fine.now a.search.now (ready e))
    ∙ refused_range a.net.now a.w a.h a.outline.now (before s) (numbered s) (none e)
    (sym call.is_connected.ensures.value ∙ decided.if-not-is_connected.false) in
    let left = both.point_both.new in
    let searched = call.is_connected.new.search in
    plain_contract a.net.now a.w a.h a.k a.outline.now a.p a.q a.short a.out.now
    a.scratch.now a.fine.now a.search.now left.out left.scratch
    left.fine searched same both.point_both.ensures.refined_point_contract both.point_both.ensures.fine_after
    (search_free_lem (before s) a.w a.h a.search.now (none e) searched call.is_connected.ensures.unchanged_from)

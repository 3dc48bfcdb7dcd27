-- `split::splitting::split_with` meets its contract.
use mathlib.Core.Path.{◌≡◌, sym, ap, subst, ◌∙◌}
use mathlib.Core.List.{List}
use Prim.Native.Nat.{ℕ}
use lib.IntN.{ℤ}
use lib.ListN.{length}
use Rattle.exact.specs.Filling.{over}
use Rattle.net.specs.Refusals.{AcceptedNet}
use Rattle.net.proofs.Faults.{carried_out, when_accepted}
use Rattle.coarse.specs.Coarse.{coarse_side, coarse_net}
use Rattle.split.specs.Split.{details_against, net_details}
use Rattle.split.specs.Answers.{split_refusal_with}
use Rattle.split.proofs.SplitLaws.{Splittable, split_accepted, coarse_taken, own_details}
use Rattle.split.proofs.splitting.split_with.Goals as goal
use Rattle.split.proofs.splitting.split_with.Goals.{Start, In_ok-split_refusal}

abbrev refusal : Start → ℕ
refusal s =
    split_refusal_with s.args.net.now s.args.w s.args.h s.args.short s.args.coarse.now
    s.args.details.now

-- nothing is refused
module _ (c : In_ok-split_refusal) where
  none : refusal (goal.at.In_ok-split_refusal c).Start ≡ 0
  none = sym c.in_ok-split_refusal.ensures

  taken : (let a = c.args in Splittable a.net.now a.w a.h (length a.coarse.now) (length a.details.now))
  taken =
      let a = c.args in
      split_accepted a.net.now a.w a.h a.short (length a.coarse.now) (length a.details.now) none

pub store_differences-requires : goal.store_differences-requires
store_differences-requires c =
    let e = (goal.at.store_differences-requires c).In_ok-split_refusal in
    let a = e.args in
    let t = taken e in (
      t.given,
      t.odd,
      subst (λ (l : List ℤ). AcceptedNet l (coarse_side a.w) (coarse_side a.h))
          (sym c.store_coarse.ensures)
          (coarse_taken a.net.now a.w a.h a.coarse.now t),
      t.enough,
    )

pub returns : goal.returns
returns c =
    let e = (goal.at.returns c).In_ok-split_refusal in
    let s = (goal.at.returns c).Start in
    let a = s.args in
    let coarse = c.store_coarse.ensures in
    record {
      answer = carried_out (refusal s) (none e);
      coarse_after = coarse ∙ when_accepted (refusal s) (over (coarse_net a.net.now a.w a.h) a.coarse.now) a.coarse.now (none e);
      details_after =
          c.store_differences.ensures
          ∙ ap (λ (l : List ℤ). over (details_against a.net.now l a.w a.h) a.details.now) coarse
          ∙ ap (λ (l : List ℤ). over l a.details.now) (own_details a.net.now a.w a.h a.coarse.now (taken e))
          ∙ when_accepted (refusal s) (over (net_details a.net.now a.w a.h) a.details.now) a.details.now (none e);
    }

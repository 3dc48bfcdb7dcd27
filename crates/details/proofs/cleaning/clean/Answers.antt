-- `details::cleaning::clean` meets its contract.
use mathlib.Core.Path.{◌≡◌, sym, ap, ◌∙◌}
use mathlib.Core.List.{List, ◌++◌}
use Prim.Native.Nat.{ℕ}
use lib.IntN.{ℤ}
use lib.ListN.{length, drop}
use borrow.Author.Rules.{rules}
use Rattle.exact.specs.Filling.{over}
use Rattle.net.proofs.Faults.{Clear, when_accepted}
use Rattle.details.specs.Details.{detail_numbers}
use Rattle.details.specs.Refusals.{clean_faults, clean_refusal}
use Rattle.details.specs.Cleaning.{cleaned_details}
use Rattle.details.proofs.DetailLaws.{clean_clear}
use Rattle.details.proofs.cleaning.clean.Goals as goal
use Rattle.details.proofs.cleaning.clean.Goals.{Start, In_ok-clean_refusal}

abbrev refusal : Start → ℕ
refusal s = clean_refusal s.args.details.now s.args.w s.args.h s.args.t

abbrev result : Start → List ℤ
result s =
    over (cleaned_details s.args.details.now s.args.w s.args.h s.args.t) s.args.details.now

-- nothing is refused
module _ (c : In_ok-clean_refusal) where
  abbrev start : Start
  start = (goal.at.In_ok-clean_refusal c).Start

  none : refusal start ≡ 0
  none = sym c.in_ok-clean_refusal.ensures

  clear : Clear (clean_faults start.args.details.now start.args.w start.args.h start.args.t)
  clear = clean_clear start.args.details.now start.args.w start.args.h start.args.t none

pub returns-clause-details_after : goal.returns-clause-details_after
unfolding cleaned_details over
returns-clause-details_after c =
    let e = (goal.at.returns-clause-details_after c).In_ok-clean_refusal in
    let s = start e in
    let new = c.clean_all.new.details in
    let details = s.args.details.now in
    let n = detail_numbers s.args.w s.args.h in
    let long : length new ≡ n = search rules in
    (λ u. c.clean_all.ensures u ++ drop ((sym long ∙ ap length c.clean_all.ensures) u) details)
    ∙ when_accepted (refusal s) (result s) details (none e)

-- `multiresolution::cleaned::clean_net` meets its contract.
use borrow.Author.Rules.{rules}
use Rattle.multiresolution.proofs.CallLaws.{first_refused, cleaned_refused, cleaned_done}
use Rattle.multiresolution.proofs.cleaned.clean_net.Goals as goal

pub returns-in_err-threshold_refusal : goal.returns-in_err-threshold_refusal
returns-in_err-threshold_refusal c = search (rules, first_refused)

pub returns-in_err-split_with : goal.returns-in_err-split_with
returns-in_err-split_with c =
    let k =
    cleaned_refused _ _ _ _ _ _ _ c.in_ok-threshold_refusal.ensures c.too_short_for-short.ensures
    c.in_err-split_with.ensures in
    search (rules, k)

pub returns : goal.returns
returns c =
    cleaned_done _ _ _ _ _ _ _ c.in_ok-threshold_refusal.ensures c.too_short_for-short.ensures
    c.in_ok-split_with.ensures c.clean_and_merge.ensures.details_after c.clean_and_merge.ensures.merge_contract

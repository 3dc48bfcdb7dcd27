-- `merge::sums::merged_beyond` meets its contract.
use mathlib.Core.Path.{sym, ◌∙◌}
use Rattle.net.proofs.Faults.{or_none}
use Rattle.merge.proofs.MergeLaws.{small_merged}
use Rattle.merge.proofs.sums.merged_beyond.Goals as goal

pub returns-else-any_large : goal.returns-else-any_large
returns-else-any_large c =
    let s = c in
    let a = s.args in
    let none = or_none _ _ (sym c.any_large.ensures ∙ c.if-any_large.false) in
    sym (small_merged a.coarse.now a.details.now a.w a.h s.requires none.0 none.1)

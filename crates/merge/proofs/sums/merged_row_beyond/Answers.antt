-- `merge::sums::merged_row_beyond` meets its contract.
use mathlib.Core.Path.{ap, ◌∙◌}
use Rattle.net.specs.Refusals.{any_beyond}
use Rattle.merge.proofs.MergeLaws.{row_mergeable, merged_row}
use Rattle.merge.proofs.sums.merged_row_beyond.Goals as goal

pub sums_beyond-requires : goal.sums_beyond-requires
sums_beyond-requires c =
    let s = c in
    let a = s.args in
    row_mergeable a.coarse.now a.details.now a.w a.h s.requires.0 a.j s.requires.1 a.row.now s.requires.2
    c.refine_row.ensures

pub returns : goal.returns
returns c =
    let s = c in
    let a = s.args in
    c.sums_beyond.ensures
    ∙ ap any_beyond (merged_row a.coarse.now a.details.now a.w a.h s.requires.0 a.j s.requires.1 a.row.now s.requires.2
    c.refine_row.ensures)

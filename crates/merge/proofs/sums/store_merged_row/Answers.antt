-- `merge::sums::store_merged_row` meets its contract.
use mathlib.Core.Path.{ap, ◌∙◌}
use Prim.Native.Nat.{◌*◌}
use lib.Seq.{sets}
use Rattle.net.specs.Net.{stride}
use Rattle.subdivision.specs.Refinement.{refined_side}
use Rattle.merge.proofs.MergeLaws.{row_mergeable, merged_row}
use Rattle.merge.proofs.sums.store_merged_row.Goals as goal

pub store_sums-requires : goal.store_sums-requires
store_sums-requires c =
    let s = c in
    let a = s.args in (
      row_mergeable a.coarse.now a.details.now a.w a.h s.requires.0 a.j s.requires.1 a.row.now s.requires.2
          c.refine_row.ensures,
      s.requires.3,
    )

pub returns : goal.returns
returns c =
    let s = c in
    let a = s.args in
    c.store_sums.ensures
    ∙ ap (sets a.out.now (stride * (a.j * refined_side a.w)))
    (merged_row a.coarse.now a.details.now a.w a.h s.requires.0 a.j s.requires.1 a.row.now s.requires.2
    c.refine_row.ensures)

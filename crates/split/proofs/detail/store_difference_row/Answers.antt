-- `split::detail::store_difference_row` meets its contract.
use mathlib.Core.Path.{ap, ◌∙◌}
use Prim.Native.Nat.{◌*◌}
use lib.Seq.{sets}
use Rattle.details.specs.Details.{detail_stride}
use Rattle.split.proofs.SplitLaws.{row_splittable, details_row}
use Rattle.split.proofs.detail.store_difference_row.Goals as goal

pub store_row_details-requires : goal.store_row_details-requires
store_row_details-requires c =
    let s = c in
    let a = s.args in (
      row_splittable a.net.now a.coarse.now a.w a.h s.requires.0 s.requires.1 s.requires.2 a.j s.requires.3 a.row.now s.requires.4
          c.refine_row.ensures,
      s.requires.5,
    )

pub returns : goal.returns
returns c =
    let s = c in
    let a = s.args in
    c.store_row_details.ensures
    ∙ ap (sets a.details.now (detail_stride * (a.j * a.w)))
    (details_row a.net.now a.coarse.now a.w a.h s.requires.0 s.requires.1 s.requires.2 a.j s.requires.3 a.row.now s.requires.4
    c.refine_row.ensures)

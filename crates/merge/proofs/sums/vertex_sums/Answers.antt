-- `merge::sums::vertex_sums` meets its contract.
use mathlib.Core.Path.{sym, subst}
use Rattle.net.specs.Refusals.{net_limit, ControlsWithin}
use Rattle.details.specs.Refusals.{detail_limit}
use Rattle.details.proofs.DetailLaws.{detail_size}
use Rattle.merge.proofs.sums.vertex_sums.Goals as goal

pub sums_of-requires : goal.sums_of-requires
sums_of-requires c =
    let s = c in
    let a = s.args in (
      subst (ControlsWithin net_limit) (sym c.load-c.ensures) (s.requires.0.small a.i s.requires.1),
      subst (ControlsWithin detail_limit) (sym c.load_details-d.ensures)
          (detail_size a.details.now a.w a.h s.requires.0.fine s.requires.0.long a.i a.j s.requires.1 s.requires.0.lies),
    )

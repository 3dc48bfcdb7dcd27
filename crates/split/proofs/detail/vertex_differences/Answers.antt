-- `split::detail::vertex_differences` meets its contract.
use mathlib.Core.Path.{sym, subst}
use Rattle.net.specs.Refusals.{net_limit, ControlsWithin}
use Rattle.net.proofs.Accepted.{accepted_vertex}
use Rattle.split.proofs.detail.vertex_differences.Goals as goal

pub differences_of-requires : goal.differences_of-requires
differences_of-requires c =
    let s = c in
    let a = s.args in (
      subst (ControlsWithin net_limit) (sym c.load-c.ensures)
          (accepted_vertex a.net.now a.w a.h s.requires.0.given a.i a.j s.requires.1 s.requires.0.lies).1,
      subst (ControlsWithin net_limit) (sym c.load-r.ensures) (s.requires.0.small a.i s.requires.1),
    )

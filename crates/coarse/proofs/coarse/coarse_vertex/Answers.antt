-- `coarse::coarse::coarse_vertex` meets its contract.
use mathlib.Core.Path.{sym, ap, subst, ◌∙◌}
use Prim.Native.Nat.{◌*◌}
use Rattle.net.specs.Net.{vertex_at}
use Rattle.net.specs.Refusals.{net_limit, ControlsWithin}
use Rattle.net.proofs.Places.{field_size}
use Rattle.coarse.specs.Coarse.{coarsened, coarse_controls, coarse_triangle}
use Rattle.coarse.proofs.coarse.coarse_vertex.Goals as goal

pub coarse_triangle-requires : goal.coarse_triangle-requires
coarse_triangle-requires c =
    let s = c in
    subst (ControlsWithin net_limit) (sym c.load-c.ensures)
    (field_size s.args.net.now s.args.w (vertex_at (2 * s.args.i) (2 * s.args.j)) s.requires.2 s.requires.1)

pub returns : goal.returns
unfolding coarse_controls coarsened
returns c = c.coarse_triangle.ensures ∙ ap coarse_triangle c.load-c.ensures

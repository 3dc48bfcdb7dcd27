use Rattle.net.specs.Net.{control_triangle}
use Rattle.net.proofs.storage.load.Goals as goal

pub returns : goal.returns
unfolding control_triangle
returns c =
    cc (c.load_point-c1.ensures, c.load_point-c2.ensures, c.load_point-c3.ensures)

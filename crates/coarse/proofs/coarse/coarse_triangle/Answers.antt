-- `coarse::coarse::coarse_triangle` meets its contract.
use Rattle.net.specs.Net.{one, two, three}
use Rattle.coarse.proofs.coarse.coarse_triangle.Goals as goal

pub coarse_point-c1-requires : goal.coarse_point-c1-requires
coarse_point-c1-requires c =
    let s = c in
    (s.requires one, s.requires two, s.requires three)

pub coarse_point-c2-requires : goal.coarse_point-c2-requires
coarse_point-c2-requires c =
    let s = c in
    (s.requires two, s.requires three, s.requires one)

pub coarse_point-c3-requires : goal.coarse_point-c3-requires
coarse_point-c3-requires c =
    let s = c in
    (s.requires three, s.requires one, s.requires two)

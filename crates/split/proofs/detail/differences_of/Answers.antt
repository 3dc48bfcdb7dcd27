-- `split::detail::differences_of` meets its contract.
use Rattle.net.specs.Net.{two, three}
use Rattle.split.proofs.detail.differences_of.Goals as goal

pub difference_point-d2-requires : goal.difference_point-d2-requires
difference_point-d2-requires c =
    let s = c in
    (s.requires.0 two, s.requires.1 two)

pub difference_point-d3-requires : goal.difference_point-d3-requires
difference_point-d3-requires c =
    let s = c in
    (s.requires.0 three, s.requires.1 three)

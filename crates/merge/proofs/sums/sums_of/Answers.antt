-- `merge::sums::sums_of` meets its contract.
use Rattle.net.specs.Net.{two, three}
use Rattle.merge.proofs.sums.sums_of.Goals as goal

pub sum_point-c2-requires : goal.sum_point-c2-requires
sum_point-c2-requires c =
    let s = c in
    (s.requires.0 two, s.requires.1 two)

pub sum_point-c3-requires : goal.sum_point-c3-requires
sum_point-c3-requires c =
    let s = c in
    (s.requires.0 three, s.requires.1 three)

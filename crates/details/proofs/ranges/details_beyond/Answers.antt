-- `details::ranges::details_beyond` meets its contract: the first numbers are those of the vertices.
use Rattle.details.specs.Refusals.{details_beyond}
use Rattle.details.proofs.ranges.details_beyond.Goals as goal

pub returns : goal.returns
unfolding details_beyond
returns c = c.any_outside.ensures

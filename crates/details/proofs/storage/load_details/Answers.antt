-- `details::storage::load_details` meets its contract.
use Rattle.details.specs.Details.{detail_triangle}
use Rattle.details.proofs.storage.load_details.Goals as goal

pub returns : goal.returns
unfolding detail_triangle
returns c =
    cc (c.load_point-d1.ensures, c.load_point-d2.ensures, c.load_point-d3.ensures)

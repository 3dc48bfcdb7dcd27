-- `multiresolution::round_trip::split_and_merge` meets its contract.
use Rattle.multiresolution.proofs.CallLaws.{round_trip_done}
use Rattle.multiresolution.proofs.round_trip.split_and_merge.Goals as goal

pub returns : goal.returns
returns c = round_trip_done _ _ _ _ _ _ c.too_short_for-short.ensures c.in_ok-split_with.ensures c.merge.ensures

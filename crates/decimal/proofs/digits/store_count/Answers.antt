-- `decimal::digits::store_count` meets its contract: the digits, and then the byte.
use Rattle.decimal.proofs.StoringLaws.{stored_then}
use Rattle.decimal.proofs.digits.store_count.Goals as goal

pub returns : goal.returns
returns c =
    stored_then c.store_decimal-after.ensures
    c.store_byte.ensures

-- The measure of the recursion is the number.
use Rattle.decimal.proofs.digits.+store_decimal.Given as goal

abbrev pub decreases-store_decimal : goal.decreases-store_decimal
decreases-store_decimal l = l.n

-- `rule::reduced::kept_triangle` meets its contract.
use borrow.Author.Rules.{rules}
use Rattle.subdivision.specs.WeightTable.{refined_triangle}
use Rattle.rule.proofs.reduced.kept_triangle.Goals as goal

pub returns : goal.returns
unfolding refined_triangle
returns c = search rules

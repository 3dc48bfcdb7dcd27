use borrow.Author.Rules.{rules}
use Rattle.net.specs.Net.{control_point}
use Rattle.net.proofs.storage.load_point.Goals as goal

pub returns : goal.returns
unfolding control_point
returns c = search rules

-- `words::words::load_low_first` meets its contract.
use mathlib.Core.Path.{refl}
use Rattle.words.specs.LowFirst.{low_first}
use Rattle.words.proofs.words.load_low_first.Goals as goal

pub returns : goal.returns
unfolding low_first
returns c = refl

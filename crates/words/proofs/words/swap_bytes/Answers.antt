-- `words::words::swap_bytes` meets its contract.
use mathlib.Core.Path.{refl}
use Rattle.words.specs.LowFirst.{swapped_bytes}
use Rattle.words.proofs.words.swap_bytes.Goals as goal

pub returns : goal.returns
unfolding swapped_bytes
returns c = refl

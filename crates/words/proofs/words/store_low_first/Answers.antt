-- `words::words::store_low_first` meets its contract.
use mathlib.Core.Path.{refl}
use native.Mathlib.Numerals.{unary_clauses}
use Rattle.words.specs.LowFirst.{low_bytes}
use Rattle.words.proofs.words.store_low_first.Goals as goal

pub returns : goal.returns
unfolding low_bytes
returns c = simp unary_clauses refl

-- `words::words::first_word` meets its contract.
use mathlib.Core.Path.{ap, ◌∙◌}
use Rattle.words.specs.LowFirst.{swapped_bytes}
use Rattle.words.proofs.WordLaws.{swapped_first}
use Rattle.words.proofs.words.first_word.Goals as goal

pub returns : goal.returns
returns c =
    c.swap_bytes.ensures
    ∙ ap swapped_bytes c.load_low_first.ensures
    ∙ swapped_first c.args.bytes.now
    (λ i. (c.shared_slice_known-1.given i).fits)

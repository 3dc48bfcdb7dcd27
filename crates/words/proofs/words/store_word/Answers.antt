-- `words::words::store_word` meets its contract.
use mathlib.Core.Path.{ap, ◌∙◌}
use native.Mathlib.Omega.{arith}
use lib.Seq.{sets}
use Rattle.words.specs.NetFile.{word}
use Rattle.words.specs.Kinds.{kind_number}
use Rattle.words.specs.LowFirst.{swapped_bytes, low_bytes}
use Rattle.words.proofs.WordLaws.{kind_small, low_swapped}
use Rattle.words.proofs.words.store_word.Goals as goal

pub returns : goal.returns
returns c =
    let a = c.args in
    let v = word (kind_number a.kind) a.payload in
    let same = ap (λ n. word n a.payload) c.number.ensures in
    c.store_low_first.ensures
    ∙ ap (sets a.out.now a.at)
    (ap low_bytes (c.swap_bytes.ensures ∙ ap swapped_bytes same)
    ∙ low_swapped v (omega (arith, kind_small a.kind, c.requires.0)))

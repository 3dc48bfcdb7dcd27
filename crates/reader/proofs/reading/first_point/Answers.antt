-- `reader::reading::first_point` meets its contract.
use mathlib.Core.Path.{ap, ◌∙◌}
use mathlib.Core.List.{[], ◌∷◌}
use mir.Syntax.{w32}
use Rattle.exact.proofs.SignedCode.{reads_as}
use Rattle.words.specs.NetFile.{first_number, first_point}
use Rattle.reader.proofs.Parsing.{part_from}
use Rattle.reader.proofs.reading.first_point.Goals as goal

pub returns : goal.returns
unfolding first_point
returns c =
    let bytes = c.args.bytes.now in
    let x = c.first_number-x in
    let y = c.first_number-y in
    let z = c.first_number-z in
    λ t.
    reads_as w32 x.result x.type_inv x.ensures t
    ∷ reads_as w32 y.result y.type_inv (y.ensures ∙ ap first_number (part_from bytes 4)) t
    ∷ reads_as w32 z.result z.type_inv (z.ensures ∙ ap first_number (part_from bytes 8)) t
    ∷ []

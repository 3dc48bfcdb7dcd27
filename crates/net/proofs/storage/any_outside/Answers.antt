-- `net::storage::any_outside` meets its contract: what was found is whether a number so far is outside the limit.
use mathlib.Core.Path.{sym, ap, ◌∙◌}
use mathlib.Core.Bool.{◌||◌}
use lib.IntN.{pos}
use lib.ListN.{get_or}
use mir.Syntax.{w32}
use borrow.Author.Rules.{rules}
use Rattle.exact.proofs.SignedCode.{reads_back}
use Rattle.net.specs.Refusals.{outside}
use Rattle.net.proofs.Ranges.{any_next}
use Rattle.net.proofs.storage.any_outside.Goals as goal

pub loop-z-preserved : goal.loop-z-preserved
loop-z-preserved c =
    let at = c.loop-z in
    let limit = c.args.limit in
    let numbers = c.args.numbers.now in
    let z = get_or numbers at.z-index (pos 0) in
    let found = c.number_outside-bad.ensures ∙ ap (outside limit) (reads_back w32 z (search rules)) in
    let more = any_next limit numbers at.z-index c.loop-z-test.true in
    (λ t. at.invariant t || found t) ∙ sym more

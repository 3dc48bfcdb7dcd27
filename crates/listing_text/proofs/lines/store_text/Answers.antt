-- `listing_text::lines::store_text` meets its contract: the text stands over the front of the output.
use Rattle.std.proofs.Common.{◌≡◌, ◌∙◌, ◌++◌, sym, ap, arith}
use Rattle.std.specs.Prelude.{ℕ, List, length, drop}
use Rattle.exact.specs.Filling.{over}
use Rattle.exact.proofs.FillingLaws.{sets_over}
use Rattle.listing_text.proofs.lines.store_text.Goals as goal

pub returns : goal.returns
unfolding over
returns c =
    let text = c.args.text.now in
    let out = c.args.out.now in
    let front = ap (λ (l : List ℕ). l ++ drop (length text) out) c.copy_from_slice.ensures.after in
    record { contents = front ∙ sym (sets_over text out c.requires); place = omega arith }

-- `bezier::bezier::ordinates` meets its contract: the points of the corners' terms are the weighted sums.
use mathlib.Core.Path.{◌≡◌, sym, subst, ◌∙◌}
use lib.ListN.{length}
use borrow.Author.Rules.{rules}
use Rattle.bezier.specs.Weights.{SmallTerms, joined_terms}
use Rattle.bezier.proofs.Weights.{small_terms, joined_points}
use Rattle.bezier.proofs.bezier.ordinates.Goals as goal

pub join_terms-requires : goal.join_terms-requires
join_terms-requires c =
    let q = c in
    let p = c in
    let small = small_terms p.args.values p.requires in (
      subst SmallTerms (sym p.corner_terms-p.ensures) (small 0),
      subst SmallTerms (sym q.corner_terms-q.ensures) (small 3),
      subst SmallTerms (sym c.corner_terms-t.ensures) (small 6),
    )

pub returns : goal.returns
returns c =
    let t = c in
    let q = c in
    let p = c in
    let values = p.args.values in
    let long : length values ≡ 9 = search rules in
    c.join_terms.ensures
    ∙ (λ i. joined_terms (p.corner_terms-p.ensures i) (q.corner_terms-q.ensures i) (t.corner_terms-t.ensures i))
    ∙ joined_points values long

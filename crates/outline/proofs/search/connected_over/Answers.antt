-- `outline::search::connected_over` meets its contract: at first each byte links to itself, then all edges are joined,
-- and then one root tells (`search_judged`).
use mathlib.Core.Path.{sym, subst}
use mathlib.Core.Bool.{Bool}
use lib.ListN.{length}
use Rattle.graphs.specs.Walks.{Judged}
use Rattle.outline.specs.Connected.{Connected}
use Rattle.outline.specs.Search.{Searched}
use Rattle.outline.proofs.SearchLaws.{searched_first, searched_on, search_judged}
use Rattle.outline.proofs.search.connected_over.Goals as goal
use Rattle.outline.proofs.search.connected_over.Goals.{After-join_cells, After-link_self, Start}

-- the links before the joins, and after them
module _ (c : After-link_self) where
  abbrev s₁ : Start
  s₁ = (goal.at.After-link_self c).Start

  first : Searched s₁.args.outline.now s₁.args.size.w s₁.args.size.h c.link_self.new.links
  first =
      let a = s₁.args in
      searched_first a.outline.now a.size.w a.size.h (length a.links.now) a.size.accepted s₁.requires.0 s₁.requires.1
      c.link_self.ensures

module _ (c : After-join_cells) where
  abbrev before_joins : After-link_self
  before_joins = (goal.at.After-join_cells c).After-link_self

  abbrev s₂ : Start
  s₂ = s₁ before_joins

  last : Searched s₂.args.outline.now s₂.args.size.w s₂.args.size.h c.join_cells.new.links
  last =
      let a = s₂.args in
      searched_on a.outline.now a.size.w a.size.h (first before_joins) c.join_cells.ensures.grown

pub join_cells-requires : goal.join_cells-requires
join_cells-requires c = first (goal.at.join_cells-requires c).After-link_self

pub returns : goal.returns
returns c =
    let joined = (goal.at.returns c).After-join_cells in
    let a = (s₂ joined).args in
    subst (λ (b : Bool). Judged (Connected a.outline.now a.size.w a.size.h) b) (sym c.one_root.ensures)
    (search_judged a.outline.now a.size.w a.size.h joined.join_cells.new.links (last joined)
    joined.join_cells.ensures.joined)

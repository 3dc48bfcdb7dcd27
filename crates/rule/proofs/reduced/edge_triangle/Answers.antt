-- `rule::reduced::edge_triangle` meets its contract.
use mathlib.Core.List.{[], ◌∷◌}
use Rattle.subdivision.specs.WeightTable.{refined_triangle}
use Rattle.rule.proofs.reduced.edge_triangle.Goals as goal

pub returns : goal.returns
unfolding refined_triangle
returns g c =
    λ t. c.reduced_point-c1.ensures t ∷ c.reduced_point-c2.ensures t ∷ c.reduced_point-c3.ensures t ∷ []

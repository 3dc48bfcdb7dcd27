-- `rule::rule::refined_triangle` meets its contract.
use mathlib.Core.Bool.{true}
use mathlib.Core.List.{[], ◌∷◌}
use mathlib.Core.Path.{◌≡◌}
use Rattle.net.specs.Net.{Index, two, three}
use Rattle.subdivision.specs.WeightTable.{good_row, refined_triangle}
use Rattle.subdivision.proofs.Tables.{row_at, row_passes}
use Rattle.rule.proofs.rule.refined_triangle.Goals as goal
use Rattle.rule.proofs.rule.refined_triangle.Goals.{Start}

-- the table passes, and so does each row that is handed on
good : (c : Start) (l : Index) → good_row (row_at c.args.table c.args.kind l) ≡ true
good c l = row_passes c.args.table c.requires.0 c.args.kind c.requires.1 l

pub refined_point-c2-requires : goal.refined_point-c2-requires
refined_point-c2-requires c = good (goal.at.refined_point-c2-requires c).Start two

pub refined_point-c3-requires : goal.refined_point-c3-requires
refined_point-c3-requires c = good (goal.at.refined_point-c3-requires c).Start three

pub returns : goal.returns
unfolding refined_triangle
returns c =
    λ t.
    c.refined_point-c1.ensures t
    ∷ c.refined_point-c2.ensures t
    ∷ c.refined_point-c3.ensures t
    ∷ []

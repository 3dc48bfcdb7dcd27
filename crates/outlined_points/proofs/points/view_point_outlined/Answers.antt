-- `outlined_points::points::view_point_outlined` meets its contract: no output is too short.
use Rattle.outlined_points.specs.Answers.{outlined_view_answer}
use Rattle.outlined_points.proofs.points.view_point_outlined.Goals as goal

pub returns : goal.returns
unfolding outlined_view_answer
returns c = c.view_point_outlined_with.ensures

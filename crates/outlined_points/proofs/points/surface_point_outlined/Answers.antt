-- `outlined_points::points::surface_point_outlined` meets its contract: no output is too short.
use Rattle.outlined_points.specs.Answers.{outlined_point_answer}
use Rattle.outlined_points.proofs.points.surface_point_outlined.Goals as goal

pub returns : goal.returns
unfolding outlined_point_answer
returns c = c.surface_point_outlined_with.ensures

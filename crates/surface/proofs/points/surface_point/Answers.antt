-- `surface::points::surface_point` meets its contract: no output is too short.
use Rattle.surface.specs.Answers.{point_answer}
use Rattle.surface.proofs.points.surface_point.Goals as goal

pub returns : goal.returns
unfolding point_answer
returns c = c.surface_point_with.ensures

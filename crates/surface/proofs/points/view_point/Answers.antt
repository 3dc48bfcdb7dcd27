-- `surface::points::view_point` meets its contract: no output is too short.
use Rattle.surface.specs.Answers.{view_answer}
use Rattle.surface.proofs.points.view_point.Goals as goal

pub returns : goal.returns
unfolding view_answer
returns c = c.view_point_with.ensures

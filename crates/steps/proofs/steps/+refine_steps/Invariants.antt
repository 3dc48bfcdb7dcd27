-- The measure of the recursion is the number of steps.
use Rattle.steps.proofs.steps.+refine_steps.Given as goal

abbrev pub decreases-refine_steps : goal.decreases-refine_steps
decreases-refine_steps l = l.steps.k

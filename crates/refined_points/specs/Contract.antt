-- What refining and then a surface point answers and leaves, with demand 3: the one contract of the calls that do both.
use Rattle.std.specs.Prelude.{◌≡◌, Bool, List, ℕ, ℤ}
use Rattle.exact.specs.Filling.{UnchangedFrom}
use Rattle.net.specs.Refusals.{output_after}
use Rattle.steps.specs.RefinedNet.{refined_net}
use Rattle.refine.specs.Answers.{free_scratch}
use Rattle.refined_points.specs.Answers.{refusal_at, refined_point_answer}
use Rattle.refined_points.specs.DemandThree.{Claimed}

-- of a net, a size, k, a place, whether another lent output is too short, the output and the scratch before the call;
-- and of the outcome of the answer, the output and the scratch after it
pub record RefinedPointContract (net : List ℤ) (w h k p q : ℕ) (other : Bool) (out scratch : List ℤ) (outcome : ℕ × List ℤ) (out_after scratch_after : List ℤ) : Type 0 where
  pub answer : outcome ≡ refined_point_answer net w h k p q other out scratch
  pub output : out_after ≡ output_after (refusal_at net w h k p q other out scratch) (refined_net net w h k) out
  pub scratch_free : UnchangedFrom (free_scratch (refusal_at net w h k p q other out scratch) k w h) scratch scratch_after
  pub demand_three : refusal_at net w h k p q other out scratch ≡ 0 → Claimed net w h k p q outcome

-- What the two points of a seam leave in lent memory.
use Rattle.std.specs.Prelude.{◌≡◌, List, ℕ, ℤ, pos, replicate}
use Rattle.exact.specs.Filling.{over, UnchangedFrom}
use Rattle.net.specs.Net.{squares}
use Rattle.net.specs.Refusals.{output_after}
use Rattle.steps.specs.RefinedNet.{refined_net}
use Rattle.refine.specs.Answers.{free_scratch}

-- of the refusal, a net, a size, two depths, and the outputs and scratches before the call and after it: the net
-- refined by k steps in the first output and by l steps in the second, and each scratch free as refining leaves it; or
-- nothing has changed
pub record SeamLeft (refusal : ℕ) (net : List ℤ) (w h k l : ℕ) (out scratch out2 scratch2 out_after scratch_after out2_after scratch2_after : List ℤ) : Type 0 where
  pub output : out_after ≡ output_after refusal (refined_net net w h k) out
  pub scratch_free : UnchangedFrom (free_scratch refusal k w h) scratch scratch_after
  pub output2 : out2_after ≡ output_after refusal (refined_net net w h l) out2
  pub scratch_free2 : UnchangedFrom (free_scratch refusal l w h) scratch2 scratch2_after

-- worked cases: what is left of the net of 2 by 2 whose numbers are the squares, after two steps and after three, and
-- after a refusal
abbrev out : List ℤ
out = replicate 226 (pos 5)

abbrev scratch : List ℤ
scratch = replicate 82 (pos 6)

abbrev out2 : List ℤ
out2 = replicate 730 (pos 7)

abbrev scratch2 : List ℤ
scratch2 = replicate 226 (pos 8)

module _ (out' scratch' out2' scratch2' : List ℤ) where
  abbrev Left : ℕ → Type 0
  Left refusal = SeamLeft refusal (squares 36) 2 2 2 3 out scratch out2 scratch2 out' scratch' out2' scratch2'

  accepted : Left 0 →
      (out' ≡ over (refined_net (squares 36) 2 2 2) out)
      × UnchangedFrom 81 scratch scratch'
      × (out2' ≡ over (refined_net (squares 36) 2 2 3) out2)
      × UnchangedFrom 225 scratch2 scratch2'
  accepted c = (c.output, c.scratch_free, c.output2, c.scratch_free2)

  refused : Left 6 →
      (out' ≡ out) × UnchangedFrom 0 scratch scratch' × (out2' ≡ out2) × UnchangedFrom 0 scratch2 scratch2'
  refused c = (c.output, c.scratch_free, c.output2, c.scratch_free2)

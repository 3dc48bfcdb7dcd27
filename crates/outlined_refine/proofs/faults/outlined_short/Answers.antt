-- `outlined_refine::faults::outlined_short` meets its contract.
use mathlib.Core.Path.{◌∙◌}
use Prim.Native.Nat.{ℕ}
use Rattle.net.specs.Refusals.{bad_size}
use Rattle.outline.specs.Outline.{triangles}
use Rattle.subdivision.specs.Refinement.{side_after}
use Rattle.steps.specs.Steps.{Depth}
use Rattle.steps.proofs.RefinedNets.{good_after}
use Rattle.outlined_refine.proofs.faults.outlined_short.Goals as goal
use Rattle.outlined_refine.proofs.faults.outlined_short.Goals.{Start}

module _ (s : Start) where
  depth : Depth s.args.steps.w s.args.steps.h s.args.steps.k
  depth = s.args.steps.depth

  abbrev fine_triangles : ℕ
  fine_triangles = triangles (side_after s.args.steps.k s.args.steps.w) (side_after s.args.steps.k s.args.steps.h)

pub invariant_of-count_triangles : goal.invariant_of-count_triangles
invariant_of-count_triangles c =
    record {
      accepted = (λ i. bad_size (c.side_after-m.ensures i) (c.side_after-n.ensures i))
          ∙ good_after (depth (goal.at.invariant_of-count_triangles c).Start);
    }

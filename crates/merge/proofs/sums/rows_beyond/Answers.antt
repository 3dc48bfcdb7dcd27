-- `merge::sums::rows_beyond` meets its contract: what was found is whether a number before row j is beyond the range.
use mathlib.Core.Path.{◌≡◌, refl, sym, ap, ◌∙◌}
use mathlib.Core.Bool.{◌||◌}
use Prim.Native.Nat.{ℕ}
use native.Mathlib.Omega.{arith}
use Rattle.exact.specs.Filling.{runs}
use Rattle.net.specs.Net.{grid}
use Rattle.net.specs.Refusals.{net_limit, any_beyond}
use Rattle.net.proofs.Ranges.{any_collected}
use Rattle.subdivision.specs.Refinement.{refined_side}
use Rattle.steps.specs.RefinedNet.{row_run, stored}
use Rattle.steps.proofs.StoredNets.{stored_tested}
use Rattle.merge.specs.Merge.{merged_fields, merged_net}
use Rattle.merge.proofs.sums.rows_beyond.Goals as goal

pub loop-j-init : goal.loop-j-init
unfolding runs
loop-j-init c = refl

pub loop-j-preserved : goal.loop-j-preserved
loop-j-preserved c =
    let a = c.args in
    let at = c.loop-j in
    (λ t. at.invariant t || c.merged_row_beyond-bad.ensures t)
    ∙ sym (any_collected net_limit at.j (row_run (merged_fields a.coarse.now a.details.now a.w) (refined_side a.w)))

pub returns : goal.returns
unfolding merged_net stored grid
returns c =
    let a = c.args in
    let F = merged_fields a.coarse.now a.details.now a.w in
    let all : c.loop-j.j ≡ refined_side a.h = omega arith in
    c.loop-j.invariant
    ∙ ap (λ (n : ℕ). any_beyond (runs n (row_run F (refined_side a.w)))) all
    ∙ sym (stored_tested F (refined_side a.w) (refined_side a.h))

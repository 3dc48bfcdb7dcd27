-- `merge::sums::sums_beyond` meets its contract: what was found is whether a sum before column i is beyond the range.
use mathlib.Core.Path.{refl, sym, ap, ◌∙◌}
use mathlib.Core.Bool.{◌||◌}
use Rattle.exact.specs.Filling.{runs}
use Rattle.net.specs.Refusals.{net_limit, controls_beyond}
use Rattle.net.proofs.Ranges.{any_collected}
use Rattle.merge.proofs.sums.sums_beyond.Invariants.{sums_at}
use Rattle.merge.proofs.sums.sums_beyond.Goals as goal

pub loop-i-init : goal.loop-i-init
unfolding runs
loop-i-init c = refl

pub loop-i-preserved : goal.loop-i-preserved
loop-i-preserved c =
    let a = c.args in
    let at = c.loop-i in
    (λ t. at.invariant t || (c.controls_beyond-bad.ensures ∙ ap controls_beyond c.vertex_sums-c.ensures) t)
    ∙ sym (any_collected net_limit at.i (sums_at a.row.now a.details.now a.w a.j))

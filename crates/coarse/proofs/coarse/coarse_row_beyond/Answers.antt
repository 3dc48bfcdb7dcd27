-- `coarse::coarse::coarse_row_beyond` meets its contract: what was found is whether a number of a vertex before i is
-- beyond the range.
use mathlib.Core.Path.{refl, sym, ap, ◌∙◌}
use mathlib.Core.Bool.{◌||◌}
use Rattle.exact.specs.Filling.{runs}
use Rattle.net.specs.Refusals.{net_limit, controls_beyond}
use Rattle.coarse.specs.Coarse.{coarse_controls}
use Rattle.net.proofs.Ranges.{any_collected}
use Rattle.coarse.proofs.CoarseLaws.{run_in_row, kept_vertex}
use Rattle.coarse.proofs.coarse.coarse_row_beyond.Goals as goal

pub loop-i-init : goal.loop-i-init
unfolding runs
loop-i-init c = refl

pub coarse_vertex-requires : goal.coarse_vertex-requires
coarse_vertex-requires c =
    let a = c.args in
    kept_vertex a.net.now a.w a.h c.loop-i.i a.j c.requires.0 c.loop-i-test.true c.requires.1

pub loop-i-preserved : goal.loop-i-preserved
unfolding coarse_controls
loop-i-preserved c =
    let at = c.loop-i in
    let a = c.args in
    let found = c.controls_beyond-bad.ensures ∙ ap controls_beyond c.coarse_vertex.ensures in
    (λ t. at.invariant t || found t) ∙ sym (any_collected net_limit at.i (run_in_row a.net.now a.w a.j))

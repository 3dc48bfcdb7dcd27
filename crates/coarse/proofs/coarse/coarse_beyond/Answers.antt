-- `coarse::coarse::coarse_beyond` meets its contract: what was found is whether a number of a row before j is beyond
-- the range.
use mathlib.Core.Path.{◌≡◌, refl, sym, ap, ◌∙◌}
use mathlib.Core.Bool.{◌||◌}
use Prim.Native.Nat.{ℕ}
use native.Mathlib.Omega.{arith}
use Rattle.exact.specs.Filling.{runs}
use Rattle.net.specs.Refusals.{net_limit, any_beyond}
use Rattle.steps.specs.RefinedNet.{row_run}
use Rattle.coarse.specs.Coarse.{coarse_side, coarse_fields}
use Rattle.net.proofs.Ranges.{any_collected}
use Rattle.coarse.proofs.CoarseLaws.{rows_tested}
use Rattle.coarse.proofs.coarse.coarse_beyond.Goals as goal

pub loop-j-init : goal.loop-j-init
unfolding runs
loop-j-init c = refl

pub loop-j-preserved : goal.loop-j-preserved
loop-j-preserved c =
    let at = c.loop-j in
    let a = c.args in
    (λ t. at.invariant t || c.coarse_row_beyond-bad.ensures t)
    ∙ sym (any_collected net_limit at.j (row_run (coarse_fields a.net.now a.w) (coarse_side a.w)))

pub returns : goal.returns
returns c =
    let a = c.args in
    let all : c.loop-j.j ≡ coarse_side a.h = omega arith in
    c.loop-j.invariant
    ∙ ap (λ (n : ℕ). any_beyond (runs n (row_run (coarse_fields a.net.now a.w) (coarse_side a.w)))) all
    ∙ sym (rows_tested a.net.now a.w a.h)

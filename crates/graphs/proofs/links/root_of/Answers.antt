-- `graphs::links::root_of` meets its contract: the root of r is the root of t, and `up` is the link of r.
use mathlib.Core.Path.{refl, subst}
use Prim.Native.Nat.{ℕ, ◌<◌}
use native.Mathlib.Omega.{arith}
use Rattle.graphs.specs.Links.{link, Root, further}
use Rattle.graphs.proofs.LinkLaws.{root_here}
use Rattle.graphs.proofs.links.root_of.Goals as goal

pub loop-up-preserved : goal.loop-up-preserved
loop-up-preserved c =
    let at = c.loop-up in
    let links = c.args.links.now in
    let down : link links at.r < at.r = omega (arith, at.invariant.1) in (
      omega arith,
      refl,
      λ x h. at.invariant.2 x (further at.r x down (subst (λ (u : ℕ). Root links u x) at.invariant.1 h)),
    )

pub returns : goal.returns
returns c =
    let at = c.loop-up in
    let s = c.before.before.before in
    at.invariant.2 at.r
    (root_here s.args.links.now at.r s.requires.1 at.invariant.0 (λ d. omega (arith, at.invariant.1, d)))

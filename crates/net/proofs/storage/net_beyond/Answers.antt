-- `net::storage::net_beyond` meets its contract: the first numbers of a net are those of its vertices.
use mathlib.Core.Path.{◌≡◌, ap, ◌∙◌}
use Prim.Native.Nat.{ℕ, ◌-◌}
use native.Mathlib.Omega.{arith}
use lib.ListN.{take}
use Rattle.net.specs.Net.{numbers}
use Rattle.net.specs.Refusals.{any_beyond, net_beyond}
use Rattle.net.proofs.storage.net_beyond.Goals as goal

pub returns : goal.returns
unfolding net_beyond
returns c =
    let a = c.args in
    let whole : numbers a.size.w a.size.h - 0 ≡ numbers a.size.w a.size.h = omega arith in
    c.any_beyond.ensures ∙ ap (λ (n : ℕ). any_beyond (take n a.net.now)) whole

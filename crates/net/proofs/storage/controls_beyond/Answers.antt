-- `net::storage::controls_beyond` meets its contract.
use mathlib.Core.Path.{sym, ◌∙◌}
use mathlib.Core.Bool.{◌||◌}
use mathlib.Core.List.{[]}
use lib.ListN.{get_or}
use Rattle.net.specs.Refusals.{net_limit}
use Rattle.net.proofs.Ranges.{any_three}
use Rattle.net.proofs.storage.controls_beyond.Goals as goal

pub returns : goal.returns
returns c =
    let t = c.args.c in
    (λ i. c.point_beyond-one.ensures i
    || (c.point_beyond-two.ensures i || c.point_beyond-three.ensures i))
    ∙ sym (any_three net_limit (get_or t 0 []) (get_or t 1 []) (get_or t 2 []))

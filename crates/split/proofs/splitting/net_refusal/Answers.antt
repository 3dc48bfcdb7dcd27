-- `split::splitting::net_refusal` meets its contract.
use mathlib.Core.Path.{◌≡◌, refl, sym, ◌∙◌}
use mathlib.Core.Bool.{false}
use Rattle.net.specs.Refusals.{short_net}
use Rattle.net.proofs.Faults.{cond_false}
use Rattle.split.proofs.SplitLaws.{small_net}
use Rattle.split.proofs.splitting.net_refusal.Goals as goal
use Rattle.split.proofs.splitting.net_refusal.Goals.{Else-short_net, Start}

module _ (c : Else-short_net) where
  abbrev start : Start
  start = (goal.at.Else-short_net c).Start

  long : short_net start.args.net.now start.args.size.w start.args.size.h ≡ false
  long = sym c.short_net.ensures ∙ c.if-short_net.false

pub returns : goal.returns
returns c =
    let e = (goal.at.returns c).Else-short_net in
    let a = (start e).args in
    let none =
    small_net a.net.now a.size.w a.size.h a.size.accepted (long e) (sym c.any_large.ensures ∙ c.if-any_large.false) in
    cond_false _ 2 _ (long e)
    (cond_false _ 5 _ c.if-short.false (cond_false _ 3 _ none.0 (cond_false _ 11 0 none.1 refl)))

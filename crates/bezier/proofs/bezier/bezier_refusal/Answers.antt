-- `bezier::bezier::bezier_refusal` meets its contract: a triangle that is asked for lies in the net.
use mathlib.Core.Bool.{false}
use mathlib.Core.Path.{◌≡◌, sym, subst₂, ◌∙◌}
use lib.Dec.{lit<}
use Rattle.net.specs.Refusals.{bad_size, short_net}
use Rattle.net.proofs.Faults.{fault_none}
use Rattle.bezier.specs.Refusals.{no_triangle}
use Rattle.bezier.proofs.BezierNets.{in_net_triangle}
use Rattle.bezier.proofs.bezier.bezier_refusal.Goals as goal
use Rattle.bezier.proofs.bezier.bezier_refusal.Goals.{In_ok-size}

pub triangle_beyond-requires : goal.triangle_beyond-requires
triangle_beyond-requires c =
    let a = c.args in
    let made = (goal.at.triangle_beyond-requires c).In_ok-size.in_ok-size.ensures in
    let place = sym c.no_triangle.ensures ∙ c.if-no_triangle.false in
    let long = sym c.short_net.ensures ∙ c.if-short_net.false in
    in_net_triangle _ _ _ _ _ (fault_none (bad_size a.w a.h) 1 0 (lit< tt) (sym made.number)).0
    (subst₂ (λ w h. no_triangle w h a.i a.j ≡ false) made.sides.0 made.sides.1 place)
    (subst₂ (λ w h. short_net a.net.now w h ≡ false) made.sides.0 made.sides.1 long)

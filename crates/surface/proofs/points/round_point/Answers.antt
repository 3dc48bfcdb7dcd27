-- `surface::points::round_point` meets its contract: the quotient is small enough for an i32.
use mathlib.Core.Path.{◌≡◌, sym, ap, subst, ◌∙◌}
use lib.IntN.{ℤ}
use mir.Val.{SFits, to_z, of_z}
use mir.Syntax.{w32, w64}
use mir.Facts.{to_z-of_z}
use Rattle.exact.proofs.Sizes.{fits_of_size}
use Rattle.exact.proofs.SignedCode.{reads_as}
use Rattle.exact.specs.Rounding.{rounded}
use Rattle.surface.proofs.Evaluation.{point_small}
use Rattle.surface.proofs.points.round_point.Goals as goal
use Rattle.surface.proofs.points.round_point.Goals.{After-round_even}

-- the quotient of what was handed in
quotient : (c : After-round_even) → to_z w64 (of_z w64 c.round_even.result) ≡ rounded c.args.last 37748736
quotient c =
    reads_as w64 c.round_even.result c.round_even.type_inv
    (c.round_even.ensures ∙ ap (λ (z : ℤ). rounded z 37748736) (to_z-of_z c.ranges.last))

quotient_fits : (c : After-round_even) → SFits w32 (to_z w64 (of_z w64 c.round_even.result))
quotient_fits c =
    subst (SFits w32) (sym (quotient c)) (fits_of_size {w = w32} (point_small c.args.last c.requires) tt)

pub overflow_cast-result : goal.overflow_cast-result
overflow_cast-result c = quotient_fits c

pub returns : goal.returns
returns c = to_z-of_z (quotient_fits c) ∙ quotient c

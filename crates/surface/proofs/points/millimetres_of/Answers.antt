-- `surface::points::millimetres_of` meets its contract: 1024.0 is the double of 1,024.
use mathlib.Core.Path.{ap}
use lib.Ieee.{binary64, div, of_int, of_bits}
use lib.IntN.{ℤ}
use mir.Facts.{to_z-of_z}
use Rattle.surface.proofs.points.millimetres_of.Goals as goal

pub returns : goal.returns
unfolding of_bits of_int
returns c =
    ap (λ (z : ℤ). div binary64 (of_int binary64 z) (of_bits binary64 4652218415073722368)) (to_z-of_z c.ranges.z)

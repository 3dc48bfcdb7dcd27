-- `exact::rounding::round_even` meets its contract.
use mathlib.Core.Path.{◌≡◌, ◌∙◌, ap}
use Prim.Native.Nat.{ℕ, ◌+◌, ◌-◌, ◌*◌, ◌/◌, ◌≤◌, ◌<◌}
use lib.Dec.{ltb}
use lib.IntN.{ℤ, pos, ◌+ℤ◌}
use mir.Facts.{to_z-of_z}
use mir.Syntax.{w64}
use mir.Val.{bool_byte}
use Rattle.exact.proofs.SignedCode.{reads_as}
use Rattle.exact.proofs.RoundingLaws.{raised_few, quotient_few, rounded_raised}
use Rattle.exact.proofs.rounding.round_even.Goals as goal
use Rattle.exact.proofs.rounding.round_even.Goals.{After-raised-above}

-- the raised numerator, and its quotient
module _ (c : After-raised-above) where
  abbrev half : ℕ
  half = c.args.half

  abbrev most : ℕ
  most = c.args.most

  abbrev above : ℕ
  above = c.raised-above.result

  abbrev below : ℕ
  below = bool_byte (ltb above (2 * half * most))

  sum : pos above ≡ c.args.n +ℤ pos (2 * half * most)
  sum = c.raised-above.ensures ∙ ap (λ (z : ℤ). z +ℤ pos (2 * half * most)) (to_z-of_z c.ranges.n)

  small : above ≤ 2 * (2 * half * most)
  small = raised_few c.args.n half most above c.requires.3 sum

  quotient : (above + half - below) / (2 * half) < 2 * most + 1
  quotient = quotient_few half most above below c.requires.0 small

pub returns : goal.returns
returns c =
    let s = c.before.before in
    reads_as w64 c.lowered.result c.lowered.type_inv
    (c.lowered.ensures
    ∙ rounded_raised s.args.n s.args.half s.args.most (above c.before) s.requires.0 s.requires.3 (sum c.before))

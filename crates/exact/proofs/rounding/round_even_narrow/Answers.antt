-- `exact::rounding::round_even_narrow` meets its contract.
use mathlib.Core.Path.{◌≡◌, ◌∙◌, ap, sym, subst}
use Prim.Native.Nat.{ℕ, ◌+◌, ◌-◌, ◌*◌, ◌/◌, ◌^◌, ◌≤◌, ◌<◌}
use native.Mathlib.Nat.{mul_comm}
use native.Mathlib.Omega.{arith}
use lib.Dec.{ltb}
use lib.IntN.{ℤ, pos, nat_abs, ◌+ℤ◌}
use mir.Facts.{to_z-of_z}
use mir.Syntax.{w32, w64}
use mir.Val.{SFits, bool_byte, to_z, of_z}
use Rattle.exact.specs.Rounding.{rounded}
use Rattle.exact.proofs.SignedCode.{reads_as}
use Rattle.exact.proofs.Sizes.{fits_of_size}
use Rattle.exact.proofs.RoundingLaws.{rounded_size, factors_few, raised_few, quotient_few, rounded_raised}
use Rattle.exact.proofs.rounding.round_even_narrow.Goals as goal
use Rattle.exact.proofs.rounding.round_even_narrow.Goals.{After-lowered, After-raised-above, Start}

few : (c : Start) → (2 * c.args.half ≤ 2 ^ 30) × (2 * c.args.most ≤ 2 ^ 30)
few c = factors_few c.args.half c.args.most (2 ^ 30) c.requires.0 c.requires.1 c.requires.2

-- the raised numerator, and its quotient
module _ (c : After-raised-above) where
  abbrev half : ℕ
  half = c.args.half

  abbrev most : ℕ
  most = c.args.most

  abbrev above : ℕ
  above = c.raised-above.result

  abbrev below : ℕ
  below = bool_byte (ltb above (2 * half * most))

  sum : pos above ≡ c.args.n +ℤ pos (2 * half * most)
  sum = c.raised-above.ensures ∙ ap (λ (z : ℤ). z +ℤ pos (2 * half * most)) (to_z-of_z c.ranges.n)

  small : above ≤ 2 * (2 * half * most)
  small = raised_few c.args.n half most above c.requires.3 sum

  quotient : (above + half - below) / (2 * half) < 2 * most + 1
  quotient = quotient_few half most above below c.requires.0 small

-- the rounded number fits 32 bits
module _ (c : After-lowered) where
  abbrev begin : Start
  begin = c.before.before

  exact : to_z w64 (of_z w64 c.lowered.result) ≡ rounded begin.args.n (2 * begin.args.half)
  exact =
      let a = begin.args in
      reads_as w64 c.lowered.result c.lowered.type_inv
      (c.lowered.ensures
      ∙ rounded_raised a.n a.half a.most (above c.before) begin.requires.0 begin.requires.3 (sum c.before))

  fits : SFits w32 (to_z w64 (of_z w64 c.lowered.result))
  fits =
      let a = begin.args in
      let size =
      rounded_size a.n (2 * a.half) a.most (omega (arith, begin.requires.0)) (omega (arith, begin.requires.3, mul_comm (2 * a.half) a.most)) in
      let few : nat_abs (rounded a.n (2 * a.half)) ≤ 2 ^ 30 = omega (arith, size, few begin) in
      subst (SFits w32) (sym exact) (fits_of_size {w = w32} few tt)

pub returns : goal.returns
returns c = to_z-of_z (fits c) ∙ exact c

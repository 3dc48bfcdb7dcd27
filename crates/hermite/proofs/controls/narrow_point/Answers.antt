-- `hermite::controls::narrow_point` meets its contract.
use mathlib.Core.Path.{◌≡◌}
use mathlib.Core.Bool.{false}
use mathlib.Core.List.{[], ◌∷◌}
use Prim.Native.Nat.{ℕ}
use lib.IntN.{ℤ}
use Rattle.net.specs.Net.{number}
use Rattle.net.specs.Refusals.{beyond}
use Rattle.net.proofs.Faults.{or_none}
use Rattle.hermite.proofs.WideNumbers.{narrowed}
use Rattle.hermite.proofs.controls.narrow_point.Goals as goal
use Rattle.hermite.proofs.controls.narrow_point.Goals.{Start}

-- each of the three is in range
module _ (s : Start) where
  abbrev at : ℕ → ℤ
  at x = number s.args.c x

  fine : (beyond (at 0) ≡ false) × (beyond (at 1) ≡ false) × (beyond (at 2) ≡ false)
  fine =
      let x = or_none (beyond (at 0)) _ s.requires in
      let y = or_none (beyond (at 1)) _ x.1 in
      let z = or_none (beyond (at 2)) _ y.1 in
      (x.0, y.0, z.0)

pub returns : goal.returns
returns c =
    let y = c in
    let x = c in
    let s = (goal.at.returns c).Start in
    λ t.
    narrowed (at s 0) x.x-1.given (fine s).0 t ∷ narrowed (at s 1) y.y-1.given (fine s).1 t
    ∷ narrowed (at s 2) c.z-1.given (fine s).2 t ∷ []

-- Numbers of 32 bits in 64 bits, and numbers of the net range in 32 bits again.
use mathlib.Core.Path.{◌≡◌, sym, subst, ◌∙◌}
use mathlib.Core.Bool.{false, ◌||◌}
use mathlib.Core.List.{List, ◌++◌}
use Prim.Native.Nat.{◌<◌, ◌^◌}
use lib.IntN.{ℤ}
use lib.Signed.{mag}
use mir.Facts.{to_z-of_z, sfits_widen}
use mir.Syntax.{w32, w64}
use mir.Val.{SFits, hbits, to_z, of_z}
use borrow.Author.Tests.{ltb-false}
use Rattle.exact.proofs.SignedCode.{Leaf, of_narrow, reads_back}
use Rattle.exact.proofs.Sizes.{size_of_fits, fits_of_size}
use Rattle.net.specs.Refusals.{net_limit, beyond, any_beyond}
use Rattle.net.proofs.Faults.{or_none}
use Rattle.net.proofs.Ranges.{any_three}

-- an i32 as an i64
pub widens : (z : ℤ) → SFits w32 z → SFits w64 (to_z w32 (of_z w32 z))
widens z f = rw (to_z-of_z f) (sfits_widen {w = w32} tt f)

abbrev pub wide : (z : ℤ) → SFits w32 z → Leaf w64
wide z f = of_narrow z f tt (size_of_fits f)

-- a number that was read as an i64 and is in range, as an i32
pub narrows : (z : ℤ) → mag z < 2 ^ hbits w64 → beyond z ≡ false → SFits w32 (to_z w64 (of_z w64 z))
narrows z h e = subst (SFits w32) (sym (reads_back w64 z h)) (fits_of_size (ltb-false _ _ e) tt)

pub narrowed : (z : ℤ) (h : mag z < 2 ^ hbits w64) → beyond z ≡ false → to_z w32 (of_z w32 (to_z w64 (of_z w64 z))) ≡ z
narrowed z h e = to_z-of_z (narrows z h e) ∙ reads_back w64 z h

-- three lists in range, each
pub each_in_range : (k l m : List ℤ) → any_beyond (k ++ l ++ m) ≡ false →
    (any_beyond k ≡ false) × (any_beyond l ≡ false) × (any_beyond m ≡ false)
each_in_range k l m e =
    let f = or_none (any_beyond k) (any_beyond l || any_beyond m) (sym (any_three net_limit k l m) ∙ e) in
    let g = or_none (any_beyond l) (any_beyond m) f.1 in
    (f.0, g.0, g.1)

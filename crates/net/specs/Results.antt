-- Document 01, "Turned away", and document 02, a and c: the number of each refusal, and what a call answers.
use Rattle.std.specs.Prelude.{◌≡◌, refl, Bool, true, false, ℕ, Result, Ok, Err}
use Rattle.net.specs.declared.refusals.Refusal.{Refusal}
use Rattle.net.specs.declared.refusals.Refusal.TheVariants as refusal

-- 'No.'
abbrev pub refusal_number : Refusal → ℕ
refusal_number refusal.Size = 1
refusal_number refusal.Short = 2
refusal_number refusal.Range = 3
refusal_number refusal.Depth = 4
refusal_number refusal.Room = 5
refusal_number refusal.Place = 6
refusal_number refusal.MissingWord = 7
refusal_number refusal.WrongWord = 8
refusal_number refusal.Trailing = 9
refusal_number refusal.Even = 10
refusal_number refusal.ResultRange = 11
refusal_number refusal.Threshold = 12
refusal_number refusal.OutlineByte = 13
refusal_number refusal.NotConnected = 14
refusal_number refusal.OffDoor = 15
refusal_number refusal.ControlRange = 16

module _ {A : Type 0} where
  -- the number of a result, 0 where nothing is refused
  abbrev pub refused : Result A Refusal → ℕ
  refused (Ok _) = 0
  refused (Err r) = refusal_number r

  -- of a call that gives nothing but its outputs: the number, and whether it was carried out
  abbrev pub call_outcome : Result A Refusal → ℕ × Bool
  call_outcome (Ok _) = (0, true)
  call_outcome (Err r) = (refusal_number r, false)

-- ---- worked cases: what is carried out, what is refused, and the numbers of the rows of documents 01 and 02
carried_out : {A : Type 0} (a : A) → (refused (Ok a) ≡ 0) × (call_outcome (Ok a) ≡ (0, true))
carried_out a = (refl, refl)

outcomes : (A : Type 0) (r : Refusal) →
    (refused {A = A} (Err r) ≡ refusal_number r) × (call_outcome {A = A} (Err r) ≡ (refusal_number r, false))
outcomes A r = (refl, refl)

rows :
    (refusal_number refusal.Size ≡ 1)
    × (refusal_number refusal.Short ≡ 2)
    × (refusal_number refusal.Range ≡ 3)
    × (refusal_number refusal.Depth ≡ 4)
    × (refusal_number refusal.Room ≡ 5)
    × (refusal_number refusal.Place ≡ 6)
    × (refusal_number refusal.MissingWord ≡ 7)
    × (refusal_number refusal.WrongWord ≡ 8)
    × (refusal_number refusal.Trailing ≡ 9)
    × (refusal_number refusal.Even ≡ 10)
    × (refusal_number refusal.ResultRange ≡ 11)
    × (refusal_number refusal.Threshold ≡ 12)
    × (refusal_number refusal.OutlineByte ≡ 13)
    × (refusal_number refusal.NotConnected ≡ 14)
    × (refusal_number refusal.OffDoor ≡ 15)
    × (refusal_number refusal.ControlRange ≡ 16)
rows = (refl, refl, refl, refl, refl, refl, refl, refl, refl, refl, refl, refl, refl, refl, refl, refl)

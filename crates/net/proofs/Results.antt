-- Laws of results: a refusal's number is not 0, what `?` hands on, and that what comes after a refusal does not matter.
use mathlib.Core.Path.{ap, ◌∙◌}
use Rattle.std.specs.Prelude.{Bool, List, ◌++◌, ℕ, Result, Ok, Err}
use Rattle.std.proofs.Common.{◌≡◌, ◌≤◌, ◌<◌, arith, IsErrAnd}
use Rattle.net.specs.declared.refusals.Refusal.{Refusal}
use Rattle.net.specs.declared.refusals.Refusal.TheVariants as refusal
use Rattle.net.specs.Refusals.{Fault, first_fault}
use Rattle.net.specs.Results.{refusal_number, refused, call_outcome}
use Rattle.net.proofs.Faults.{fault_before}

-- each number is one of 1 to 16
pub number_between : (r : Refusal) → (0 < refusal_number r) × (refusal_number r ≤ 16)
number_between refusal.Size = (omega arith, omega arith)
number_between refusal.Short = (omega arith, omega arith)
number_between refusal.Range = (omega arith, omega arith)
number_between refusal.Depth = (omega arith, omega arith)
number_between refusal.Room = (omega arith, omega arith)
number_between refusal.Place = (omega arith, omega arith)
number_between refusal.MissingWord = (omega arith, omega arith)
number_between refusal.WrongWord = (omega arith, omega arith)
number_between refusal.Trailing = (omega arith, omega arith)
number_between refusal.Even = (omega arith, omega arith)
number_between refusal.ResultRange = (omega arith, omega arith)
number_between refusal.Threshold = (omega arith, omega arith)
number_between refusal.OutlineByte = (omega arith, omega arith)
number_between refusal.NotConnected = (omega arith, omega arith)
number_between refusal.OffDoor = (omega arith, omega arith)
number_between refusal.ControlRange = (omega arith, omega arith)

pub refusal_there : (r : Refusal) → refusal_number r ≡ 0 → ⊥
refusal_there r e = absurd (omega (arith, e, (number_between r).0))

-- `?` hands on the refusal that it met
pub handed_on : {A : Type 0} {d : Refusal} (r : Result A Refusal) → IsErrAnd r (λ e. e ≡ d) → r ≡ Err d
handed_on (Ok a) k = absurd k
handed_on (Err e) k = ap Err k

-- where a refusal is the first fault, it is so whatever comes after
pub refused_before : (r : Refusal) (fs gs : List Fault) → refusal_number r ≡ first_fault fs →
    refusal_number r ≡ first_fault (fs ++ gs)
refused_before r fs gs e = e ∙ fault_before fs gs (λ z. refusal_there r (e ∙ z))

-- the number of a result, from its outcome
pub refused_is : {A : Type 0} (r : Result A Refusal) {n : ℕ} {b : Bool} → call_outcome r ≡ (n, b) → refused r ≡ n
refused_is (Ok a) e = λ t. (e t).0
refused_is (Err r) e = λ t. (e t).0

-- `ups::ups_read` meets its contract.
use mathlib.Core.Path.{◌≡◌, refl, sym, ap, ◌∙◌}
use mathlib.Core.Bool.{Bool, ◌||◌, cond}
use mathlib.Core.List.{List, [], ◌∷◌}
use Prim.Native.Nat.{ℕ, ◌≤◌}
use lib.Dec.{ltb}
use lib.IntN.{ℤ}
use lib.ListN.{length}
use borrow.Author.Tests.{ltb-false}
use Rattle.net.specs.Refusals.{accepted}
use Rattle.net.proofs.Faults.{or_none, answered}
use Rattle.words.specs.NetFile.{file_width, file_height, file_numbers}
use Rattle.reader.specs.Refusals.{short_for, read_refusal}
use Rattle.reader.specs.Answers.{read_outcome}
use Rattle.reader.proofs.ReadLaws.{read_fits}
use Rattle.ups.proofs.Exports.{exported}
use Rattle.ups.proofs.ups_read.Goals as goal
use Rattle.ups.proofs.ups_read.Goals.{After-read_with, In-Ok}

-- the answer
module _ (c : After-read_with) where
  abbrev file : List ℕ
  file = c.args.file.now

  abbrev net : List ℤ
  net = c.args.net.now

  abbrev counts : List ℕ
  counts = c.args.size.now

  abbrev sides : List ℕ
  sides = file_width file ∷ file_height file ∷ []

  abbrev short : Bool
  short = ltb (length counts) 2 || short_for file (length net)

  abbrev refusal : ℕ
  refusal = read_refusal file short

  -- there is room for the sides
  room : refusal ≡ 0 → 2 ≤ length counts
  room none = ltb-false (length counts) 2 (or_none (ltb (length counts) 2) (short_for file (length net)) (read_fits file short none)).0

-- an accepted one
module _ (c : In-Ok) where
  abbrev at : After-read_with
  at = (goal.at.In-Ok c).After-read_with

  outcome : ◌≡◌ {A = ℕ × List ℕ} (0, c.in-Ok.w ∷ c.in-Ok.h ∷ [])
      (refusal at, cond (accepted (refusal at)) (sides at) [])
  outcome = c.in-Ok.ensures.result_value

  sides_fit : 2 ≤ length (counts at)
  sides_fit = room at (answered (refusal at) (sides at) outcome).0

pub returns-in-Ok : goal.returns-in-Ok
returns-in-Ok c =
    let p = (let k = at c in
    exported (refusal k) (sides k) (counts k) (file_numbers (file k)) (net k) (outcome c) (sides_fit c) refl
    k.read_with.ensures.net_after) in record { value = p.0; net_after = p.1.0; size_after = p.1.1 }

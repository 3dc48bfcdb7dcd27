-- `ups::ups_write` meets its contract.
use mathlib.Core.Path.{◌≡◌, refl, sym, ap, ◌∙◌}
use mathlib.Core.Bool.{Bool, ◌||◌, cond}
use mathlib.Core.List.{List, [], ◌∷◌}
use Prim.Native.Nat.{ℕ, ◌≤◌}
use lib.Dec.{ltb}
use lib.IntN.{ℤ}
use lib.ListN.{length}
use borrow.Author.Tests.{ltb-false}
use Rattle.net.specs.Refusals.{accepted}
use Rattle.net.proofs.Faults.{or_none, answered}
use Rattle.words.specs.NetFile.{net_file, file_size}
use Rattle.writer.specs.Refusals.{no_room, write_refusal}
use Rattle.writer.specs.Answers.{write_outcome}
use Rattle.writer.proofs.WriteLaws.{write_fits}
use Rattle.ups.proofs.Exports.{exported}
use Rattle.ups.proofs.ups_write.Goals as goal
use Rattle.ups.proofs.ups_write.Goals.{After-write_with, In-Ok}

-- the answer
module _ (c : After-write_with) where
  abbrev net : List ℤ
  net = c.args.net.now

  abbrev w : ℕ
  w = c.args.w

  abbrev h : ℕ
  h = c.args.h

  abbrev out : List ℕ
  out = c.args.out.now

  abbrev counts : List ℕ
  counts = c.args.written.now

  abbrev short : Bool
  short = ltb (length counts) 1 || no_room w h (length out)

  abbrev refusal : ℕ
  refusal = write_refusal net w h short

  -- there is room for the count
  room : refusal ≡ 0 → 1 ≤ length counts
  room none =
      ltb-false (length counts) 1
      (or_none (ltb (length counts) 1) (no_room w h (length out)) (write_fits net w h short none)).0

-- an accepted one
module _ (c : In-Ok) where
  abbrev at : After-write_with
  at = (goal.at.In-Ok c).After-write_with

  outcome : ◌≡◌ {A = ℕ × List ℕ} (0, c.in-Ok.n ∷ [])
      (refusal at, cond (accepted (refusal at)) (file_size (w at) (h at) ∷ []) [])
  outcome = c.in-Ok.ensures.result_value

  count_fits : 1 ≤ length (counts at)
  count_fits = room at (answered (refusal at) (file_size (w at) (h at) ∷ []) outcome).0

pub returns-in-Ok : goal.returns-in-Ok
returns-in-Ok c =
    let p = (let k = at c in
    exported (refusal k) (file_size (w k) (h k) ∷ []) (counts k) (net_file (net k) (w k) (h k)) (out k) (outcome c)
    (count_fits c) refl k.write_with.ensures.out_after) in record { value = p.0; out_after = p.1.0; written_after = p.1.1 }

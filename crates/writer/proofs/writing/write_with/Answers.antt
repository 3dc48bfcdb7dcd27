-- `writer::writing::write_with` meets its contract.
use mathlib.Core.Path.{◌≡◌, sym, ap, ◌∙◌}
use mathlib.Core.Bool.{Bool, ◌||◌}
use mathlib.Core.List.{List, [], ◌∷◌}
use Prim.Native.Nat.{ℕ, ◌-◌, ◌*◌, ◌≤◌}
use native.Mathlib.Omega.{arith}
use lib.ListN.{length, take, length-take}
use lib.IntN.{ℤ}
use Rattle.exact.specs.Filling.{over}
use Rattle.net.specs.Net.{numbers, stride}
use Rattle.net.specs.Refusals.{any_beyond}
use Rattle.net.proofs.Places.{good_size, few_vertices}
use Rattle.net.proofs.Faults.{accepted_answer, when_accepted}
use Rattle.net.proofs.Beyond.{cut}
use Rattle.words.specs.NetFile.{net_file, file_size}
use Rattle.writer.specs.Refusals.{write_refusal, no_room}
use Rattle.writer.proofs.WriteLaws.{GoodNet, good_net, cut_file}
use Rattle.writer.proofs.writing.write_with.Goals as goal
use Rattle.writer.proofs.writing.write_with.Goals.{In_ok-write_refusal}

-- where nothing is refused
module _ (c : In_ok-write_refusal) where
  abbrev net : List ℤ
  net = c.args.net.now

  abbrev w : ℕ
  w = c.args.w

  abbrev h : ℕ
  h = c.args.h

  abbrev out : List ℕ
  out = c.args.out.now

  abbrev short : Bool
  short = c.args.short || no_room w h (length out)

  none : write_refusal net w h short ≡ 0
  none = sym c.in_ok-write_refusal.ensures

  good : GoodNet net w h (length out)
  good = good_net net w h c.args.short (length out) none

  few : w * h ≤ 1050625
  few = few_vertices (good_size w h good.size)

  -- the part that is lent
  part : take (stride * (w * h) - 0) net ≡ cut net w h
  part =
      let same : stride * (w * h) - 0 ≡ stride * (w * h) = omega arith in
      ap (λ (n : ℕ). take n net) same

pub store_file-requires : goal.store_file-requires
store_file-requires c =
    let k = (goal.at.store_file-requires c).In_ok-write_refusal in
    let g = good k in (
      omega (arith, ap length (part k), length-take (numbers (w k) (h k)) (net k), g.long),
      g.room_enough,
      ap any_beyond (part k) ∙ g.range,
    )

pub returns-clause-out_after : goal.returns-clause-out_after
returns-clause-out_after c =
    let k = (goal.at.returns-clause-out_after c).In_ok-write_refusal in
    c.store_file.ensures
    ∙ ap (λ (l : List ℕ). over l (out k))
    (ap (λ (l : List ℤ). net_file l (w k) (h k)) (part k) ∙ cut_file (net k) (w k) (h k))
    ∙ when_accepted (write_refusal (net k) (w k) (h k) (short k)) (over (net_file (net k) (w k) (h k)) (out k)) (out k)
    (none k)

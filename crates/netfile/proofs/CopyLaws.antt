-- Writing and then reading what was written: the refusal, and what is known where there is none.
use mathlib.Core.Path.{◌≡◌, refl, sym, ap, ◌∙◌}
use mathlib.Core.Bool.{Bool, true, false, cond, ◌||◌}
use mathlib.Core.List.{List, [], ◌∷◌}
use Prim.Native.Nat.{ℕ, ◌-◌, ◌≤◌}
use native.Mathlib.Omega.{arith}
use lib.Dec.{ltb}
use lib.IntN.{ℤ}
use lib.ListN.{length, get_or, take}
use borrow.Author.Tests.{ltb-false}
use Rattle.exact.specs.Filling.{over}
use Rattle.exact.proofs.FillingLaws.{take_over, length_over}
use Rattle.net.specs.Net.{numbers}
use Rattle.net.specs.Refusals.{bad_size, short_net, net_beyond, output_after, too_short_for}
use Rattle.net.proofs.Faults.{clear_none, or_none, answered, accepted_answer, when_accepted}
use Rattle.words.specs.NetFile.{net_file, file_size}
use Rattle.words.specs.Answers.{answer}
use Rattle.writer.specs.Refusals.{write_faults, write_refusal, no_room}
use Rattle.writer.specs.Answers.{write_answer_with, write_output_with}
use Rattle.writer.proofs.WriteLaws.{file_length, write_clear}
use Rattle.reader.specs.Answers.{read_answer, read_net}
use Rattle.netfile.specs.Answers.{copy_refusal}
use Rattle.netfile.specs.Promises.{Writable}
use Rattle.netfile.proofs.WrittenFiles.{reads_back_net}

module _ (net : List ℤ) (w h : ℕ) (out : List ℕ) (back : List ℤ) where
  abbrev refusal : ℕ
  refusal = copy_refusal net w h out back

  -- the room of `back` counts only where the size is good
  abbrev pub short : Bool
  short = too_short_for w h (length back) || no_room w h (length out)

  same_refusal : write_refusal net w h short ≡ refusal
  same_refusal = go (bad_size w h) (ltb (length back) (numbers w h))
    where
      -- the refusals from 2 on
      later : Bool → ℕ
      later t = cond (short_net net w h) 2 (cond (t || no_room w h (length out)) 5 (cond (net_beyond net w h) 3 0))

      go : (bad few : Bool) → ◌≡◌ {A = ℕ} (cond bad 1 (later (cond bad false few))) (cond bad 1 (later few))
      go true few = refl
      go false few = refl

  -- nothing is refused: the net can be written, and both outputs have room
  module _ (none : refusal ≡ 0) where
    fits : Writable net w h × (numbers w h ≤ length back) × (file_size w h ≤ length out)
    fits =
        let few = ltb (length back) (numbers w h) || no_room w h (length out) in
        let k = write_clear net w h few none in
        let room = or_none (ltb (length back) (numbers w h)) (no_room w h (length out)) k.1.1.0 in (
          clear_none (write_faults net w h false) (k.0, (k.1.0, (refl, (k.1.1.1.0, tt)))),
          ltb-false (length back) (numbers w h) room.0,
          ltb-false (length out) (file_size w h) room.1,
        )

    -- the part that was written
    written_part : take (file_size w h - 0) (over (net_file net w h) out) ≡ net_file net w h
    written_part =
        let count : file_size w h - 0 ≡ length (net_file net w h) = omega (arith, file_length net w h) in
        ap (λ (n : ℕ). take n (over (net_file net w h) out)) count ∙ take_over (net_file net w h) out

    written_fits : file_size w h ≤ length (over (net_file net w h) out)
    written_fits =
        omega (arith, fits.2, length_over (net_file net w h) out (omega (arith, fits.2, file_length net w h)))

  -- the file was written, and then read
  module _ {n : ℕ} {l : List ℕ} (e : ◌≡◌ {A = ℕ × List ℕ} (0, n ∷ []) (write_answer_with net w h short)) (f : l ≡ write_output_with net w h short out) where
    accepted : (write_refusal net w h short ≡ 0) × (n ∷ [] ≡ file_size w h ∷ [])
    accepted = answered (write_refusal net w h short) (file_size w h ∷ []) e

    none : refusal ≡ 0
    none = sym same_refusal ∙ accepted.0

    count : n ≡ file_size w h
    count = ap (λ (k : List ℕ). get_or k 0 0) accepted.1

    laid : l ≡ over (net_file net w h) out
    laid = f ∙ sym (when_accepted (write_refusal net w h short) (over (net_file net w h) out) out accepted.0)

    pub part_there : n ≤ length l
    part_there = omega (arith, count, ap length laid, written_fits none)

    part : take (n - 0) l ≡ net_file net w h
    part = (λ t. take (count t - 0) (laid t)) ∙ written_part none

    pub copied : {outcome : ℕ × List ℕ} {m : List ℤ} → outcome ≡ read_answer (take (n - 0) l) back →
        m ≡ read_net (take (n - 0) l) back →
        (outcome ≡ answer refusal (w ∷ h ∷ [])) × (l ≡ output_after refusal (net_file net w h) out)
        × (m ≡ output_after refusal (take (numbers w h) net) back)
    copied p q =
        let found = reads_back_net net w h back (fits none).0 (fits none).1 in (
          p
              ∙ ap (λ (file : List ℕ). read_answer file back) part
              ∙ found.0
              ∙ accepted_answer refusal (w ∷ h ∷ []) none refl,
          laid ∙ when_accepted refusal (over (net_file net w h) out) out none,
          q
              ∙ ap (λ (file : List ℕ). read_net file back) part
              ∙ found.1
              ∙ when_accepted refusal (over (take (numbers w h) net) back) back none,
        )

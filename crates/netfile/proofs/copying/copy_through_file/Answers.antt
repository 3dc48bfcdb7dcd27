-- `netfile::copying::copy_through_file` meets its contract: what is read is the part that was written, which reads back
-- to the net.
use mathlib.Core.Path.{◌≡◌, ap, ◌∙◌}
use mathlib.Core.Bool.{Bool, ◌||◌}
use mathlib.Core.List.{List, [], ◌∷◌}
use Prim.Native.Nat.{ℕ}
use lib.IntN.{ℤ}
use lib.ListN.{length}
use Rattle.writer.specs.Refusals.{no_room}
use Rattle.writer.specs.Answers.{write_answer_with, write_output_with}
use Rattle.netfile.proofs.CopyLaws.{short, copied}
use Rattle.netfile.proofs.copying.copy_through_file.Goals as goal
use Rattle.netfile.proofs.copying.copy_through_file.Goals.{In_ok-n}

-- what was answered, and what stands in `out` then
module _ (c : In_ok-n) where
  abbrev net : List ℤ
  net = c.args.net.now

  abbrev w : ℕ
  w = c.args.w

  abbrev h : ℕ
  h = c.args.h

  abbrev out : List ℕ
  out = c.args.out.now

  abbrev back : List ℤ
  back = c.args.back.now

  outcome : ◌≡◌ {A = ℕ × List ℕ} (0, c.in_ok-n.n ∷ []) (write_answer_with net w h (short net w h out back))
  outcome =
      c.in_ok-n.ensures.result_value
      ∙ ap (λ (s : Bool). write_answer_with net w h (s || no_room w h (length out)))
      c.too_short_for-short.ensures

  left : c.write_with.new.out ≡ write_output_with net w h (short net w h out back) out
  left =
      c.write_with.ensures.out_after
      ∙ ap (λ (s : Bool). write_output_with net w h (s || no_room w h (length out)) out)
      c.too_short_for-short.ensures

pub returns : goal.returns
returns c =
    let k = (goal.at.returns c).In_ok-n in
    let r =
    copied (net k) (w k) (h k) (out k) (back k) (outcome k) (left k) c.read.ensures.result_value
    c.read.ensures.net_after in record {
      result_value = r.0;
      out_after = r.1;
      back_after = r.2;
    }

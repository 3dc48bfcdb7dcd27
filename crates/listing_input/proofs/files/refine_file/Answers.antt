-- `listing_input::files::refine_file` meets its contract.
use mathlib.Core.Path.{◌≡◌, sym, ap, subst, ◌∙◌}
use mathlib.Core.List.{[], ◌∷◌}
use lib.ListN.{length}
use Rattle.exact.specs.Filling.{over}
use Rattle.std.proofs.Common.{Result}
use Prim.Native.Nat.{ℕ}
use Rattle.net.specs.declared.refusals.Refusal.{Refusal}
use Rattle.net.specs.Results.{refusal_number}
use Rattle.net.proofs.Results.{handed_on, refusal_there}
use Rattle.net.proofs.Faults.{refused_answer, when_refused}
use Rattle.subdivision.specs.Refinement.{refined_side}
use Rattle.words.specs.NetFile.{file_width, file_height, file_numbers}
use Rattle.reader.specs.Refusals.{read_refusal, short_for}
use Rattle.listing_input.specs.Printed.{list_outcome, ReadyToList, list_refusal, refined_file}
use Rattle.listing_input.proofs.FileLaws.{refused_reading}
use Rattle.listing_input.proofs.files.refine_file.Goals as goal

pub returns-in_err-w : goal.returns-in_err-w
returns-in_err-w c =
    let file = c.args.file.now in
    let net = c.args.net.now in
    let refined = c.args.refined.now in
    let early = read_refusal file (short_for file (length net)) in
    let refusal = list_refusal file (length net) (length refined) in
    let met = handed_on c.from_residual.result c.from_residual.ensures.1 in
    let same : refusal_number c.in_err-w.field-0.0 ≡ early = λ t. (c.in_err-w.ensures t).0 in
    let first = refused_reading file net (length refined) same (refusal_there _) in
    let there : refusal ≡ 0 → ⊥ = λ z. refusal_there _ (first ∙ z) in
    record {
      answered = ap list_outcome met
          ∙ refused_answer refusal (refined_side (file_width file) ∷ refined_side (file_height file) ∷ []) first
          (refusal_there _);
      net_read = when_refused refusal (over (file_numbers file) net) net there;
      net_refined = when_refused refusal (over (refined_file file) refined) refined there;
      ready = subst (λ (r : Result (ℕ × ℕ) Refusal). ReadyToList r refined) (sym met) tt;
    }

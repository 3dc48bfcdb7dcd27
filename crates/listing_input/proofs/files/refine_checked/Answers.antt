-- `listing_input::files::refine_checked` meets its contract.
use mathlib.Core.Path.{◌≡◌, refl, sym, ap, subst, ◌∙◌}
use mathlib.Core.Bool.{false}
use mathlib.Core.List.{List, [], ◌∷◌}
use Prim.Native.Nat.{ℕ}
use lib.IntN.{ℤ}
use lib.ListN.{length, get_or}
use Rattle.exact.specs.Filling.{over}
use Rattle.std.proofs.Common.{Result}
use Rattle.net.specs.declared.refusals.Refusal.{Refusal}
use Rattle.net.specs.Refusals.{bad_size, output_after, AcceptedNet}
use Rattle.net.proofs.Faults.{answered, accepted_answer, refused_answer, when_accepted, when_refused}
use Rattle.net.proofs.Results.{handed_on, refusal_there}
use Rattle.net.proofs.Places.{GoodSize, good_size}
use Rattle.subdivision.specs.Refinement.{refined_side}
use Rattle.steps.specs.RefinedNet.{refined_net}
use Rattle.refine.specs.Refusals.{too_short, refine_refusal}
use Rattle.words.specs.NetFile.{file_width, file_height, file_numbers}
use Rattle.reader.specs.Refusals.{read_refusal, short_for}
use Rattle.reader.proofs.ReadLaws.{read_parts, good_head}
use Rattle.listing_input.specs.Printed.{list_outcome, ReadyToList, list_refusal, step_refusal, refined_file}
use Rattle.listing_input.proofs.FileLaws.{refusal_after, refusal_first, refined_after_lem, accepted_after}
use Rattle.listing_input.proofs.files.refine_checked.Goals as goal
use Rattle.listing_input.proofs.files.refine_checked.Goals.{Start}

module _ (s : Start) where
  abbrev file : List ℕ
  file = s.args.file.now

  abbrev net : List ℤ
  net = s.args.net.now

  abbrev refined : List ℤ
  refined = s.args.refined.now

  abbrev early : ℕ
  early = read_refusal file (short_for file (length net))

  abbrev refusal : ℕ
  refusal = list_refusal file (length net) (length refined)

  abbrev sides : List ℕ
  sides = refined_side (file_width file) ∷ refined_side (file_height file) ∷ []

  -- the file reads as a net of this size
  known : (early ≡ 0) × (s.args.w ∷ s.args.h ∷ [] ≡ file_width file ∷ file_height file ∷ [])
  known = answered early (file_width file ∷ file_height file ∷ []) (sym s.requires)

  wide : s.args.w ≡ file_width file
  wide = ap (λ (l : List ℕ). get_or l 0 0) known.1

  high : s.args.h ≡ file_height file
  high = ap (λ (l : List ℕ). get_or l 1 0) known.1

  size_read : bad_size s.args.w s.args.h ≡ false
  size_read =
      (λ t. bad_size (wide t) (high t))
      ∙ (good_head file false (length net) (read_parts file (short_for file (length net)) known.0).0).size

  good : GoodSize s.args.w s.args.h
  good = good_size s.args.w s.args.h size_read

  -- 4 and 5 are all that is left to refuse
  first : step_refusal s.args.w s.args.h (length refined) ≡ refusal
  first = (λ t. step_refusal (wide t) (high t) (length refined)) ∙ refusal_first file net (length refined) known.0

pub returns-in_err-step_refusal : goal.returns-in_err-step_refusal
returns-in_err-step_refusal c =
    let s = (goal.at.returns-in_err-step_refusal c).Start in
    let same = c.in_err-step_refusal.ensures ∙ first s in
    let there : refusal s ≡ 0 → ⊥ = λ z. refusal_there _ (same ∙ z) in
    let met = handed_on c.from_residual.result c.from_residual.ensures.1 in
    record {
      answered = ap list_outcome met ∙ refused_answer (refusal s) (sides s) same (refusal_there _);
      net_read = when_refused (refusal s) (over (file_numbers (file s)) (net s)) (net s) there;
      net_refined = when_refused (refusal s) (over (refined_file (file s)) (refined s)) (refined s) there;
      ready = subst (λ (r : Result (ℕ × ℕ) Refusal). ReadyToList r (refined s)) (sym met) tt;
    }

pub returns : goal.returns
returns c =
    let s = (goal.at.returns c).Start in
    let w = refined_side (file_width (file s)) in
    let h = refined_side (file_height (file s)) in
    let room = length (refined s) in
    let none : refusal s ≡ 0 = sym (c.in_ok-step_refusal.ensures ∙ first s) in
    let read = c.read.ensures.net_after in
    let left =
    c.refine.ensures.out_after
    ∙ (λ t. output_after (refine_refusal (read t) (wide s t) (high s t) 1 (too_short (wide s t) (high s t) 1 room 0))
    (refined_net (read t) (wide s t) (high s t) 1) (refined s))
    ∙ (λ t. output_after (refusal_after (file s) (net s) room (known s).0 t)
    (refined_after_lem (file s) (net s) room (known s).0 t) (refined s)) in
    record {
      answered = accepted_answer (refusal s) (sides s) none (λ t. refined_side (wide s t) ∷ refined_side (high s t) ∷ []);
      net_read = read ∙ sym (when_accepted (early s) (over (file_numbers (file s)) (net s)) (net s) (known s).0)
          ∙ when_accepted (refusal s) (over (file_numbers (file s)) (net s)) (net s) none;
      net_refined = left;
      ready =
          subst (λ (l : List ℤ). AcceptedNet l (refined_side s.args.w) (refined_side s.args.h))
          (when_accepted (refusal s) (over (refined_file (file s)) (refined s)) (refined s) none ∙ sym left)
          (subst (λ (l : List ℕ). AcceptedNet (over (refined_file (file s)) (refined s)) (refined_side (get_or l 0 0))
          (refined_side (get_or l 1 0))) (sym (known s).1)
          (accepted_after (file s) (net s) room (known s).0 (refined s) refl none));
    }

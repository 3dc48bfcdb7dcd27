-- From what splitting, cleaning and merging promise, one after the other, to what the functions promise that call them.
use Rattle.std.specs.Prelude.{Result, Ok, Err}
use mathlib.Core.Path.{◌≡◌, sym, ap, subst, ◌∙◌}
use mathlib.Core.Bool.{Bool, true, false, ◌||◌, cond}
use mathlib.Core.List.{List, [], ◌∷◌, ◌++◌}
use Prim.Native.Nat.{ℕ, ◌≤◌}
use lib.Dec.{ltb, lit<}
use lib.IntN.{ℤ}
use lib.ListN.{length, take}
use borrow.Author.Tests.{ltb-false}
use Rattle.exact.specs.Filling.{over}
use Rattle.net.specs.Net.{numbers}
use Rattle.net.specs.declared.refusals.Refusal.{Refusal}
use Rattle.net.specs.Results.{refusal_number}
use Rattle.net.specs.Refusals.{Fault, first_fault, bad_size, accepted, output_after, answer_by, too_short_for}
use Rattle.net.proofs.Results.{refusal_there}
use Rattle.net.proofs.Faults.{or_none, Clear, none_clear, fault_before, fault_after, not_carried_out, when_accepted, when_refused}
use Rattle.details.specs.Refusals.{too_great}
use Rattle.details.specs.Cleaning.{clean_output}
use Rattle.details.proofs.DetailLaws.{cleans}
use Rattle.coarse.specs.Coarse.{coarse_side, coarse_net}
use Rattle.split.specs.Refusals.{odd_faults, split_faults, outputs_short}
use Rattle.split.specs.Answers.{SplitContract}
use Rattle.split.proofs.SplitLaws.{Splittable, split_accepted}
use Rattle.merge.specs.Merge.{merged_net}
use Rattle.merge.specs.Answers.{merge_refusal_of, merge_output, MergeContract}
use Rattle.multiresolution.specs.Promises.{coarse_left, details_left, MovedBelow}
use Rattle.multiresolution.specs.Calls.{round_trip_refusal, RoundTrip, cleaned_refusal, CleanedNet}
use Rattle.multiresolution.proofs.RoundTrip.{untouched, merges_back, no_refusal, output_is, moved}

-- a refusal's number is its own
refused_by : {n r : ℕ} → ◌≡◌ {A = ℕ × Bool} (n, false) (answer_by r) → (n ≡ r) × (r ≡ 0 → ⊥)
refused_by {n} {r} e = (λ t. (e t).0, λ z. true_false ((λ t. (e t).1) ∙ ap accepted z))
  where
    true_false : false ≡ true → ⊥
    true_false q = subst (λ (b : Bool). cond b ⊥ (Unit {0})) q tt

module _ (net : List ℤ) (w h : ℕ) (coarse details out : List ℤ) where
  abbrev pub split_refused : ℕ
  split_refused = round_trip_refusal net w h coarse details out

  -- what splitting promised, with the output of the whole as another output
  abbrev pub Split : Result (Unit {0}) Refusal → List ℤ → List ℤ → Type 0
  Split = SplitContract net w h (too_short_for w h (length out)) coarse details

  -- the same, where the code has found whether the output of the whole is too short
  pub known : {b : Bool} {r : Result (Unit {0}) Refusal} {coarse' details' : List ℤ} → b ≡ too_short_for w h (length out) →
      SplitContract net w h b coarse details r coarse' details' → Split r coarse' details'
  known {b} {r} {coarse'} {details'} e k = subst (λ (x : Bool). SplitContract net w h x coarse details r coarse' details') e k

  -- an accepted split, and what it left
  pub record Accepted (coarse' details' : List ℤ) : Type 0 where
    pub none : split_refused ≡ 0
    pub can : Splittable net w h (length coarse) (length details)
    pub room : numbers w h ≤ length out
    pub coarse_is : coarse' ≡ coarse_left net w h coarse
    pub details_is : details' ≡ details_left net w h details

  has_room : bad_size w h ≡ false → too_short_for w h (length out) ≡ false → numbers w h ≤ length out
  has_room e f =
      ltb-false (length out) (numbers w h) (sym (ap (λ (b : Bool). cond b false (ltb (length out) (numbers w h))) e) ∙ f)

  pub accepted_split : {coarse' details' : List ℤ} → Split (Ok tt) coarse' details' → Accepted coarse' details'
  accepted_split k =
      let none : split_refused ≡ 0 = λ t. (sym k.answer t).0 in
      let short = too_short_for w h (length out) in
      let s = split_accepted net w h short (length coarse) (length details) none in
      let c =
      none_clear (odd_faults w h ++ split_faults net w h (short || outputs_short w h (length coarse) (length details)))
      (lit< tt, (lit< tt, (lit< tt, (lit< tt, (lit< tt, (lit< tt, tt)))))) none in
      record {
        none = none;
        can = s;
        room = has_room s.given.size (or_none short (outputs_short w h (length coarse) (length details)) c.1.1.1.0).0;
        coarse_is = k.coarse_after ∙ sym (when_accepted split_refused (coarse_left net w h coarse) coarse none);
        details_is = k.details_after ∙ sym (when_accepted split_refused (details_left net w h details) details none);
      }

  -- ---- splitting and merging

  pub round_trip_done : {b : Bool} {r : Result (Unit {0}) Refusal} {coarse' details' out' : List ℤ} →
      b ≡ too_short_for w h (length out) → SplitContract net w h b coarse details (Ok tt) coarse' details' →
      MergeContract coarse' details' (coarse_side w) (coarse_side h) out r out' →
      RoundTrip net w h coarse details out r coarse' details' out'
  round_trip_done {b} {r} {coarse'} {details'} {out'} e split m =
      let k = known e split in
      let a = accepted_split k in
      let d = details_left net w h details in
      let u = untouched net w h coarse details a.can in
      let none = no_refusal net w h coarse details a.can 0 d u out a.room in
      record {
        answer =
            m.answer
            ∙ (λ t. answer_by (merge_refusal_of (a.coarse_is t) (a.details_is t) (coarse_side w) (coarse_side h) out))
            ∙ ap answer_by (none ∙ sym a.none);
        coarse_after = k.coarse_after;
        details_after = k.details_after;
        out_after =
            m.out_after
            ∙ (λ t. merge_output (a.coarse_is t) (a.details_is t) (coarse_side w) (coarse_side h) out)
            ∙ output_is net w h coarse details a.can 0 d u out a.room
            ∙ ap (λ (l : List ℤ). over l out) (merges_back net w h coarse details a.can)
            ∙ when_accepted split_refused (over (take (numbers w h) net) out) out a.none;
      }

  -- ---- splitting, cleaning and merging

  module _ (t : ℕ) where
    abbrev pub refused : ℕ
    refused = cleaned_refusal net w h t coarse details out

    -- 1, 10 and 12
    abbrev pub first_faults : List Fault
    first_faults = odd_faults w h ++ (too_great t, 12) ∷ []

    abbrev pub First : Type 0
    First = Clear first_faults

    first_clear : 0 ≡ first_fault first_faults → First
    first_clear e = none_clear first_faults (lit< tt, (lit< tt, (lit< tt, tt))) (sym e)

    -- where these do not refuse, the refusals are those of splitting
    same_refusal : First → split_refused ≡ refused
    same_refusal k =
        let rest = split_faults net w h (too_short_for w h (length out) || outputs_short w h (length coarse) (length details)) in
        sym (fault_after (odd_faults w h) rest (k.0, (k.1.0, tt)))
        ∙ fault_after first_faults rest k

    pub cleaned_done : {b : Bool} {r : Result (Unit {0}) Refusal} {coarse' details' details'' out' : List ℤ} →
        0 ≡ first_fault first_faults → b ≡ too_short_for w h (length out) →
        SplitContract net w h b coarse details (Ok tt) coarse' details' → details'' ≡ clean_output details' w h t →
        MergeContract coarse' (clean_output details' w h t) (coarse_side w) (coarse_side h) out r out' →
        CleanedNet net w h t coarse details out r coarse' details'' out'
    cleaned_done {b} {r} {coarse'} {details'} {details''} {out'} first f split e m =
        let k = known f split in
        let a = accepted_split k in
        let d = details_left net w h details in
        let same = same_refusal (first_clear first) in
        let zero : refused ≡ 0 = sym same ∙ a.none in
        let left : clean_output details' w h t ≡ clean_output d w h t = ap (λ (l : List ℤ). clean_output l w h t) a.details_is in
        let none = no_refusal net w h coarse details a.can t (clean_output d w h t) (cleans d w h t) out a.room in
        let merging : merge_refusal_of coarse' (clean_output details' w h t) (coarse_side w) (coarse_side h) out ≡ 0 =
        (λ u. merge_refusal_of (a.coarse_is u) (left u) (coarse_side w) (coarse_side h) out) ∙ none in
        record {
          answer = m.answer ∙ ap answer_by (merging ∙ sym zero);
          coarse_after = k.coarse_after ∙ ap (λ (n : ℕ). output_after n (coarse_net net w h) coarse) same;
          details_after = e ∙ left ∙ when_accepted refused (clean_output d w h t) details zero;
          out_after =
              m.out_after
              ∙ (λ u. output_after (merging u) (merged_net coarse' (sym e u) (coarse_side w) (coarse_side h)) out)
              ∙ ap (λ (n : ℕ). output_after n (merged_net coarse' details'' (coarse_side w) (coarse_side h)) out) (sym zero);
          moved =
              λ z some.
              subst (λ (l : List ℤ). MovedBelow t net l w h)
              (sym (m.out_after ∙ (λ u. merge_output (a.coarse_is u) (left u) (coarse_side w) (coarse_side h) out)))
              (moved net w h coarse details a.can t (clean_output d w h t) (cleans d w h t) out a.room some);
        }

    -- refused: nothing has changed
    nothing_cleaned : {n : Refusal} → refusal_number n ≡ refused → (refusal_number n ≡ 0 → ⊥) →
        CleanedNet net w h t coarse details out (Err n) coarse details out
    nothing_cleaned e there =
        let r : refused ≡ 0 → ⊥ = λ z. there (e ∙ z) in
        record {
          answer = not_carried_out refused e there;
          coarse_after = when_refused refused (coarse_left net w h coarse) coarse r;
          details_after = when_refused refused (clean_output (details_left net w h details) w h t) details r;
          out_after = when_refused refused (over (merged_net coarse details (coarse_side w) (coarse_side h)) out) out r;
          moved = λ z some. absurd (r z);
        }

    pub first_refused : {n : Refusal} → refusal_number n ≡ first_fault first_faults →
        CleanedNet net w h t coarse details out (Err n) coarse details out
    first_refused {n} e =
        nothing_cleaned
        (e ∙ fault_before first_faults
        (split_faults net w h (too_short_for w h (length out) || outputs_short w h (length coarse) (length details)))
        (λ z. refusal_there n (e ∙ z))) (refusal_there n)

    pub cleaned_refused : {b : Bool} {n : Refusal} {coarse' details' : List ℤ} →
        0 ≡ first_fault first_faults → b ≡ too_short_for w h (length out) →
        SplitContract net w h b coarse details (Err n) coarse' details' →
        CleanedNet net w h t coarse details out (Err n) coarse' details' out
    cleaned_refused {b} {n} {coarse'} {details'} first f split =
        let k = known f split in
        let there = refused_by k.answer in
        let c : coarse ≡ coarse' = when_refused split_refused (coarse_left net w h coarse) coarse there.1 ∙ sym k.coarse_after in
        let d : details ≡ details' = when_refused split_refused (details_left net w h details) details there.1 ∙ sym k.details_after in
        subst (λ (x : List ℤ). CleanedNet net w h t coarse details out (Err n) x details' out) c
        (subst (λ (x : List ℤ). CleanedNet net w h t coarse details out (Err n) coarse x out) d
        (nothing_cleaned (there.0 ∙ same_refusal (first_clear first)) (λ z. there.1 (sym there.0 ∙ z))))

-- What is known where no fault before 14 is there, and what the calls that refine with an outline leave then.
use mathlib.Core.Path.{◌≡◌, refl, ap, subst, ◌∙◌}
use mathlib.Core.Bool.{true, false, not, cond}
use mathlib.Core.List.{List, ◌++◌}
use Prim.Native.Nat.{ℕ, ◌≤◌}
use lib.Dec.{ltb, lit<}
use lib.IntN.{ℤ}
use lib.ListN.{length}
use borrow.Author.Tests.{ltb-false}
use Rattle.exact.specs.Filling.{over, UnchangedFrom}
use Rattle.net.specs.Refusals.{Fault, first_fault, bad_size, short_net, net_beyond, output_after}
use Rattle.net.proofs.Faults.{Clear, Numbered, none_clear, fault_after, or_none, cond_true, cond_false, when_refused}
use Rattle.outline.specs.Outline.{triangles}
use Rattle.outline.specs.Connected.{connected}
use Rattle.outline.specs.Refusals.{short_outline, bad_byte, short_search, outlined_faults, free_search}
use Rattle.subdivision.specs.Refinement.{side_after}
use Rattle.steps.specs.RefinedNet.{refined_net}
use Rattle.refine.specs.Refusals.{too_deep, too_short, size_faults}
use Rattle.refine.specs.Answers.{refusal_of}
use Rattle.refine.proofs.CallLaws.{Left}
use Rattle.fine_outline.specs.FineOutline.{fine_outline}
use Rattle.outlined_refine.specs.Refusals.{outlined_short, faults_before, late_faults}
use Rattle.outlined_refine.specs.Answers.{OutlinedLeft}

-- a net with its outline, and lent lengths, that no fault before 14 refuses
pub record Searchable (net : List ℤ) (w h k : ℕ) (outline : List ℕ) (room scratch_length fine_length search_length : ℕ) : Type 0 where
  pub size : bad_size w h ≡ false
  pub deep : too_deep w h k ≡ false
  pub long : short_net net w h ≡ false
  pub bytes : triangles w h ≤ length outline
  pub good : bad_byte outline w h ≡ false
  pub roomy : too_short w h k room scratch_length ≡ false
  pub fine : triangles (side_after k w) (side_after k h) ≤ fine_length
  pub search : triangles w h ≤ search_length

module _ (net : List ℤ) (w h k : ℕ) (outline : List ℕ) (room scratch_length fine_length search_length : ℕ) where
  pub searchable : Clear (size_faults w h k) → Clear (outlined_faults net w h outline) →
      outlined_short w h k room scratch_length fine_length search_length ≡ false →
      Searchable net w h k outline room scratch_length fine_length search_length
  searchable a b c =
      let two = or_none (short_net net w h) (short_outline outline w h) b.0 in
      let five = or_none (too_short w h k room scratch_length) _ c in
      let lent = or_none (ltb fine_length (triangles (side_after k w) (side_after k h))) (short_search w h search_length) five.1 in
      record {
        size = a.0;
        deep = a.1.0;
        long = two.0;
        bytes = ltb-false _ _ two.1;
        good = b.1.0;
        roomy = five.0;
        fine = ltb-false _ _ lent.0;
        search = ltb-false _ _ lent.1;
      }

  pub searchable_by :
      first_fault (faults_before net w h k outline (outlined_short w h k room scratch_length fine_length search_length)) ≡ 0 →
      Searchable net w h k outline room scratch_length fine_length search_length
  searchable_by e =
      let all = none_clear (faults_before net w h k outline (outlined_short w h k room scratch_length fine_length search_length))
      (lit< tt, (lit< tt, (lit< tt, (lit< tt, (lit< tt, tt))))) e in
      searchable (all.0, (all.1.0, tt)) (all.1.1.0, (all.1.1.1.0, tt)) all.1.1.1.1.0

-- the faults from 14 on, past those before: 14 where the present triangles are not connected, and else 3 or none
module _ (net : List ℤ) (w h : ℕ) (outline : List ℕ) (before : List Fault) (numbered : Numbered before) (none : first_fault before ≡ 0) where
  abbrev whole : ℕ
  whole = first_fault (before ++ late_faults net w h outline)

  past : first_fault (late_faults net w h outline) ≡ whole
  past = fault_after before (late_faults net w h outline) (none_clear before numbered none)

  pub refused_apart : connected outline w h ≡ false → 14 ≡ whole
  refused_apart e = cond_true _ 14 _ (ap not e) ∙ past

  pub refused_range : connected outline w h ≡ true → cond (net_beyond net w h) 3 0 ≡ whole
  refused_range e = cond_false _ 14 _ (ap not e) refl ∙ past

-- plain refining can then refuse by 3 alone
pub plain_refusal : (net : List ℤ) (w h k : ℕ) (outline : List ℕ) (out scratch : List ℤ) (fine_length search_length : ℕ) →
    Searchable net w h k outline (length out) (length scratch) fine_length search_length →
    cond (net_beyond net w h) 3 0 ≡ refusal_of net w h k out scratch
plain_refusal net w h k outline out scratch fine_length search_length s =
    cond_false _ 1 _ s.size
    (cond_false _ 4 _ s.deep (cond_false _ 2 _ s.long (cond_false _ 5 _ s.roomy refl)))

-- ---- what stands in the four slices

module _ (before : List Fault) (net : List ℤ) (w h k : ℕ) (outline : List ℕ) (out scratch : List ℤ) (fine search : List ℕ) where
  -- a refusal before 14, and 14: nothing but the search has changed
  pub left_refused : (r : ℕ) → (r ≡ 0 → ⊥) → (search_after : List ℕ) → UnchangedFrom (free_search before w h) search search_after →
      OutlinedLeft r before net w h k outline out scratch fine search out scratch fine search_after
  left_refused r there search_after u =
      record {
        output = when_refused r (over (refined_net net w h k) out) out there;
        scratch_free = (refl, refl);
        fine_output = when_refused r (over (fine_outline outline w h k) fine) fine there;
        search_free = u;
      }

  -- plain refining and the fine outline, by plain refining's refusal, which is then the call's
  pub left_by : (r : ℕ) (out_after scratch_after : List ℤ) (fine_after search_after : List ℕ) {n : ℕ} → n ≡ r →
      Left n k w h (refined_net net w h k) out scratch out_after scratch_after →
      fine_after ≡ output_after n (fine_outline outline w h k) fine →
      UnchangedFrom (free_search before w h) search search_after →
      OutlinedLeft r before net w h k outline out scratch fine search out_after scratch_after fine_after search_after
  left_by r out_after scratch_after fine_after search_after same left e u =
      let plain = subst (λ (m : ℕ). Left m k w h (refined_net net w h k) out scratch out_after scratch_after) same left in
      record {
        output = plain.0;
        scratch_free = plain.1;
        fine_output = e ∙ ap (λ (m : ℕ). output_after m (fine_outline outline w h k) fine) same;
        search_free = u;
      }

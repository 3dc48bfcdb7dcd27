-- What is known where no fault before 14 is there, and the contract from plain refining and its point.
use mathlib.Core.Path.{◌≡◌, refl, ◌∙◌}
use mathlib.Core.Bool.{Bool, false, cond}
use mathlib.Core.List.{List, [], ◌++◌}
use Prim.Native.Nat.{ℕ}
use lib.Dec.{lit<}
use lib.IntN.{ℤ}
use lib.ListN.{length}
use Rattle.exact.specs.Filling.{UnchangedFrom}
use Rattle.net.specs.Refusals.{Fault, first_fault, accepted, net_beyond, output_after}
use Rattle.net.proofs.Faults.{none_clear, or_none, cond_false, refused_answer}
use Rattle.outline.specs.Refusals.{free_search}
use Rattle.refined_points.specs.Refusals.{off_grid}
use Rattle.refined_points.specs.Answers.{refusal_at, refined_surface_point}
use Rattle.refined_points.specs.Contract.{RefinedPointContract}
use Rattle.fine_outline.specs.FineOutline.{fine_outline}
use Rattle.outlined_refine.specs.Refusals.{late_faults}
use Rattle.outlined_refine.specs.Answers.{short_of}
use Rattle.outlined_refine.proofs.CallLaws.{Searchable, searchable, left_refused, left_by}
use Rattle.outlined_refined_points.specs.Answers.{point_faults_of, outlined_refusal_at}
use Rattle.outlined_refined_points.specs.Contract.{OutlinedPointContract}

-- as in refining with an outline, and the place is one of the refined grid
pub record PointSearchable (net : List ℤ) (w h k : ℕ) (outline : List ℕ) (p q : ℕ) (out scratch : List ℤ) (fine search : List ℕ) : Type 0 where
  pub parts : Searchable net w h k outline (length out) (length scratch) (length fine) (length search)
  pub place : off_grid w h k p q ≡ false

pub searchable_at : (net : List ℤ) (w h k : ℕ) (outline : List ℕ) (p q : ℕ) (other : Bool) (out scratch : List ℤ)
    (fine search : List ℕ) →
    first_fault (point_faults_of net w h k outline p q other out scratch fine search) ≡ 0 →
    PointSearchable net w h k outline p q out scratch fine search
searchable_at net w h k outline p q other out scratch fine search e =
    let all = none_clear (point_faults_of net w h k outline p q other out scratch fine search)
    (lit< tt, (lit< tt, (lit< tt, (lit< tt, (lit< tt, (lit< tt, (lit< tt, tt))))))) e in
    let late = all.1.1.1 in
    record {
      parts =
          searchable net w h k outline (length out) (length scratch) (length fine) (length search)
          (all.0, (all.1.0, tt)) (late.0, (late.1.0, tt))
          (or_none other (short_of w h k out scratch fine search) late.1.1.1.0).1;
      place = all.1.1.0;
    }

-- plain refining and its point can then refuse by 3 alone
pub plain_point_refusal : (net : List ℤ) (w h k : ℕ) (outline : List ℕ) (p q : ℕ) (out scratch : List ℤ)
    (fine search : List ℕ) → PointSearchable net w h k outline p q out scratch fine search →
    cond (net_beyond net w h) 3 0 ≡ refusal_at net w h k p q false out scratch
plain_point_refusal net w h k outline p q out scratch fine search s =
    let r = s.parts in
    cond_false _ 1 _ r.size
    (cond_false _ 4 _ r.deep
    (cond_false _ 6 _ s.place (cond_false _ 2 _ r.long (cond_false _ 5 _ r.roomy refl))))

module _ (net : List ℤ) (w h k : ℕ) (outline : List ℕ) (p q : ℕ) (other : Bool) (out scratch : List ℤ) (fine search : List ℕ) where
  abbrev before : List Fault
  before = point_faults_of net w h k outline p q other out scratch fine search

  abbrev refusal : ℕ
  refusal = outlined_refusal_at net w h k outline p q other out scratch fine search

  -- a refusal before 14, and 14
  pub refused_contract : {n : ℕ} → n ≡ refusal → (n ≡ 0 → ⊥) → (search_after : List ℕ) →
      UnchangedFrom (free_search before w h) search search_after →
      OutlinedPointContract net w h k outline p q other out scratch fine search (n, []) out scratch fine search_after
  refused_contract {n} e there search_after u =
      record {
        answer = refused_answer refusal (refined_surface_point net w h k p q) e there;
        left = left_refused before net w h k outline out scratch fine search refusal (λ z. there (e ∙ z)) search_after u;
        demand_three = λ z. absurd (there (e ∙ z));
      }

  -- plain refining and its point, whose refusal is then the call's
  pub plain_contract : {outcome : ℕ × List ℤ} (out_after scratch_after : List ℤ) (fine_after search_after : List ℕ) →
      refusal_at net w h k p q false out scratch ≡ refusal →
      RefinedPointContract net w h k p q false out scratch outcome out_after scratch_after →
      fine_after ≡ output_after (refusal_at net w h k p q false out scratch) (fine_outline outline w h k) fine →
      UnchangedFrom (free_search before w h) search search_after →
      OutlinedPointContract net w h k outline p q other out scratch fine search outcome out_after scratch_after fine_after
      search_after
  plain_contract out_after scratch_after fine_after search_after same plain e u =
      record {
        answer = plain.answer ∙ (λ t. (same t, cond (accepted (same t)) (refined_surface_point net w h k p q) []));
        left =
            left_by before net w h k outline out scratch fine search refusal out_after scratch_after fine_after search_after
            same (plain.output, plain.scratch_free) e u;
        demand_three = λ z. plain.demand_three (same ∙ z);
      }

  -- the other lent output is long enough where nothing is refused
  pub point_fits : refusal ≡ 0 → other ≡ false
  point_fits e =
      let rows =
      none_clear (before ++ late_faults net w h outline)
      (lit< tt, (lit< tt, (lit< tt, (lit< tt, (lit< tt, (lit< tt, (lit< tt, (lit< tt, (lit< tt, tt))))))))) e in
      (or_none other (short_of w h k out scratch fine search) rows.1.1.1.1.1.1.0).0

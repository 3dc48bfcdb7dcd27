-- The contract of the two points of a seam, from that of each point.
use mathlib.Core.Path.{◌≡◌, refl, sym, subst, ◌∙◌}
use mathlib.Core.Bool.{Bool, false, not, ◌||◌}
use mathlib.Core.List.{List, [], ◌∷◌, ◌++◌}
use Prim.Native.Nat.{ℕ, ◌*◌, ◌^◌}
use lib.Dec.{lit<, eqb}
use lib.IntN.{ℤ}
use lib.ListN.{length}
use borrow.Author.Tests.{eqb-true, not-false}
use Rattle.exact.specs.Filling.{UnchangedFrom}
use Rattle.net.specs.Refusals.{Fault, first_fault, bad_size, output_after}
use Rattle.net.proofs.Faults.{Clear, none_clear, clear_none, clear_parts, fault_after, or_none, answered, not_accepted, accepted_answer, refused_answer, fault_before}
use Rattle.steps.specs.RefinedNet.{refined_net}
use Rattle.refine.specs.Refusals.{too_deep, too_short, size_faults, net_faults}
use Rattle.refine.specs.Answers.{free_scratch}
use Rattle.refine.proofs.CallLaws.{left_refused}
use Rattle.refined_points.specs.Refusals.{off_grid}
use Rattle.refined_points.specs.Answers.{refusal_at, refined_surface_point}
use Rattle.refined_points.specs.DemandThree.{Claimed}
use Rattle.refined_points.specs.Contract.{RefinedPointContract}
use Rattle.seam.specs.Seam.{SamePlace}
use Rattle.seam.specs.Refusals.{other_place, places_faults}
use Rattle.seam.specs.Answers.{seam_refusal_at, seam_points, seam_answer, SeamHolds}
use Rattle.seam.specs.Contract.{SeamLeft}
use Rattle.seam.proofs.Seam.{same_point, seam_claimed}

-- ---- depths and places that 1, 4 and 6 do not refuse

pub record SeamPlaced (w h k l p q p2 q2 : ℕ) : Type 0 where
  pub size : bad_size w h ≡ false
  pub deep : too_deep w h k ≡ false
  pub deep2 : too_deep w h l ≡ false
  pub on : off_grid w h k p q ≡ false
  pub on2 : off_grid w h l p2 q2 ≡ false
  pub same : SamePlace k l p q p2 q2

pub places_clear : (w h k l p q p2 q2 : ℕ) → first_fault (places_faults w h k l p q p2 q2) ≡ 0 →
    Clear (places_faults w h k l p q p2 q2)
places_clear w h k l p q p2 q2 = none_clear (places_faults w h k l p q p2 q2) (lit< tt, (lit< tt, (lit< tt, tt)))

pub seam_placed : (w h k l p q p2 q2 : ℕ) → Clear (places_faults w h k l p q p2 q2) → SeamPlaced w h k l p q p2 q2
seam_placed w h k l p q p2 q2 c =
    let deep = or_none (too_deep w h k) (too_deep w h l) c.1.0 in
    let places = or_none (off_grid w h k p q) (off_grid w h l p2 q2 || other_place k l p q p2 q2) c.1.1.0 in
    let others = or_none (off_grid w h l p2 q2) (other_place k l p q p2 q2) places.1 in
    let same = or_none (not (eqb (p * 2 ^ l) (p2 * 2 ^ k))) (not (eqb (q * 2 ^ l) (q2 * 2 ^ k))) others.1 in
    record {
      size = c.0;
      deep = deep.0;
      deep2 = deep.1;
      on = places.0;
      on2 = others.0;
      same = (eqb-true _ _ (not-false _ same.0), eqb-true _ _ (not-false _ same.1));
    }

-- ---- the contract

module _ (net : List ℤ) (w h k l p q p2 q2 : ℕ) (other : Bool) (out scratch out2 scratch2 : List ℤ) where
  abbrev refusal : ℕ
  refusal = seam_refusal_at net w h k l p q p2 q2 other out scratch out2 scratch2

  abbrev short : Bool
  short = other || too_short w h k (length out) (length scratch)

  abbrev rest : List Fault
  rest = net_faults net w h (short || too_short w h l (length out2) (length scratch2))

  -- where nothing is refused, 2, 5 and 3 are not there, and both the other output and the first have room
  rest_clear : refusal ≡ 0 → Clear rest
  rest_clear none =
      (clear_parts (places_faults w h k l p q p2 q2) rest
      (none_clear (places_faults w h k l p q p2 q2 ++ rest)
      (lit< tt, (lit< tt, (lit< tt, (lit< tt, (lit< tt, (lit< tt, tt)))))) none)).1

  pub rooms : refusal ≡ 0 → (other ≡ false) × (too_short w h k (length out) (length scratch) ≡ false)
  rooms none =
      or_none other (too_short w h k (length out) (length scratch))
      (or_none short (too_short w h l (length out2) (length scratch2)) (rest_clear none).1.0).0

  -- what the call ensures of its outcome and of the slices after it
  abbrev pub Ensured : List ℤ → List ℤ → List ℤ → List ℤ → ℕ × List ℤ → Type 0
  Ensured out' scratch' out2' scratch2' o =
      (o ≡ seam_answer net w h k l p q p2 q2 other out scratch out2 scratch2)
      × (SeamLeft o.0 net w h k l out scratch out2 scratch2 out' scratch' out2' scratch2'
      × (o.0 ≡ 0 → SeamHolds net w h k l p q p2 q2 o.0 o.1))

  -- a refusal that has changed nothing
  refused_with : {n : ℕ} {out2' scratch2' : List ℤ} → n ≡ refusal → (n ≡ 0 → ⊥) →
      out2' ≡ output_after n (refined_net net w h l) out2 → UnchangedFrom (free_scratch n l w h) scratch2 scratch2' →
      Ensured out scratch out2' scratch2' (n, [])
  refused_with {n} e there o u =
      let left = left_refused n k w h (refined_net net w h k) out scratch there in (
        refused_answer refusal (seam_points net w h k l p q p2 q2) e there,
        (record { output = left.0; scratch_free = left.1; output2 = o; scratch_free2 = u }, λ z. absurd (there z)),
      )

  -- by 1, 4 or 6
  pub places_refused : {n : ℕ} → n ≡ first_fault (places_faults w h k l p q p2 q2) → (n ≡ 0 → ⊥) →
      Ensured out scratch out2 scratch2 (n, [])
  places_refused {n} e there =
      let left2 = left_refused n l w h (refined_net net w h l) out2 scratch2 there in
      refused_with (e ∙ fault_before (places_faults w h k l p q p2 q2) rest (λ z. there (e ∙ z))) there left2.0
      left2.1

  -- past these the second point, with what the first lacks of room, has the refusals of both
  module _ (clear : Clear (places_faults w h k l p q p2 q2)) (out2' scratch2' : List ℤ) where
    abbrev placed : SeamPlaced w h k l p q p2 q2
    placed = seam_placed w h k l p q p2 q2 clear

    abbrev second_refusal : ℕ
    second_refusal = refusal_at net w h l p2 q2 short out2 scratch2

    by_second : second_refusal ≡ refusal
    by_second =
        sym (fault_after (size_faults w h l ++ (off_grid w h l p2 q2, 6) ∷ []) rest
        (placed.size, (placed.deep2, (placed.on2, tt))))
        ∙ fault_after (places_faults w h k l p q p2 q2) rest clear

    pub second_refused : {n : ℕ} →
        RefinedPointContract net w h l p2 q2 short out2 scratch2 (n, []) out2' scratch2' →
        Ensured out scratch out2' scratch2' (n, [])
    second_refused {n} second =
        let values = refined_surface_point net w h l p2 q2 in
        let same : second_refusal ≡ n = λ t. (sym second.answer t).0 in
        refused_with (sym same ∙ by_second) (λ z. not_accepted second_refusal values (lit< tt) second.answer (same ∙ z))
        (second.output ∙ (λ t. output_after (same t) (refined_net net w h l) out2))
        (subst (λ (m : ℕ). UnchangedFrom (free_scratch m l w h) scratch2 scratch2') same second.scratch_free)

    -- both points are answered
    module _ {xyz : List ℤ} (second : RefinedPointContract net w h l p2 q2 short out2 scratch2 (0, xyz) out2' scratch2') where
      second_known : (second_refusal ≡ 0) × (xyz ≡ refined_surface_point net w h l p2 q2)
      second_known = answered second_refusal (refined_surface_point net w h l p2 q2) second.answer

      none : refusal ≡ 0
      none = sym by_second ∙ second_known.0

      first_none : refusal_at net w h k p q false out scratch ≡ 0
      first_none =
          let c = rest_clear none in
          clear_none
          (size_faults w h k ++ (off_grid w h k p q, 6) ∷ net_faults net w h (too_short w h k (length out) (length scratch)))
          (placed.size, (placed.deep, (placed.on, (c.0, ((rooms none).1, (c.1.1.0, tt))))))

      -- the first point, after which the output and the scratch are these
      module _ (out' scratch' : List ℤ) where
        abbrev First : ℕ × List ℤ → Type 0
        First o = RefinedPointContract net w h k p q false out scratch o out' scratch'

        -- it is refused nothing
        pub first_answered : {n : ℕ} {values : List ℤ} → First (n, values) → n ≡ 0
        first_answered first = (λ t. (first.answer t).0) ∙ first_none

        pub both_answered : {abc : List ℤ} → First (0, abc) → Ensured out' scratch' out2' scratch2' (0, abc ++ xyz)
        both_answered {abc} first =
            let values = refined_surface_point net w h k p q in
            let values2 = refined_surface_point net w h l p2 q2 in
            let at : ◌≡◌ {A = ℕ × List ℤ} (0, abc) (0, values) = first.answer
            ∙ sym (accepted_answer (refusal_at net w h k p q false out scratch) values first_none refl) in
            let at2 : ◌≡◌ {A = ℕ × List ℤ} (0, xyz) (0, values2) = λ t. (0, second_known.1 t) in
            let both : ◌≡◌ {A = ℕ × List ℤ} (0, abc ++ xyz) (0, values ++ values2) = λ t. (0, (at t).1 ++ (at2 t).1) in
            subst (Ensured out' scratch' out2' scratch2') (sym both) (
              accepted_answer refusal (values ++ values2) none refl,
              (
                record {
                  output = first.output ∙ (λ t. output_after (first_none t) (refined_net net w h k) out);
                  scratch_free =
                      subst (λ (m : ℕ). UnchangedFrom (free_scratch m k w h) scratch scratch') first_none
                      first.scratch_free;
                  output2 = second.output ∙ (λ t. output_after (second_known.0 t) (refined_net net w h l) out2);
                  scratch_free2 =
                      subst (λ (m : ℕ). UnchangedFrom (free_scratch m l w h) scratch2 scratch2') second_known.0
                      second.scratch_free;
                },
                λ z. seam_claimed net w h k l p q p2 q2 placed.same
                    (subst (Claimed net w h k p q) at (first.demand_three first_none))
                    (subst (Claimed net w h l p2 q2) at2 (second.demand_three second_known.0))
                    (same_point net w h k l p q p2 q2 placed.same),
              ),
            )

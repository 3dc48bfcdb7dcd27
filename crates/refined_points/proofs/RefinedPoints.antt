-- Demand 3 of the calls: what refining leaves in the output is an accepted net, its surface points are those of the
-- refined fields, and so they are near the exact spline of the starting net and within its control values.
use mathlib.Core.Path.{◌≡◌, refl, sym, ap, subst, ◌∙◌}
use mathlib.Core.Bool.{Bool, false, ◌||◌}
use mathlib.Core.List.{List, [], ◌∷◌, ◌++◌}
use Prim.Native.Nat.{ℕ, zero, suc, ◌<◌}
use native.Mathlib.Omega.{arith}
use lib.Dec.{lit<}
use lib.IntN.{ℤ}
use lib.ListN.{length, take}
use Rattle.exact.specs.Rounding.{rounded}
use Rattle.exact.specs.Filling.{over}
use Rattle.exact.proofs.FillingLaws.{take_over}
use Rattle.net.specs.Net.{Index, three, corner, number, field}
use Rattle.net.specs.Refusals.{AcceptedNet}
use Rattle.net.proofs.Beyond.{cut}
use Rattle.net.proofs.Faults.{none_clear, or_none, when_accepted, answered, accepted_answer}
use Rattle.places.specs.Places.{OnGrid, chosen, share, order_of}
use Rattle.places.proofs.Cells.{on_grid}
use Rattle.spline.specs.Spline.{value_in, spline}
use Rattle.surface.specs.SurfacePoint.{coordinate, surface_point}
use Rattle.surface.specs.Refusals.{point_refusal}
use Rattle.surface.specs.Answers.{point_answer}
use Rattle.surface.proofs.Beyond.{cut_point_answer}
use Rattle.surface.proofs.SurfacePoints.{accepted_point}
use Rattle.surface.proofs.Accepted.{corner_in_net, point_not_refused}
use Rattle.subdivision.specs.Refinement.{side_after, refinements}
use Rattle.bounds.specs.DemandThree.{refined_coordinate, NearSpline, WithinControls}
use Rattle.bounds.proofs.DemandThree.{demand_three_lem}
use Rattle.steps.specs.RefinedNet.{Fields, refined_net}
use Rattle.steps.proofs.StoredNets.{stored_field, refined_length_lem}
use Rattle.refine.specs.Refusals.{too_short, size_faults, net_faults}
use Rattle.refine.specs.Answers.{refusal_of, refine_output}
use Rattle.steps.proofs.RefinedNets.{refined_accepted}
use Rattle.refine.proofs.Refinable.{Refinable, refinable_by, refine_accepted}
use Rattle.refined_points.specs.Refusals.{off_grid, refined_point_refusal}
use Rattle.refined_points.specs.Answers.{refusal_at, refined_surface_point, refined_point_answer}
use Rattle.refined_points.specs.DemandThree.{Claimed, RefinedPoints}

pub point_accepted : (net : List ℤ) (w h k p q : ℕ) (short : Bool) (room scratch_length : ℕ) →
    refined_point_refusal net w h k p q (short || too_short w h k room scratch_length) ≡ 0 →
    Refinable net w h k room scratch_length × OnGrid 1024 (side_after k w) (side_after k h) p q × (short ≡ false)
point_accepted net w h k p q short room scratch_length e =
    let c =
    none_clear (size_faults w h k ++ (off_grid w h k p q, 6)
    ∷ net_faults net w h (short || too_short w h k room scratch_length))
    (lit< tt, (lit< tt, (lit< tt, (lit< tt, (lit< tt, (lit< tt, tt)))))) e in
    let r = or_none short (too_short w h k room scratch_length) c.1.1.1.1.0 in (
      refinable_by net w h k room scratch_length c.0 c.1.0 c.1.1.1.0 r.1
          c.1.1.1.1.1.0,
      on_grid 1024 (side_after k w) (side_after k h) p q c.1.1.0,
      r.0,
    )

-- a coordinate of a point
three_numbers : (f : ℕ → ℤ) (x : ℕ) → x < 3 → f x ≡ number (f 0 ∷ f 1 ∷ f 2 ∷ []) x
three_numbers f zero c = refl
three_numbers f (suc zero) c = refl
three_numbers f (suc (suc zero)) c = refl
three_numbers f (suc (suc (suc x))) c = absurd (omega (arith, c))

-- ---- what refining leaves in the output is an accepted net

module _ (net : List ℤ) (w h k : ℕ) (out : List ℤ) {scratch_length : ℕ} (taken : Refinable net w h k (length out) scratch_length) where
  abbrev wide : ℕ
  wide = side_after k w

  abbrev high : ℕ
  high = side_after k h

  abbrev fields : Fields
  fields x = refinements k (field net w x)

  abbrev left : List ℤ
  left = over (refined_net net w h k) out

  front : cut left wide high ≡ refined_net net w h k
  front =
      ap (λ (n : ℕ). take n left) (sym (refined_length_lem net w h k)) ∙ take_over (refined_net net w h k) out

  pub left_accepted : AcceptedNet left wide high
  left_accepted = refined_accepted net out taken.depth taken.given taken.roomy

  -- ---- its surface points are those of the refined fields

  module _ (p q : ℕ) (place : OnGrid 1024 wide high p q) where
    pub refined_coordinate_lem : (x : ℕ) → x < 3 →
        coordinate left wide high p q x ≡ refined_coordinate (field net w x) w h k p q
    unfolding coordinate spline refined_net
    refined_coordinate_lem x c =
        let t = chosen 1024 wide high p q in
        let s = share 1024 wide high p q in
        let at : (P l : Index) → field left wide x (corner t P) l ≡ fields x (corner t P) l =
        λ P l.
        let v = corner t P in
        let n = corner_in_net wide high p q left_accepted.size place P in
        stored_field fields wide high out v.column v.row n.0 n.1 l x c in
        λ i. rounded (value_in t.down (λ P l. at P l i) (order_of s) s) 37748736

    -- the point's three coordinates
    abbrev coordinates : List ℤ
    coordinates =
        refined_coordinate (field net w 0) w h k p q ∷ refined_coordinate (field net w 1) w h k p q
        ∷ refined_coordinate (field net w 2) w h k p q ∷ []

    pub point_answered : (0, coordinates) ≡ point_answer left wide high p q
    unfolding point_answer
    point_answered =
        accepted_point left wide high p q false (sym (point_not_refused left wide high left_accepted p q place))
        (sym (refined_coordinate_lem 0 (lit< tt))) (sym (refined_coordinate_lem 1 (lit< tt)))
        (sym (refined_coordinate_lem 2 (lit< tt)))

    -- of the refined net alone, without what stands after it
    pub point_of_refined : coordinates ≡ surface_point (refined_net net w h k) wide high p q
    unfolding point_answer
    point_of_refined =
        (answered (point_refusal (refined_net net w h k) wide high p q) (surface_point (refined_net net w h k) wide high p q)
        (point_answered ∙ cut_point_answer left wide high p q
        ∙ ap (λ (l : List ℤ). point_answer l wide high p q) front)).1

    pub claimed : Claimed net w h k p q (0, coordinates)
    claimed =
        let each : (x : ℕ) → x < 3 →
        refined_coordinate (field net w x) w h k p q
        ≡ number coordinates x = three_numbers (λ x. refined_coordinate (field net w x) w h k p q) in
        record {
          answered = refl;
          point = refl;
          near =
              λ x c. subst (λ (z : ℤ). NearSpline (field net w x) w h k p q z) (each x c)
              (demand_three_lem net w h taken.given k p q x c place).0;
          within =
              λ x c t o l. subst (λ (z : ℤ). WithinControls (field net w x) t z) (each x c)
              ((demand_three_lem net w h taken.given k p q x c place).1 t o l);
        }

-- ---- demand 3

-- the surface point on what refining left, as the three coordinates and as the point of the refined net
answered_left : (net : List ℤ) (w h k : ℕ) (out scratch : List ℤ) (e : refusal_of net w h k out scratch ≡ 0) (p q : ℕ)
    (place : OnGrid 1024 (side_after k w) (side_after k h) p q) →
    (0, coordinates net w h k out (refine_accepted net w h k (length out) (length scratch) e) p q place)
    ≡ point_answer (refine_output net w h k out scratch) (side_after k w) (side_after k h) p q
answered_left net w h k out scratch e p q place =
    point_answered net w h k out (refine_accepted net w h k (length out) (length scratch) e) p q place
    ∙ ap (λ (l : List ℤ). point_answer l (side_after k w) (side_after k h) p q)
    (when_accepted (refusal_of net w h k out scratch) (over (refined_net net w h k) out) out e)

pub refined_answer : (net : List ℤ) (w h k : ℕ) (out scratch : List ℤ) → refusal_of net w h k out scratch ≡ 0 →
    (p q : ℕ) → OnGrid 1024 (side_after k w) (side_after k h) p q →
    (0, refined_surface_point net w h k p q)
    ≡ point_answer (refine_output net w h k out scratch) (side_after k w) (side_after k h) p q
refined_answer net w h k out scratch e p q place =
    let t = refine_accepted net w h k (length out) (length scratch) e in
    (λ i. (0, sym (point_of_refined net w h k out t p q place) i)) ∙ answered_left net w h k out scratch e p q place

pub refined_number_lem : (net : List ℤ) (w h k : ℕ) (out scratch : List ℤ) → refusal_of net w h k out scratch ≡ 0 →
    (p q : ℕ) → OnGrid 1024 (side_after k w) (side_after k h) p q → (x : ℕ) → x < 3 →
    refined_coordinate (field net w x) w h k p q
    ≡ number (point_answer (refine_output net w h k out scratch) (side_after k w) (side_after k h) p q).1 x
refined_number_lem net w h k out scratch e p q place x c =
    three_numbers (λ y. refined_coordinate (field net w y) w h k p q) x c
    ∙ (λ i. number (answered_left net w h k out scratch e p q place i).1 x)

pub refined_points : RefinedPoints
refined_points net w h k out scratch e p q place =
    subst (Claimed net w h k p q) (answered_left net w h k out scratch e p q place)
    (claimed net w h k out (refine_accepted net w h k (length out) (length scratch) e) p q place)

-- of the answer of the call that does both
pub answer_claimed : (net : List ℤ) (w h k p q : ℕ) (other : Bool) (out scratch : List ℤ) {outcome : ℕ × List ℤ} →
    outcome ≡ refined_point_answer net w h k p q other out scratch →
    refusal_at net w h k p q other out scratch ≡ 0 → Claimed net w h k p q outcome
answer_claimed net w h k p q other out scratch e none =
    let t = point_accepted net w h k p q other (length out) (length scratch) none in
    subst (Claimed net w h k p q)
    (accepted_answer (refusal_at net w h k p q other out scratch) (refined_surface_point net w h k p q) none
    (point_of_refined net w h k out t.0 p q t.1)
    ∙ sym e)
    (claimed net w h k out t.0 p q t.1)

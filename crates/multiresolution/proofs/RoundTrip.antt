-- Merging what splitting left, cleaned or not: each value is the net's or the refined one, so it is in range, and it is
-- the refined one only where the detail is below the threshold in size.
use mathlib.Core.Path.{◌≡◌, refl, sym, ap, subst, ◌∙◌}
use mathlib.Core.Bool.{Bool, false}
use mathlib.Core.List.{List}
use mathlib.Core.Logic.{◌⊎◌, inl, inr, ⊎_elim}
use Prim.Native.Nat.{ℕ, ◌+◌, ◌*◌, ◌≤◌, ◌<◌}
use native.Mathlib.Omega.{arith}
use lib.Dec.{lit≤}
use lib.IntN.{ℤ, pos, nat_abs, ◌+ℤ◌, ◌-ℤ◌}
use lib.ListN.{length, take}
use lib.Seq.{take_all}
use borrow.Author.Tests.{ltb-false}
use Rattle.exact.specs.Filling.{over}
use Rattle.exact.proofs.Parts.{integers, sum_parts, difference_parts, size_parts}
use Rattle.exact.proofs.FillingLaws.{length_over}
use Rattle.net.specs.Net.{Index, Vertex, vertex_at, rank, numbers, number, field}
use Rattle.net.specs.Refusals.{net_limit, net_beyond}
use Rattle.net.proofs.Accepted.{accepted_vertex}
use Rattle.net.proofs.Faults.{when_accepted}
use Rattle.net.proofs.Places.{good_size}
use Rattle.net.proofs.Ranges.{front_in_range}
use Rattle.subdivision.specs.Refinement.{refinement}
use Rattle.steps.specs.RefinedNet.{Fields, stored, refined_net}
use Rattle.steps.proofs.StoredNets.{stored_length, stored_fine, stored_field, stored_same, no_step}
use Rattle.steps.proofs.RefinedNets.{refined_size}
use Rattle.details.specs.Details.{detail_numbers, detail_point_stride, detail_start, detail_field}
use Rattle.details.specs.Refusals.{details_beyond}
use Rattle.details.specs.Cleaning.{Cleaned, clean_output}
use Rattle.details.proofs.DetailLaws.{details_length, detail_number, details_field, cleans, cleaned_in_range, clean_accepted}
use Rattle.coarse.specs.Coarse.{coarse_side, coarse_fields}
use Rattle.split.specs.Split.{detail_of, net_details}
use Rattle.split.specs.Answers.{split_refusal_of}
use Rattle.split.proofs.SplitLaws.{Splittable, split_accepted, odd_sides, coarse_taken, coarse_refined, details_small}
use Rattle.merge.specs.Merge.{merged, merged_net}
use Rattle.merge.specs.Refusals.{merged_beyond, Mergeable}
use Rattle.merge.specs.Answers.{merge_refusal_of, merge_output}
use Rattle.merge.proofs.MergeLaws.{merge_accepted}
use Rattle.multiresolution.specs.Promises.{coarse_left, details_left, SplitMerges, MovedBelow, CleanedMerges, CleanMerges}

-- z is the net's value, d its detail, r the refined value that the detail was taken against, e what became of the detail
kept_value : (z r : ℤ) {d e : ℤ} → d ≡ z -ℤ r → e ≡ d → r +ℤ e ≡ z
kept_value z r {d} {e} p q = omega (integers, sum_parts r e, difference_parts z r)

zeroed_value : (z r : ℤ) {d e : ℤ} (t : ℕ) → d ≡ z -ℤ r → e ≡ pos 0 → nat_abs d < t →
    (r +ℤ e ≡ r) × (nat_abs (r +ℤ e -ℤ z) < t)
zeroed_value z r {d} {e} t p q k =
    let sum = r +ℤ e in
    let same : sum ≡ r = omega (integers, sum_parts r e) in
    (same, omega (integers, sum_parts r e, difference_parts z r, difference_parts sum z, size_parts (sum -ℤ z), size_parts d))

module _ (net : List ℤ) (w h : ℕ) (coarse details : List ℤ) (s : Splittable net w h (length coarse) (length details)) where
  abbrev wide : ℕ
  wide = coarse_side w

  abbrev high : ℕ
  high = coarse_side h

  abbrev c : List ℤ
  c = coarse_left net w h coarse

  abbrev d : List ℤ
  d = details_left net w h details

  -- the refined value at a vertex of the net, in the net range
  abbrev refined_at : ℕ → Vertex → Index → ℤ
  refined_at x = refinement (field c wide x)

  refined_small : (x : ℕ) → x < 3 → (i j : ℕ) → i < w → j < h → (l : Index) → nat_abs (refined_at x (vertex_at i j) l) ≤ net_limit
  refined_small x a i j p q l =
      let odd = odd_sides w h s.odd in
      refined_size c wide high (coarse_taken net w h coarse s) 1 x i j a (omega (arith, p, odd.0)) (omega (arith, q, odd.1)) l

  -- what stands in the details
  detail_left : (x : ℕ) → x < 3 → (i j : ℕ) → i < w → j < h → (l : Index) →
      detail_field d w x (vertex_at i j) l ≡ field net w x (vertex_at i j) l -ℤ refined_at x (vertex_at i j) l
  unfolding net_details detail_of
  detail_left x a i j p q l =
      details_field (λ y. detail_of (field net w y) (coarse_fields net w y)) w h details i j p q l x a
      ∙ ap (λ (z : ℤ). field net w x (vertex_at i j) l -ℤ z) (coarse_refined net w h coarse s x a i j p q l)

  details_long : detail_numbers w h ≤ length d
  unfolding net_details
  details_long =
      let size = details_length (λ y. detail_of (field net w y) (coarse_fields net w y)) w h in
      omega (arith, length_over (net_details net w h) details (omega (arith, size, s.enough)), s.enough)

  -- details that were cleaned, or not
  module _ (t : ℕ) (cleaned : List ℤ) (k : Cleaned t d cleaned) where
    abbrev value : Fields
    value x v l = refined_at x v l +ℤ detail_field cleaned w x v l

    abbrev Value : ℕ → Vertex → Index → Type 0
    Value x v l =
        (value x v l ≡ field net w x v l)
        ⊎ ((value x v l ≡ refined_at x v l) × (nat_abs (value x v l -ℤ field net w x v l) < t))

    value_is : (x : ℕ) → x < 3 → (i j : ℕ) → i < w → j < h → (l : Index) → Value x (vertex_at i j) l
    value_is x a i j p q l =
        let v = vertex_at i j in
        let z = field net w x v l in
        let r = refined_at x v l in
        let at = detail_start w v + (detail_point_stride * rank l + x) in
        let was : number d at ≡ z -ℤ r = sym (detail_number d w v l x a) ∙ detail_left x a i j p q l in
        let is = detail_number cleaned w v l x a in
        ⊎_elim
        (λ (e : number cleaned at ≡ number d at). inl (kept_value z r was (is ∙ e)))
        (λ (e : (number cleaned at ≡ pos 0) × (nat_abs (number d at) < t)). inr (zeroed_value z r t was (is ∙ e.0) e.1))
        (k.each at)

    value_small : (x : ℕ) → x < 3 → (i j : ℕ) → i < w → j < h → (l : Index) → nat_abs (value x (vertex_at i j) l) ≤ net_limit
    value_small x a i j p q l =
        let v = vertex_at i j in
        ⊎_elim
        (λ (e : value x v l ≡ field net w x v l).
        subst (λ (z : ℤ). nat_abs z ≤ net_limit) (sym e) ((accepted_vertex net w h s.given i j p q).1 l x a))
        (λ (e : (value x v l ≡ refined_at x v l) × (nat_abs (value x v l -ℤ field net w x v l) < t)).
        subst (λ (z : ℤ). nat_abs z ≤ net_limit) (sym e.0) (refined_small x a i j p q l))
        (value_is x a i j p q l)

    -- the merged net is the grid of these values
    merged_is : merged_net c cleaned wide high ≡ stored value w h
    unfolding merged_net merged
    merged_is =
        let odd = odd_sides w h s.odd in
        λ u. stored (λ x v l. refined_at x v l +ℤ detail_field cleaned (odd.0 u) x v l) (odd.0 u) (odd.1 u)

    merged_fine : merged_beyond c cleaned wide high ≡ false
    merged_fine =
        let odd = odd_sides w h s.odd in
        (λ u. net_beyond (merged_is u) (odd.0 u) (odd.1 u))
        ∙ front_in_range (stored value w h) w h (take_all (numbers w h) (stored value w h) (omega (arith, stored_length value w h)))
        (stored_fine value w h (λ i j p q x a l. value_small x a i j p q l))

    can_merge : Mergeable c cleaned wide high
    can_merge =
        let odd = odd_sides w h s.odd in
        let taken = coarse_taken net w h coarse s in
        let g = good_size wide high taken.size in
        let n = good_size w h s.given.size in
        record {
          depth = record { few = lit≤ tt; wide = g.wide; narrow = omega (arith, odd.0, n.narrow); high = g.high; low = omega (arith, odd.1, n.low) };
          given = taken;
          long =
              subst (λ (m : ℕ). m ≤ length cleaned) (λ u. detail_numbers (sym odd.0 u) (sym odd.1 u))
              (omega (arith, details_long, k.long));
          fine =
              subst (λ (b : Bool). b ≡ false) (λ u. details_beyond cleaned (sym odd.0 u) (sym odd.1 u))
              (cleaned_in_range d cleaned w h t k details_long (details_small net w h coarse s details));
        }

    module _ (out : List ℤ) (room : numbers w h ≤ length out) where
      pub no_refusal : merge_refusal_of c cleaned wide high out ≡ 0
      no_refusal =
          let odd = odd_sides w h s.odd in
          merge_accepted c cleaned wide high (length out) can_merge
          (subst (λ (m : ℕ). m ≤ length out) (λ u. numbers (sym odd.0 u) (sym odd.1 u)) room) merged_fine

      pub output_is : merge_output c cleaned wide high out ≡ over (stored value w h) out
      output_is =
          sym (when_accepted (merge_refusal_of c cleaned wide high out) (over (merged_net c cleaned wide high) out) out no_refusal)
          ∙ ap (λ (l : List ℤ). over l out) merged_is

      pub moved : 0 < t → MovedBelow t net (merge_output c cleaned wide high out) w h
      moved some i j p q l x a =
          let v = vertex_at i j in
          let z = field net w x v l in
          let left : field (merge_output c cleaned wide high out) w x v l ≡ value x v l =
          ap (λ (m : List ℤ). field m w x v l) output_is ∙ stored_field value w h out i j p q l x a in
          subst (λ (y : ℤ). nat_abs (y -ℤ z) < t) (sym left)
          (⊎_elim
          (λ (e : value x v l ≡ z). omega (integers, difference_parts (value x v l) z, size_parts (value x v l -ℤ z)))
          (λ (e : (value x v l ≡ refined_at x v l) × (nat_abs (value x v l -ℤ z) < t)). e.1)
          (value_is x a i j p q l))

  -- details as they were left: nothing below 0 in size
  pub untouched : Cleaned 0 d d
  untouched = record { long = refl; each = λ n. inl refl }

  pub merges_back : stored (value 0 d untouched) w h ≡ take (numbers w h) net
  unfolding refined_net
  merges_back =
      stored_same (value 0 d untouched) (field net w) w h
      (λ x a i j p q l.
      let v = vertex_at i j in
      ⊎_elim
      (λ (e : value 0 d untouched x v l ≡ field net w x v l). e)
      (λ (e : (value 0 d untouched x v l ≡ refined_at x v l)
      × (nat_abs (value 0 d untouched x v l -ℤ field net w x v l) < 0)). absurd (omega (arith, e.1)))
      (value_is 0 d untouched x a i j p q l))
      ∙ no_step net w h (ltb-false (length net) (numbers w h) s.given.long)

-- ---- the theorems

split_of : (net : List ℤ) (w h : ℕ) (coarse details : List ℤ) → split_refusal_of net w h coarse details ≡ 0 →
    Splittable net w h (length coarse) (length details)
split_of net w h coarse details e = split_accepted net w h false (length coarse) (length details) e

pub split_merges : SplitMerges
split_merges net w h coarse details out e room =
    let s = split_of net w h coarse details e in
    let d = details_left net w h details in
    let k = untouched net w h coarse details s in (
      no_refusal net w h coarse details s 0 d k out room,
      output_is net w h coarse details s 0 d k out room
          ∙ ap (λ (l : List ℤ). over l out) (merges_back net w h coarse details s),
    )

pub cleaned_merges : CleanedMerges
cleaned_merges net w h t coarse details out cleaned e room some k =
    let s = split_of net w h coarse details e in (
      no_refusal net w h coarse details s t cleaned k out room,
      moved net w h coarse details s t cleaned k out room some,
    )

pub clean_merges : CleanMerges
clean_merges net w h t coarse details out e room some small =
    let s = split_of net w h coarse details e in
    let d = details_left net w h details in
    let m = cleaned_merges net w h t coarse details out (clean_output d w h t) e room some (cleans d w h t) in (
      clean_accepted d w h t s.given.size s.odd small (details_long net w h coarse details s)
          (details_small net w h coarse s details),
      m.0,
      m.1,
    )

-- The sums row by row, and what is known where nothing is refused.
use mathlib.Core.Path.{◌≡◌, sym, ap, subst, ◌∙◌}
use mathlib.Core.Bool.{false}
use mathlib.Core.List.{List, [], ◌∷◌, ◌++◌}
use Prim.Native.Nat.{ℕ, ◌+◌, ◌*◌, ◌≤◌, ◌<◌}
use native.Mathlib.Omega.{arith}
use lib.Dec.{lit<}
use lib.IntN.{ℤ, pos, neg_ℤ, nat_abs, ◌+ℤ◌}
use lib.ListN.{length, take}
use lib.Seq.{sets, length-sets}
use borrow.Author.Tests.{ltb-false, le-ltb}
use Rattle.exact.specs.Filling.{over}
use Rattle.exact.proofs.FillingLaws.{runs_same}
use Rattle.exact.proofs.Order.{size_low, size_high, size_between, size_sum}
use Rattle.net.specs.Net.{Index, one, two, three, rank, vertex_at, Field, field, numbers, start, stride, point_stride}
use Rattle.net.specs.Refusals.{bad_size, net_limit, any_outside, any_beyond, net_beyond, short_net, AcceptedNet}
use Rattle.net.proofs.Accepted.{accepted_over}
use Rattle.net.proofs.Faults.{or_no, or_none, clear_none, none_clear, when_accepted}
use Rattle.net.proofs.Places.{good_size, vertex_ends, field_number, within_record}
use Rattle.subdivision.specs.Refinement.{refined_side, refinement}
use Rattle.subdivision.specs.WeightTable.{weights, weights_pass}
use Rattle.bounds.proofs.Distance.{our_nets}
use Rattle.bounds.proofs.Range.{net_between}
use Rattle.steps.specs.RefinedNet.{point_at, vertex_run, row_run, stored, refined_fields}
use Rattle.steps.specs.Steps.{Depth}
use Rattle.steps.proofs.Sides.{shallower}
use Rattle.steps.proofs.StoredNets.{stored_length, stored_by_number, stored_beyond, stored_tested, stored_fine}
use Rattle.steps.proofs.RefinedNets.{refined_size, good_after}
use Rattle.steps.proofs.RowBuffers.{row_field}
use Rattle.refine.specs.Refusals.{size_faults}
use Rattle.refine.proofs.Depths.{good_depth, not_deep}
use Rattle.details.specs.Details.{detail_point_stride, detail_numbers, detail_start, detail_field}
use Rattle.details.specs.Refusals.{short_details, details_beyond}
use Rattle.details.proofs.DetailLaws.{front_within, detail_number, detail_ends, within_record as within-detail}
use Rattle.merge.specs.Merge.{merged, merged_fields, merged_net, row_sums}
use Rattle.merge.specs.Refusals.{short_inputs, inputs_beyond, merged_beyond, merge_faults, merge_refusal, Mergeable, RowMergeable}
use Rattle.merge.specs.Answers.{merge_refusal_of}
use Rattle.merge.specs.Promises.{MergedAccepted}

-- ---- the size of the coarse net

pub coarse_size : {w h : ℕ} → Depth w h 1 → bad_size w h ≡ false
coarse_size d = good_after {k = 0} (shallower d)

-- ---- rows

-- a refined row in a slice: its numbers, and their range
module _ (coarse details : List ℤ) (w h : ℕ) (a : Mergeable coarse details w h) (j : ℕ) (b : j < refined_side h) (old : List ℤ) (room : stride * refined_side w ≤ length old) where
  abbrev m : ℕ
  m = refined_side w

  abbrev row : List ℤ
  row = sets old 0 (row_run (refined_fields coarse w) m j)

  number_in : (i : ℕ) → i < m → (l : Index) (x : ℕ) → x < 3 →
      field row m x (vertex_at i 0) l ≡ refinement (field coarse w x) (vertex_at i j) l
  number_in i c l x d = row_field (refined_fields coarse w) m j old room i c l x d

  pub row_mergeable : {new : List ℤ} → new ≡ row → RowMergeable new details m (refined_side h) j
  row_mergeable e =
      subst (λ (r : List ℤ). RowMergeable r details m (refined_side h) j) (sym e) (record {
        size = good_after a.depth;
        lies = b;
        room = omega (arith, length-sets old 0 (row_run (refined_fields coarse w) m j), room);
        small = λ i c k x d. subst (λ (z : ℤ). nat_abs z ≤ net_limit) (sym (number_in i c k x d))
            (refined_size coarse w h a.given 1 x i j d c b k);
        long = a.long;
        fine = a.fine;
      })

  -- with the details it is the merged row
  pub merged_row : {new : List ℤ} → new ≡ row →
      row_run (row_sums new details m) m j ≡ row_run (merged_fields coarse details w) m j
  unfolding merged
  merged_row e =
      ap (λ (r : List ℤ). row_run (row_sums r details m) m j) e
      ∙ runs_same m (λ i. vertex_run (row_sums row details m) (vertex_at i j))
      (λ i. vertex_run (merged_fields coarse details w) (vertex_at i j)) (λ i c.
      let same : (l : Index) (x : ℕ) → x < 3 →
      row_sums row details m x (vertex_at i j) l ≡ merged_fields coarse details w x (vertex_at i j) l =
      λ l x d. ap (λ (z : ℤ). z +ℤ detail_field details m x (vertex_at i j) l) (number_in i c l x d) in
      let point : (l : Index) →
      point_at (row_sums row details m) (vertex_at i j) l ≡ point_at (merged_fields coarse details w) (vertex_at i j) l =
      λ l t. same l 0 (lit< tt) t ∷ same l 1 (lit< tt) t ∷ same l 2 (lit< tt) t ∷ [] in
      λ t. point one t ++ point two t ++ point three t)

-- ---- numbers of at most half of the net's limit in size

module _ (coarse details : List ℤ) (w h : ℕ) (a : Mergeable coarse details w h)
    (e : any_outside 8388608 (take (numbers w h) coarse) ≡ false)
    (f : any_outside 8388608 (take (detail_numbers (refined_side w) (refined_side h)) details) ≡ false) where
  coarse_within : (x : ℕ) → x < 3 → (i j : ℕ) → i < w → j < h → (l : Index) →
      nat_abs (field coarse w x (vertex_at i j) l) ≤ 8388608
  coarse_within x c i j u v l =
      let ends = vertex_ends {w = w} {h = h} {i = i} {j = j} u v in
      subst (λ (z : ℤ). nat_abs z ≤ 8388608) (sym (field_number coarse w (vertex_at i j) l x c))
      (front_within 8388608 coarse (numbers w h) e (ltb-false _ _ a.given.long)
      (start w (vertex_at i j) + (point_stride * rank l + x)) (omega (arith, ends, within_record l x c)))

  refined_within : (x : ℕ) → x < 3 → (i j : ℕ) → i < refined_side w → j < refined_side h → (l : Index) →
      nat_abs (refinement (field coarse w x) (vertex_at i j) l) ≤ 8388608
  refined_within x c i j u v l =
      let s = good_size w h a.given.size in
      let between =
      net_between weights weights_pass (neg_ℤ (pos 8388608)) (pos 8388608) 1 w h (field coarse w x) s.wide s.high
      (λ m n p q k. (
        size_low (field coarse w x (vertex_at m n) k) (coarse_within x c m n p q k),
        size_high (field coarse w x (vertex_at m n) k) (coarse_within x c m n p q k),
      )) i j u v l in
      subst (λ (F : Field). nat_abs (F (vertex_at i j) l) ≤ 8388608) (our_nets 1 (field coarse w x))
      (size_between between.0 between.1)

  detail_within : (x : ℕ) → x < 3 → (i j : ℕ) → i < refined_side w → j < refined_side h → (l : Index) →
      nat_abs (detail_field details (refined_side w) x (vertex_at i j) l) ≤ 8388608
  detail_within x c i j u v l =
      let m = refined_side w in
      let n = refined_side h in
      let ends = detail_ends {w = m} {h = n} {i = i} {j = j} u v in
      subst (λ (z : ℤ). nat_abs z ≤ 8388608) (sym (detail_number details m (vertex_at i j) l x c))
      (front_within 8388608 details (detail_numbers m n) f a.long
      (detail_start m (vertex_at i j) + (detail_point_stride * rank l + x)) (omega (arith, ends, within-detail l x c)))

  pub small_merged : merged_beyond coarse details w h ≡ false
  unfolding merged_net merged
  small_merged =
      let F = merged_fields coarse details w in
      stored_tested F (refined_side w) (refined_side h)
      ∙ stored_fine F (refined_side w) (refined_side h) (λ i j u v x c l.
      let r = refinement (field coarse w x) (vertex_at i j) l in
      let d = detail_field details (refined_side w) x (vertex_at i j) l in
      omega (arith, size_sum r d, refined_within x c i j u v l, detail_within x c i j u v l))

-- ---- where 2 and 3 do not refuse, and where nothing is refused

pub long_inputs : (coarse details : List ℤ) (w h : ℕ) → short_inputs coarse details w h ≡ false →
    (numbers w h ≤ length coarse) × (detail_numbers (refined_side w) (refined_side h) ≤ length details)
long_inputs coarse details w h e =
    let long = or_none (short_net coarse w h) (short_details details (refined_side w) (refined_side h)) e in
    (ltb-false _ _ long.0, ltb-false _ _ long.1)

pub mergeable_by : (coarse details : List ℤ) (w h : ℕ) → Depth w h 1 → short_inputs coarse details w h ≡ false →
    inputs_beyond coarse details w h ≡ false → Mergeable coarse details w h
mergeable_by coarse details w h d e f =
    let long = long_inputs coarse details w h e in
    let fine = or_none (net_beyond coarse w h) (details_beyond details (refined_side w) (refined_side h)) f in
    record {
      depth = d;
      given = record { size = coarse_size d; long = le-ltb _ _ long.0; in_range = fine.0 };
      long = long.1;
      fine = fine.1;
    }

pub mergeable : (coarse details : List ℤ) (w h room : ℕ) → merge_refusal coarse details w h room ≡ 0 →
    Mergeable coarse details w h × (numbers (refined_side w) (refined_side h) ≤ room)
    × (merged_beyond coarse details w h ≡ false)
mergeable coarse details w h room e =
    let c =
    none_clear (size_faults w h 1 ++ merge_faults coarse details w h room)
    (lit< tt, (lit< tt, (lit< tt, (lit< tt, (lit< tt, (lit< tt, tt)))))) e in (
      mergeable_by coarse details w h (good_depth w h 1 c.0 c.1.0) c.1.1.0 c.1.1.1.1.0,
      ltb-false _ _ c.1.1.1.0,
      c.1.1.1.1.1.0,
    )

pub merge_accepted : (coarse details : List ℤ) (w h room : ℕ) → Mergeable coarse details w h →
    numbers (refined_side w) (refined_side h) ≤ room → merged_beyond coarse details w h ≡ false →
    merge_refusal coarse details w h room ≡ 0
merge_accepted coarse details w h room a roomy e =
    let m = refined_side w in
    let n = refined_side h in
    let long : short_inputs coarse details w h ≡ false =
    sym (or_no (short_net coarse w h) (short_details details m n) a.given.long
    (sym (le-ltb (length details) (detail_numbers m n) a.long))) in
    let fine : inputs_beyond coarse details w h ≡ false =
    sym (or_no (net_beyond coarse w h) (details_beyond details m n) a.given.in_range (sym a.fine)) in
    clear_none (size_faults w h 1 ++ merge_faults coarse details w h room)
    (a.given.size, (not_deep a.depth, (long, (le-ltb room (numbers m n) roomy, (fine, (e, tt))))))

pub merged_accepted : MergedAccepted
unfolding merged_net
merged_accepted coarse details w h out e =
    let a = mergeable coarse details w h (length out) e in
    let m = refined_side w in
    let n = refined_side h in
    let F = merged_fields coarse details w in
    subst (λ (l : List ℤ). AcceptedNet l m n)
    (when_accepted (merge_refusal_of coarse details w h out) (over (stored F m n) out) out e)
    (accepted_over (stored F m n) out m n (stored_length F m n) (good_after a.0.depth)
    (ap any_beyond (stored_by_number F m n) ∙ sym (stored_beyond F m n) ∙ a.2) a.1)

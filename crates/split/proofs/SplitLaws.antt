-- What is known of a net that is split: sides, ranges, the details against a coarse net, and that those at kept vertices
-- are zero.
use mathlib.Core.Path.{◌≡◌, refl, sym, ap, subst, ◌∙◌}
use mathlib.Core.Bool.{Bool, false, ◌||◌}
use mathlib.Core.List.{List, [], ◌∷◌, ◌++◌}
use Prim.Native.Nat.{ℕ, ◌+◌, ◌-◌, ◌*◌, ◌%◌, ◌≤◌, ◌<◌}
use native.Mathlib.Nat.{le_trans}
use native.Mathlib.Omega.{arith}
use lib.Dec.{ltb, lit<, lit≤}
use lib.IntN.{ℤ, pos, nat_abs, ◌-ℤ◌}
use lib.ListN.{length, take}
use lib.Seq.{sets, length-sets}
use borrow.Author.Tests.{ltb-false, le-ltb, eqb-false}
use Rattle.exact.specs.Filling.{over}
use Rattle.exact.specs.Rounding.{rounded}
use Rattle.exact.proofs.FillingLaws.{runs_same}
use Rattle.exact.proofs.Expressions.{var, lit, ◌⊕◌, ◌⊖◌, ◌⊗◌}
use Rattle.exact.proofs.Parts.{integers, difference_parts}
use Rattle.exact.proofs.Order.{size_difference}
use Rattle.exact.proofs.RoundingLaws.{rounded_size}
use Rattle.exact.proofs.Sizes.{value_bound}
use Rattle.net.specs.Net.{Index, one, two, three, next, previous, rank, vertex_at, Field, numbers, field, start, stride, point_stride, grid_row}
use Rattle.net.specs.Refusals.{outside, any_outside, net_limit, bad_size, short_net, any_beyond, net_beyond, AcceptedNet}
use Rattle.net.proofs.Accepted.{good_sides, accepted_over, accepted_vertex}
use Rattle.net.proofs.Faults.{or_none, or_no, none_clear}
use Rattle.net.proofs.Places.{good_size, vertex_ends, field_number, within_record}
use Rattle.subdivision.specs.Refinement.{refined_side, kept_control, refinement}
use Rattle.subdivision.proofs.Children.{kept_refined}
use Rattle.steps.specs.RefinedNet.{row_run, refined_fields}
use Rattle.steps.specs.Steps.{Depth}
use Rattle.steps.proofs.RowBuffers.{row_field}
use Rattle.steps.proofs.StoredNets.{stored_length, stored_field, stored_tested, stored_fine, refinement_local}
use Rattle.steps.proofs.RefinedNets.{refined_size}
use Rattle.details.specs.Details.{detail_numbers, detail_point, detail_run}
use Rattle.details.specs.Refusals.{even_side, even_size, details_beyond}
use Rattle.details.proofs.DetailLaws.{front_within, details_same, details_in_range}
use Rattle.coarse.specs.Coarse.{coarse_beyond, coarse_side, coarse_control, coarsened, coarse_fields, coarse_net}
use Rattle.split.specs.Split.{detail_of, details_against, net_details, row_differences, RowSplittable}
use Rattle.split.specs.Refusals.{outputs_short, odd_faults, split_faults, split_refusal}
use Rattle.split.specs.Promises.{KeptDetails, CoarseAccepted, DetailsWithin}
use Rattle.coarse.proofs.CoarseLaws.{coarse_by_number, coarse_tested, kept_value}

-- ---- sides

odd_side : (n : ℕ) → even_side n ≡ false → refined_side (coarse_side n) ≡ n
odd_side n e = let odd = eqb-false (n % 2) 0 e in omega (arith, odd)

pub odd_sides : (w h : ℕ) → even_size w h ≡ false →
    (refined_side (coarse_side w) ≡ w) × (refined_side (coarse_side h) ≡ h)
odd_sides w h e =
    let f = or_none (even_side w) (even_side h) e in
    (odd_side w f.0, odd_side h f.1)

-- a coarse net of odd sides is refined to sides that are small
pub coarse_depth : (w h : ℕ) → bad_size w h ≡ false → even_size w h ≡ false → Depth (coarse_side w) (coarse_side h) 1
coarse_depth w h e f =
    let g = good_size w h e in
    let odd = odd_sides w h f in
    record {
      few = lit≤ tt;
      wide = omega (arith, g.wide, odd.0);
      narrow = omega (arith, g.narrow, odd.0);
      high = omega (arith, g.high, odd.1);
      low = omega (arith, g.low, odd.1);
    }

-- ---- rows

-- a refined row in a slice: its numbers, and their range
module _ (net coarse : List ℤ) (w h : ℕ) (a : AcceptedNet net w h) (o : even_size w h ≡ false) (k : AcceptedNet coarse (coarse_side w) (coarse_side h)) (j : ℕ) (b : j < h) (old : List ℤ) (room : stride * w ≤ length old) where
  abbrev refined_row : List ℤ
  refined_row = sets old 0 (row_run (refined_fields coarse (coarse_side w)) (refined_side (coarse_side w)) j)

  number_in : (i : ℕ) → i < w → (l : Index) (x : ℕ) → x < 3 →
      field refined_row w x (vertex_at i 0) l ≡ refinement (field coarse (coarse_side w) x) (vertex_at i j) l
  number_in i c l x d =
      ap (λ (n : ℕ). field (sets old 0 (row_run (refined_fields coarse (coarse_side w)) n j)) w x (vertex_at i 0) l)
      (odd_sides w h o).0
      ∙ row_field (refined_fields coarse (coarse_side w)) w j old room i c l x d

  pub row_splittable : {new : List ℤ} → new ≡ refined_row → RowSplittable net new w h j
  row_splittable e =
      let odd = odd_sides w h o in
      subst (λ (r : List ℤ). RowSplittable net r w h j) (sym e) (record {
        given = a;
        lies = b;
        room = omega (arith, length-sets old 0 (row_run (refined_fields coarse (coarse_side w)) (refined_side (coarse_side w)) j), room);
        small = λ i c l x d. subst (λ (z : ℤ). nat_abs z ≤ net_limit) (sym (number_in i c l x d))
            (refined_size coarse (coarse_side w) (coarse_side h) k 1 x i j d (omega (arith, c, odd.0)) (omega (arith, b, odd.1)) l);
      })

  -- the differences from it are the details against the coarse net
  abbrev against : ℕ → Field
  against x = detail_of (field net w x) (field coarse (coarse_side w) x)

  pub details_row : {new : List ℤ} → new ≡ refined_row →
      grid_row (detail_run (row_differences net new w)) w j ≡ grid_row (detail_run against) w j
  unfolding detail_of
  details_row e =
      ap (λ (r : List ℤ). grid_row (detail_run (row_differences net r w)) w j) e
      ∙ runs_same w (λ i. detail_run (row_differences net refined_row w) (vertex_at i j)) (λ i. detail_run against (vertex_at i j)) (λ i c.
      let same : (l : Index) (x : ℕ) → x < 3 → row_differences net refined_row w x (vertex_at i j) l ≡ against x (vertex_at i j) l =
      λ l x d. ap (λ (z : ℤ). field net w x (vertex_at i j) l -ℤ z) (number_in i c l x d) in
      let point : (l : Index) →
      detail_point (row_differences net refined_row w) (vertex_at i j) l ≡ detail_point against (vertex_at i j) l =
      λ l t. same l 0 (lit< tt) t ∷ same l 1 (lit< tt) t ∷ same l 2 (lit< tt) t ∷ [] in
      λ t. point one t ++ point two t ++ point three t)

-- ---- numbers of at most three sevenths of the net's limit in size

wider : (m n : ℕ) (l : List ℤ) → m ≤ n → any_outside m l ≡ false → any_outside n l ≡ false
wider m n [] h e = refl
wider m n (z ∷ zs) h e =
    let f = or_none (outside m z) (any_outside m zs) e in
    sym (or_no (outside n z) (any_outside n zs) (le-ltb n (nat_abs z) (omega (arith, ltb-false m (nat_abs z) f.0, h)))
    (sym (wider m n zs h f.1)))

module _ (net : List ℤ) (w h : ℕ) (size : bad_size w h ≡ false) (short : short_net net w h ≡ false)
    (e : any_outside 7190235 (take (numbers w h) net) ≡ false) where
  number_within : (x : ℕ) → x < 3 → (i j : ℕ) → i < w → j < h → (l : Index) →
      nat_abs (field net w x (vertex_at i j) l) ≤ 7190235
  number_within x c i j u v l =
      let ends = vertex_ends {w = w} {h = h} {i = i} {j = j} u v in
      subst (λ (z : ℤ). nat_abs z ≤ 7190235) (sym (field_number net w (vertex_at i j) l x c))
      (front_within 7190235 net (numbers w h) e (ltb-false _ _ short)
      (start w (vertex_at i j) + (point_stride * rank l + x)) (omega (arith, ends, within_record l x c)))

  coarse_within : (x : ℕ) → x < 3 → (i j : ℕ) → i < coarse_side w → j < coarse_side h → (l : Index) →
      nat_abs (coarse_fields net w x (vertex_at i j) l) ≤ 16777216
  unfolding coarsened
  coarse_within x c i j u v l =
      let F = field net w x (vertex_at (2 * i) (2 * j)) in
      let within : (k : Index) → nat_abs (F k) ≤ 7190235 =
      λ k. number_within x c (2 * i) (2 * j) (omega (arith, u)) (omega (arith, v)) k in
      let bound =
      value_bound (F l ∷ F (next l) ∷ F (previous l) ∷ []) (7190235 ∷ 7190235 ∷ 7190235 ∷ [])
      (lit (pos 5) ⊗ var 0 ⊖ (var 1 ⊕ var 2)) (within l, (within (next l), (within (previous l), tt))) in
      rounded_size (coarse_control F l) 3 16777216 (lit< tt) (le_trans bound (lit≤ tt))

  pub small_net : (net_beyond net w h ≡ false) × (coarse_beyond net w h ≡ false)
  unfolding net_beyond coarse_net
  small_net = (
    wider 7190235 net_limit (take (numbers w h) net) (lit≤ tt) e,
    stored_tested (coarse_fields net w) (coarse_side w) (coarse_side h)
        ∙ stored_fine (coarse_fields net w) (coarse_side w) (coarse_side h) (λ i j u v x c l. coarse_within x c i j u v l),
  )

-- ---- where nothing is refused

-- what splitting needs: an accepted net of odd sides, room for its coarse net and for its details, and every coarse value
-- in the net range
pub record Splittable (net : List ℤ) (w h room detail_room : ℕ) : Type 0 where
  pub given : AcceptedNet net w h
  pub odd : even_size w h ≡ false
  pub roomy : numbers (coarse_side w) (coarse_side h) ≤ room
  pub enough : detail_numbers w h ≤ detail_room
  pub fine : coarse_beyond net w h ≡ false

pub split_accepted : (net : List ℤ) (w h : ℕ) (short : Bool) (room detail_room : ℕ) →
    split_refusal net w h (short || outputs_short w h room detail_room) ≡ 0 → Splittable net w h room detail_room
split_accepted net w h short room detail_room e =
    let c =
    none_clear (odd_faults w h ++ split_faults net w h (short || outputs_short w h room detail_room))
    (lit< tt, (lit< tt, (lit< tt, (lit< tt, (lit< tt, (lit< tt, tt)))))) e in
    let s = or_none short (outputs_short w h room detail_room) c.1.1.1.0 in
    let r = or_none (ltb room (numbers (coarse_side w) (coarse_side h))) (ltb detail_room (detail_numbers w h)) s.1 in
    record {
      given = record { size = c.0; long = c.1.1.0; in_range = c.1.1.1.1.0 };
      odd = c.1.0;
      roomy = ltb-false _ _ r.0;
      enough = ltb-false _ _ r.1;
      fine = c.1.1.1.1.1.0;
    }

-- the coarse net over the front of an output is a net that is taken again
module _ (net : List ℤ) (w h : ℕ) (coarse : List ℤ) {detail_room : ℕ} (s : Splittable net w h (length coarse) detail_room) where
  abbrev wide : ℕ
  wide = coarse_side w

  abbrev high : ℕ
  high = coarse_side h

  abbrev left : List ℤ
  left = over (coarse_net net w h) coarse

  coarse_size : bad_size wide high ≡ false
  coarse_size =
      let g = good_size w h s.given.size in
      let odd = odd_sides w h s.odd in
      good_sides wide high (omega (arith, g.wide, odd.0)) (omega (arith, g.narrow)) (omega (arith, g.high, odd.1))
      (omega (arith, g.low))

  coarse_length : length (coarse_net net w h) ≡ numbers wide high
  unfolding coarse_net
  coarse_length = stored_length (coarse_fields net w) wide high

  pub coarse_taken : AcceptedNet left wide high
  coarse_taken =
      accepted_over (coarse_net net w h) coarse wide high coarse_length coarse_size
      (ap any_beyond (coarse_by_number net w h) ∙ sym (coarse_tested net w h) ∙ s.fine) s.roomy

  -- one refinement of it is that of the coarse field
  pub coarse_refined : (x : ℕ) → x < 3 → (i j : ℕ) → i < w → j < h → (l : Index) →
      refinement (coarse_fields net w x) (vertex_at i j) l ≡ refinement (field left wide x) (vertex_at i j) l
  unfolding coarse_net
  coarse_refined x c i j a b l =
      let odd = odd_sides w h s.odd in
      refinement_local (coarse_fields net w x) (field left wide x) wide high
      (λ m n d e k. sym (stored_field (coarse_fields net w) wide high coarse m n d e k x c)) i j
      (omega (arith, a, odd.0)) (omega (arith, b, odd.1)) l

  pub own_details : details_against net left w h ≡ net_details net w h
  unfolding net_details detail_of
  own_details =
      details_same (λ x. detail_of (field net w x) (field left wide x))
      (λ x. detail_of (field net w x) (coarse_fields net w x)) w h
      (λ x c i j a b l. ap (λ (z : ℤ). field net w x (vertex_at i j) l -ℤ z) (sym (coarse_refined x c i j a b l)))

  -- a net value and a refined value lie in the net range, so a detail lies in the range of details
  pub details_small : (details : List ℤ) → details_beyond (over (net_details net w h) details) w h ≡ false
  unfolding net_details detail_of
  details_small details =
      details_in_range (λ x. detail_of (field net w x) (coarse_fields net w x)) w h details
      (λ x c i j a b l.
      let odd = odd_sides w h s.odd in
      let z = field net w x (vertex_at i j) l in
      let r = refinement (coarse_fields net w x) (vertex_at i j) l in
      let net_size = (accepted_vertex net w h s.given i j a b).1 l x c in
      let refined = refined_size left wide high coarse_taken 1 x i j c (omega (arith, a, odd.0)) (omega (arith, b, odd.1)) l in
      let same : nat_abs r ≤ net_limit = subst (λ (y : ℤ). nat_abs y ≤ net_limit) (sym (coarse_refined x c i j a b l)) refined in
      omega (arith, size_difference z r, net_size, same))

pub coarse_accepted : CoarseAccepted
coarse_accepted net w h short coarse details e =
    coarse_taken net w h coarse (split_accepted net w h short (length coarse) (length details) e)

pub details_within : DetailsWithin
details_within net w h short coarse details e =
    details_small net w h coarse (split_accepted net w h short (length coarse) (length details) e) details

-- ---- the detail at a kept vertex

no_difference : {a b : ℤ} → b ≡ a → a -ℤ b ≡ pos 0
no_difference {a} {b} e = omega (integers, difference_parts a b)

pub kept_details : KeptDetails
unfolding detail_of coarsened
kept_details F i j k = no_difference (kept_refined (coarsened F) i j k ∙ at k)
  where
    at : (k : Index) → rounded (kept_control (coarsened F (vertex_at i j)) k) 12 ≡ F (vertex_at (2 * i) (2 * j)) k
    at one = kept_value (F (vertex_at (2 * i) (2 * j)) one) (F (vertex_at (2 * i) (2 * j)) two) (F (vertex_at (2 * i) (2 * j)) three)
    at two = kept_value (F (vertex_at (2 * i) (2 * j)) two) (F (vertex_at (2 * i) (2 * j)) three) (F (vertex_at (2 * i) (2 * j)) one)
    at three = kept_value (F (vertex_at (2 * i) (2 * j)) three) (F (vertex_at (2 * i) (2 * j)) one) (F (vertex_at (2 * i) (2 * j)) two)

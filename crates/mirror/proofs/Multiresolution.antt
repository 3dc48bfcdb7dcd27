-- Splitting, merging and cleaning of mirror images: refused alike, and what they leave is the mirror image.
use mathlib.Core.Path.{◌≡◌, refl, sym, ap, ◌∙◌}
use mathlib.Core.Bool.{Bool, false, ◌||◌, cond}
use mathlib.Core.List.{List, [], ◌∷◌, ◌++◌, map}
use Prim.Native.Nat.{ℕ, zero, suc, ◌+◌, ◌*◌, ◌≤◌, ◌<◌}
use native.Mathlib.Omega.{arith}
use lib.Dec.{ltb, lit<}
use lib.IntN.{ℤ}
use lib.ListN.{length, take, length-take, length-map}
use borrow.Author.Tests.{ltb-false}
use Rattle.exact.specs.Filling.{over}
use Rattle.exact.specs.Rounding.{negated_if}
use Rattle.exact.proofs.FillingLaws.{length_over}
use Rattle.net.specs.Net.{Index, rank, vertex_at, number, field}
use Rattle.net.specs.Refusals.{bad_size, short_net, net_beyond}
use Rattle.net.proofs.Faults.{or_none, none_clear}
use Rattle.subdivision.specs.Refinement.{refined_side}
use Rattle.steps.specs.RefinedNet.{Fields}
use Rattle.refine.specs.Refusals.{too_deep}
use Rattle.details.specs.Details.{detail_numbers, detail_start, detail_point_stride, detail_field}
use Rattle.details.specs.Refusals.{even_size, too_great, short_details, details_beyond, clean_faults, clean_refusal}
use Rattle.details.specs.Cleaning.{cleaned, cleaned_details}
use Rattle.details.proofs.DetailLaws.{detail_ends, within_record, detail_number}
use Rattle.coarse.specs.Coarse.{coarse_side, coarse_fields, coarse_net}
use Rattle.split.specs.Split.{detail_of, net_details}
use Rattle.split.specs.Refusals.{outputs_short, odd_faults, split_faults, split_refusal}
use Rattle.split.specs.Answers.{split_refusal_with}
use Rattle.split.proofs.SplitLaws.{odd_sides}
use Rattle.merge.specs.Merge.{merged_fields, merged_net}
use Rattle.merge.specs.Refusals.{output_short}
use Rattle.merge.specs.Answers.{merge_refusal_of}
use Rattle.mirror.specs.Mirror.{Coordinates, Opposite, Mirrored, MirroredDetails}
use Rattle.mirror.specs.Promises.{MirroredSplitting, MirroredMerging, MirroredCleaning}
use Rattle.mirror.proofs.Numbers.{cleaned_negated}
use Rattle.mirror.proofs.Fields.{coarse_opposite, detail_opposite, merged_opposite}
use Rattle.mirror.proofs.Ranges.{net_alike, details_alike}
use Rattle.mirror.proofs.Nets.{stored_mirrored, details_mirrored, result_alike, left_by, rows_alike}

-- ---- splitting

module _ {m : Coordinates} {w h : ℕ} {net image : List ℤ} (e : Mirrored m w h net image) where
  coarse_fields_lem : Opposite m (coarse_side w) (coarse_side h) (coarse_fields net w) (coarse_fields image w)
  coarse_fields_lem x c i j a b k =
      coarse_opposite (m x) w h (field net w x) (field image w x) (e.opposite x c) i j a b k

  detail_fields : even_size w h ≡ false →
      Opposite m w h (λ x. detail_of (field net w x) (coarse_fields net w x))
      (λ x. detail_of (field image w x) (coarse_fields image w x))
  detail_fields odd x c i j a b k =
      let s = odd_sides w h odd in
      detail_opposite (m x) (coarse_side w) (coarse_side h) (coarse_fields net w x) (coarse_fields image w x)
      (coarse_fields_lem x c) (field net w x) (field image w x)
      (λ u v f g l. e.opposite x c u v (omega (arith, f, s.0)) (omega (arith, g, s.1)) l)
      i j (omega (arith, a, s.0)) (omega (arith, b, s.1)) k

  splitting_alike : (short : Bool) → split_refusal image w h short ≡ split_refusal net w h short
  unfolding coarse_net
  splitting_alike short =
      let small = result_alike m (coarse_fields net w) (coarse_fields image w) (coarse_side w) (coarse_side h) coarse_fields_lem in
      λ t. cond (bad_size w h) 1
      (cond (even_size w h) 10 (rows_alike 2 e.short (net_alike e) (λ b. cond short 5 (cond b 3 (cond (small t) 11 0))) t))

split_odd : (net : List ℤ) (w h : ℕ) (short : Bool) → split_refusal net w h short ≡ 0 → even_size w h ≡ false
split_odd net w h short z = (none_clear (odd_faults w h ++ split_faults net w h short)
    (lit< tt, (lit< tt, (lit< tt, (lit< tt, (lit< tt, (lit< tt, tt)))))) z).1.0

pub splitting_mirrored : MirroredSplitting
unfolding coarse_net net_details
splitting_mirrored m w h net image e short coarse details =
    let lent = short || outputs_short w h (length coarse) (length details) in
    let r = split_refusal_with net w h short coarse details in
    let F : Fields = λ x. detail_of (field net w x) (coarse_fields net w x) in
    let G : Fields = λ x. detail_of (field image w x) (coarse_fields image w x) in (
      splitting_alike e lent,
      λ z. (
        left_by (Mirrored m (coarse_side w) (coarse_side h)) r r (coarse_net net w h) (coarse_net image w h) coarse coarse
            z z (stored_mirrored m (coarse_fields net w) (coarse_fields image w) (coarse_side w) (coarse_side h) (coarse_fields_lem e)
            coarse coarse),
        left_by (MirroredDetails m w h) r r (net_details net w h) (net_details image w h) details details z z
            (details_mirrored m F G w h (detail_fields e (split_odd net w h lent z)) details details),
      ),
    )

-- ---- merging

inputs_alike : {m : Coordinates} {w h v u : ℕ} {net image l l' : List ℤ} → Mirrored m w h net image →
    MirroredDetails m v u l l' → (short_net net w h || short_details l v u) ≡ false →
    (net_beyond image w h || details_beyond l' v u) ≡ (net_beyond net w h || details_beyond l v u)
inputs_alike {m} {w} {h} {v} {u} {net} {image} {l} {l'} e d long =
    let n = or_none (short_net net w h) (short_details l v u) long in
    λ t. net_alike e n.0 t || details_alike d n.1 t

pub merging_mirrored : MirroredMerging
unfolding merged_net
merging_mirrored m w h coarse coarse' details details' e d out =
    let wide = refined_side w in
    let high = refined_side h in
    let F = merged_fields coarse details w in
    let G = merged_fields coarse' details' w in
    let fields : Opposite m wide high F G =
    λ x c i j a b k. merged_opposite (m x) w h (field coarse w x) (field coarse' w x) (e.opposite x c)
    (detail_field details wide x) (detail_field details' wide x) (d.opposite x c) i j a b k in
    let large = result_alike m F G wide high fields in
    let rest : Bool → Bool → ℕ = λ b n. cond (output_short w h (length out)) 5 (cond b 3 (cond n 11 0)) in
    let same : merge_refusal_of coarse' details' w h out ≡ merge_refusal_of coarse details w h out =
    λ t. cond (bad_size w h) 1 (cond (too_deep w h 1) 4 (rows_alike 2 (λ u. e.short u || d.short u) (inputs_alike e d) (λ b. rest b (large t)) t)) in (
      same,
      λ z. left_by (Mirrored m wide high) (merge_refusal_of coarse details w h out)
          (merge_refusal_of coarse' details' w h out) (merged_net coarse details w h) (merged_net coarse' details' w h) out out z
          (same ∙ z) (stored_mirrored m F G wide high fields out out),
    )

-- ---- cleaning

cleaned_number : (t : ℕ) (l : List ℤ) (n i : ℕ) → i < n → i < length l →
    number (over (map (cleaned t) (take n l)) l) i ≡ cleaned t (number l i)
unfolding over
cleaned_number t l zero i a b = absurd (omega (arith, a))
cleaned_number t [] (suc n) i a b = absurd (omega (arith, b))
cleaned_number t (z ∷ l) (suc n) zero a b = refl
cleaned_number t (z ∷ l) (suc n) (suc i) a b = cleaned_number t l n i (omega (arith, a)) (omega (arith, b))

module _ (w h t : ℕ) (l : List ℤ) (long : detail_numbers w h ≤ length l) where
  abbrev after : List ℤ
  after = over (cleaned_details l w h t) l

  cleaned_field : (x : ℕ) → x < 3 → (i j : ℕ) → i < w → j < h → (k : Index) →
      detail_field after w x (vertex_at i j) k ≡ cleaned t (detail_field l w x (vertex_at i j) k)
  unfolding cleaned_details
  cleaned_field x c i j a b k =
      let v = vertex_at i j in
      let at = detail_start w v + (detail_point_stride * rank k + x) in
      let here : at < detail_numbers w h =
      omega (arith, detail_ends {w = w} {h = h} {i = i} {j = j} a b, within_record k x c) in
      detail_number after w v k x c
      ∙ cleaned_number t l (detail_numbers w h) at here (omega (arith, here, long))
      ∙ ap (cleaned t) (sym (detail_number l w v k x c))

  cleaned_length : length after ≡ length l
  unfolding cleaned_details
  cleaned_length =
      let front = take (detail_numbers w h) l in
      length_over (map (cleaned t) front) l
      (omega (arith, length-map front (cleaned t), length-take (detail_numbers w h) l))

pub cleaning_mirrored : MirroredCleaning
cleaning_mirrored m w h details image e t =
    let same : clean_refusal image w h t ≡ clean_refusal details w h t =
    λ i. cond (bad_size w h) 1 (cond (even_size w h) 10 (cond (too_great t) 12 (rows_alike 2 e.short (details_alike e) (λ b. cond b 3 0) i))) in (
      same,
      λ z.
          let c = none_clear (clean_faults details w h t)
          (lit< tt, (lit< tt, (lit< tt, (lit< tt, (lit< tt, tt))))) z in
          let long = ltb-false (length details) (detail_numbers w h) c.1.1.1.0 in
          let long' = ltb-false (length image) (detail_numbers w h) (e.short ∙ c.1.1.1.0) in
          left_by (MirroredDetails m w h) (clean_refusal details w h t) (clean_refusal image w h t) (cleaned_details details w h t)
          (cleaned_details image w h t) details image z (same ∙ z)
          record {
            short = ap (λ (n : ℕ). ltb n (detail_numbers w h)) (cleaned_length w h t image long') ∙ e.short
                ∙ sym (ap (λ (n : ℕ). ltb n (detail_numbers w h)) (cleaned_length w h t details long));
            opposite = λ x c i j a b k.
                cleaned_field w h t image long' x c i j a b k ∙ ap (cleaned t) (e.opposite x c i j a b k)
                ∙ cleaned_negated (m x) t (detail_field details w x (vertex_at i j) k)
                ∙ ap (negated_if (m x)) (sym (cleaned_field w h t details long x c i j a b k));
          },
    )

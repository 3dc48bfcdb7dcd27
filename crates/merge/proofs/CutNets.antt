-- Numbers beyond those that count do not matter: refusals and merged nets are those of the coarse net and the details cut
-- after them.
use mathlib.Core.Path.{◌≡◌}
use mathlib.Core.Bool.{◌||◌}
use mathlib.Core.List.{List, [], ◌∷◌, ◌++◌}
use Prim.Native.Nat.{ℕ}
use lib.IntN.{ℤ, ◌+ℤ◌}
use Rattle.net.specs.Net.{vertex_at, field}
use Rattle.net.specs.Refusals.{first_fault, net_beyond}
use Rattle.net.proofs.Beyond.{cut, cut_short, cut_beyond, cut_field}
use Rattle.net.proofs.Places.{vertex_ends}
use Rattle.subdivision.specs.Refinement.{refined_side}
use Rattle.steps.proofs.StoredNets.{stored_same, refinement_local}
use Rattle.refine.specs.Refusals.{size_faults}
use Rattle.details.proofs.DetailLaws.{detail_ends}
use Rattle.details.proofs.CutDetails.{cut_details, cut_short_details, cut_details_beyond, cut_detail_field}
use Rattle.merge.specs.Merge.{merged, merged_fields, merged_net}
use Rattle.merge.specs.Refusals.{output_short, merge_refusal}

module _ (coarse details : List ℤ) (w h : ℕ) where
  abbrev wide : ℕ
  wide = refined_side w

  abbrev high : ℕ
  high = refined_side h

  pub cut_merged : merged_net coarse details w h ≡ merged_net (cut coarse w h) (cut_details details wide high) w h
  unfolding merged_net merged
  cut_merged =
      stored_same (merged_fields coarse details w) (merged_fields (cut coarse w h) (cut_details details wide high) w) wide high
      (λ x c i j a b l.
      let refined =
      refinement_local (field coarse w x) (field (cut coarse w h) w x) w h
      (λ m n d e k. cut_field coarse w h (vertex_at m n) (vertex_ends {w = w} {h = h} {i = m} {j = n} d e) k x c) i j a b l in
      let detail =
      cut_detail_field details wide high (vertex_at i j) (detail_ends {w = wide} {h = high} {i = i} {j = j} a b) l x c in
      λ t. refined t +ℤ detail t)

  pub cut_merge_refusal : (room : ℕ) →
      merge_refusal coarse details w h room ≡ merge_refusal (cut coarse w h) (cut_details details wide high) w h room
  cut_merge_refusal room =
      λ t. first_fault
      (size_faults w h 1
      ++ (cut_short coarse w h t || cut_short_details details wide high t, 2) ∷ (output_short w h room, 5)
      ∷ (cut_beyond coarse w h t || cut_details_beyond details wide high t, 3)
      ∷ (net_beyond (cut_merged t) wide high, 11) ∷ [])

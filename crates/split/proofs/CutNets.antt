-- Numbers beyond 9wh do not matter: refusals, coarse nets and details are those of the net cut after its 9wh numbers.
use mathlib.Core.Path.{◌≡◌}
use mathlib.Core.Bool.{Bool, false}
use mathlib.Core.List.{List, [], ◌∷◌, ◌++◌}
use Prim.Native.Nat.{ℕ, ◌*◌, ◌<◌}
use native.Mathlib.Omega.{arith}
use lib.IntN.{ℤ, ◌-ℤ◌}
use Rattle.exact.specs.Rounding.{rounded}
use Rattle.net.specs.Net.{Index, vertex_at, field}
use Rattle.net.specs.Refusals.{first_fault, net_beyond}
use Rattle.net.proofs.Beyond.{cut, cut_short, cut_beyond, cut_field}
use Rattle.net.proofs.Places.{vertex_ends}
use Rattle.steps.proofs.StoredNets.{Agree, stored_same, refinement_local}
use Rattle.details.specs.Refusals.{even_size}
use Rattle.details.proofs.DetailLaws.{details_same}
use Rattle.coarse.specs.Coarse.{coarse_side, coarse_control, coarsened, coarse_fields, coarse_net}
use Rattle.split.specs.Split.{detail_of, net_details}
use Rattle.split.specs.Refusals.{odd_faults, split_refusal}
use Rattle.split.proofs.SplitLaws.{odd_sides}

module _ (net : List ℤ) (w h : ℕ) where
  same_field : (x : ℕ) → x < 3 → (i j : ℕ) → i < w → j < h → (l : Index) →
      field net w x (vertex_at i j) l ≡ field (cut net w h) w x (vertex_at i j) l
  same_field x c i j a b l = cut_field net w h (vertex_at i j) (vertex_ends {w = w} {h = h} {i = i} {j = j} a b) l x c

  same_coarse : (x : ℕ) → x < 3 →
      Agree (coarse_side w) (coarse_side h) (coarse_fields net w x) (coarse_fields (cut net w h) w x)
  unfolding coarsened
  same_coarse x c i j a b l =
      λ t. rounded (coarse_control (λ k. same_field x c (2 * i) (2 * j) (omega (arith, a)) (omega (arith, b)) k t) l) 3

  pub cut_coarse : coarse_net net w h ≡ coarse_net (cut net w h) w h
  unfolding coarse_net
  cut_coarse =
      stored_same (coarse_fields net w) (coarse_fields (cut net w h) w) (coarse_side w) (coarse_side h) same_coarse

  pub cut_details_lem : even_size w h ≡ false → net_details net w h ≡ net_details (cut net w h) w h
  unfolding net_details detail_of
  cut_details_lem odd =
      let e = odd_sides w h odd in
      details_same (λ x. detail_of (field net w x) (coarse_fields net w x))
      (λ x. detail_of (field (cut net w h) w x) (coarse_fields (cut net w h) w x)) w h
      (λ x c i j a b l.
      let refined =
      refinement_local (coarse_fields net w x) (coarse_fields (cut net w h) w x) (coarse_side w) (coarse_side h)
      (same_coarse x c) i j (omega (arith, a, e.0)) (omega (arith, b, e.1)) l in
      λ t. same_field x c i j a b l t -ℤ refined t)

  pub cut_split_refusal : (short : Bool) → split_refusal net w h short ≡ split_refusal (cut net w h) w h short
  cut_split_refusal short =
      λ t. first_fault
      (odd_faults w h
      ++ (cut_short net w h t, 2) ∷ (short, 5) ∷ (cut_beyond net w h t, 3)
      ∷ (net_beyond (cut_coarse t) (coarse_side w) (coarse_side h), 11) ∷ [])

-- Document 01, "Split, merge, clean", and demand 2: 'an accepted split merges to its net'. Statements about the
-- definitions of the calls, each with the name of its proof; `coarse`, `details` and `out` are whatever is lent. Split
-- after merge is not promised.
use Rattle.std.specs.Prelude.{◌≡◌, false, List, ℕ, ◌≤◌, ◌<◌, ℤ, nat_abs, ◌-ℤ◌, length, take}
use Rattle.exact.specs.Filling.{over}
use Rattle.net.specs.Net.{Index, vertex_at, numbers, field}
use Rattle.details.specs.Refusals.{too_great, clean_refusal}
use Rattle.details.specs.Cleaning.{Cleaned, clean_output}
use Rattle.coarse.specs.Coarse.{coarse_side, coarse_net}
use Rattle.split.specs.Split.{net_details}
use Rattle.split.specs.Answers.{split_refusal_of}
use Rattle.merge.specs.Answers.{merge_refusal_of, merge_output}

-- what an accepted split leaves in the output for the coarse net and in the one for the details
abbrev pub coarse_left : List ℤ → ℕ → ℕ → List ℤ → List ℤ
coarse_left net w h coarse = over (coarse_net net w h) coarse

abbrev pub details_left : List ℤ → ℕ → ℕ → List ℤ → List ℤ
details_left net w h details = over (net_details net w h) details

-- an accepted split is merged, accepted, to the first 9wh numbers of its net (`split_merges`)
abbrev pub SplitMerges : Type 0
SplitMerges =
    (net : List ℤ) (w h : ℕ) (coarse details out : List ℤ) → split_refusal_of net w h coarse details ≡ 0 →
    numbers w h ≤ length out →
    (let c = coarse_left net w h coarse in
    let d = details_left net w h details in
    (merge_refusal_of c d (coarse_side w) (coarse_side h) out ≡ 0)
    × (merge_output c d (coarse_side w) (coarse_side h) out ≡ over (take (numbers w h) net) out))

-- no number of a net of width w and height h is t or more from that of another
abbrev pub MovedBelow : ℕ → List ℤ → List ℤ → ℕ → ℕ → Type 0
MovedBelow t net other w h =
    (i j : ℕ) → i < w → j < h → (k : Index) (x : ℕ) → x < 3 →
    nat_abs (field other w x (vertex_at i j) k -ℤ field net w x (vertex_at i j) k) < t

-- details of an accepted split that were cleaned, by whatever rule that zeroes only details below t in size, t above 0,
-- are merged, accepted, and move no number by t or more (`cleaned_merges`)
abbrev pub CleanedMerges : Type 0
CleanedMerges =
    (net : List ℤ) (w h t : ℕ) (coarse details out cleaned : List ℤ) → split_refusal_of net w h coarse details ≡ 0 →
    numbers w h ≤ length out → 0 < t → Cleaned t (details_left net w h details) cleaned →
    (let c = coarse_left net w h coarse in
    (merge_refusal_of c cleaned (coarse_side w) (coarse_side h) out ≡ 0)
    × MovedBelow t net (merge_output c cleaned (coarse_side w) (coarse_side h) out) w h)

-- so from the net through split, clean and merge: cleaning is accepted, merging too, and no number moves by t or more
-- (`clean_merges`)
abbrev pub CleanMerges : Type 0
CleanMerges =
    (net : List ℤ) (w h t : ℕ) (coarse details out : List ℤ) → split_refusal_of net w h coarse details ≡ 0 →
    numbers w h ≤ length out → 0 < t → too_great t ≡ false →
    (let c = coarse_left net w h coarse in
    let d = details_left net w h details in
    let e = clean_output d w h t in
    (clean_refusal d w h t ≡ 0)
    × (merge_refusal_of c e (coarse_side w) (coarse_side h) out ≡ 0)
    × MovedBelow t net (merge_output c e (coarse_side w) (coarse_side h) out) w h)

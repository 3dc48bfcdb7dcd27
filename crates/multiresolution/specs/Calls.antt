-- What the functions that split, clean and merge in one go promise, of their arguments, of each lent slice before and
-- after, and of their answer. Their refusals are those of splitting, where 5 is of the output too and 12 stands in its
-- place, so that a refusal changes nothing.
use Rattle.std.specs.Prelude.{◌≡◌, refl, Bool, ◌||◌, cond, List, [], ◌∷◌, ◌++◌, ℕ, ◌<◌, ◌-◌, ℤ, pos, length, take, replicate, Result}
use Rattle.exact.specs.Rounding.{rounded, floor_quotient}
use Rattle.exact.specs.Filling.{runs}
use Rattle.net.specs.Net.{numbers, grid, control_point, control_triangle}
use Rattle.net.specs.Refusals.{Fault, first_fault, accepted, net_beyond, output_after, answer_by, too_short_for}
use Rattle.net.specs.Results.{call_outcome}
use Rattle.net.specs.declared.refusals.Refusal.{Refusal}
use Rattle.steps.specs.RefinedNet.{stored}
use Rattle.details.specs.Refusals.{too_great}
use Rattle.details.specs.Cleaning.{clean_output}
use Rattle.coarse.specs.Coarse.{coarse_side, coarsened, coarse_net}
use Rattle.split.specs.Refusals.{odd_faults, split_faults, outputs_short}
use Rattle.split.specs.Answers.{split_refusal_with, split_coarse, split_details}
use Rattle.merge.specs.Merge.{merged_net}
use Rattle.multiresolution.specs.Promises.{details_left, MovedBelow}

-- splitting and then merging: the first of 1, 10, 2, 5, 3, 11
abbrev pub round_trip_refusal : List ℤ → ℕ → ℕ → List ℤ → List ℤ → List ℤ → ℕ
round_trip_refusal net w h coarse details out =
    split_refusal_with net w h (too_short_for w h (length out)) coarse details

pub record RoundTrip (net : List ℤ) (w h : ℕ) (coarse details out : List ℤ) (r : Result (Unit {0}) Refusal) (coarse' details' out' : List ℤ) : Type 0 where
  pub answer : call_outcome r ≡ answer_by (round_trip_refusal net w h coarse details out)
  pub coarse_after : coarse' ≡ split_coarse (round_trip_refusal net w h coarse details out) net w h coarse
  pub details_after : details' ≡ split_details (round_trip_refusal net w h coarse details out) net w h details
  -- the net's own numbers
  pub out_after : out' ≡ output_after (round_trip_refusal net w h coarse details out) (take (numbers w h) net) out

-- splitting, cleaning and merging: the first of 1, 10, 12, 2, 5, 3, 11
abbrev pub cleaned_faults : List ℤ → ℕ → ℕ → ℕ → Bool → List Fault
cleaned_faults net w h t short = odd_faults w h ++ (too_great t, 12) ∷ split_faults net w h short

abbrev pub cleaned_refusal : List ℤ → ℕ → ℕ → ℕ → List ℤ → List ℤ → List ℤ → ℕ
cleaned_refusal net w h t coarse details out =
    first_fault (cleaned_faults net w h t (too_short_for w h (length out) || outputs_short w h (length coarse) (length details)))

-- the details of the net, cleaned, where nothing is refused
abbrev pub cleaned_left : ℕ → List ℤ → ℕ → ℕ → ℕ → List ℤ → List ℤ
cleaned_left refusal net w h t details = cond (accepted refusal) (clean_output (details_left net w h details) w h t) details

pub record CleanedNet (net : List ℤ) (w h t : ℕ) (coarse details out : List ℤ) (r : Result (Unit {0}) Refusal) (coarse' details' out' : List ℤ) : Type 0 where
  pub answer : call_outcome r ≡ answer_by (cleaned_refusal net w h t coarse details out)
  pub coarse_after : coarse' ≡ split_coarse (cleaned_refusal net w h t coarse details out) net w h coarse
  pub details_after : details' ≡ cleaned_left (cleaned_refusal net w h t coarse details out) net w h t details
  -- what the two outputs merge to
  pub out_after :
      out'
      ≡ output_after (cleaned_refusal net w h t coarse details out)
      (merged_net coarse' details' (coarse_side w) (coarse_side h)) out
  -- 'Merging a net's cleaned details moves no number by t or more (t above 0)'
  pub moved : cleaned_refusal net w h t coarse details out ≡ 0 → 0 < t → MovedBelow t net out' w h

-- ---- worked cases

-- nets of 3 by 3: of zeros, and one number too few, each beyond the range; outputs that are too short, and long enough
abbrev pub flat : List ℤ
flat = replicate (numbers 3 3) (pos 0)

abbrev short : List ℤ
short = replicate (numbers 3 3 - 1) (pos 16777217)

-- 5 is of each of the three outputs
rooms :
    (round_trip_refusal flat 3 3 (replicate 36 (pos 0)) flat flat ≡ 0)
    × (round_trip_refusal flat 3 3 (replicate 35 (pos 0)) flat flat ≡ 5)
    × (round_trip_refusal flat 3 3 (replicate 36 (pos 0)) (replicate 80 (pos 0)) flat ≡ 5)
    × (round_trip_refusal flat 3 3 (replicate 36 (pos 0)) flat (replicate 80 (pos 0)) ≡ 5)
unfolding net_beyond coarse_net coarsened stored grid runs rounded floor_quotient control_triangle control_point
rooms = (refl, refl, refl, refl)

-- every fault at once, and then without the one that was found
order :
    (cleaned_refusal short 1026 4 33554433 [] [] [] ≡ 1)
    × (cleaned_refusal short 3 4 33554433 [] [] [] ≡ 10)
    × (cleaned_refusal short 3 3 33554433 [] [] [] ≡ 12)
    × (cleaned_refusal short 3 3 33554432 [] [] [] ≡ 2)
    × (cleaned_refusal flat 3 3 33554432 (replicate 36 (pos 0)) flat [] ≡ 5)
    × (cleaned_refusal (pos 16777217 ∷ flat) 3 3 33554432 (replicate 36 (pos 0)) flat flat ≡ 3)
    × (cleaned_refusal (pos 16777216 ∷ flat) 3 3 33554432 (replicate 36 (pos 0)) flat flat ≡ 11)
    × (cleaned_refusal flat 3 3 33554432 (replicate 36 (pos 0)) flat flat ≡ 0)
unfolding net_beyond coarse_net coarsened stored grid runs rounded floor_quotient control_triangle control_point
order = (refl, refl, refl, refl, refl, refl, refl, refl)

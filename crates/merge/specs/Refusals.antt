-- Document 01, "Turned away": the rows of merging, in the order 1, 4, 2, 5, 3, 11. Width and height are those of the
-- coarse net.
use Rattle.std.specs.Prelude.{◌≡◌, refl, Bool, true, false, ◌||◌, List, [], ◌∷◌, ◌++◌, ℕ, ◌*◌, ◌-◌, ◌≤◌, ◌<◌, ltb, ℤ, pos, length, replicate, set}
use Rattle.exact.specs.Rounding.{rounded, floor_quotient}
use Rattle.exact.specs.Filling.{runs}
use Rattle.net.specs.Net.{vertex_at, stride, numbers, grid, control_point, control_triangle}
use Rattle.net.specs.Refusals.{Fault, first_fault, bad_size, short_net, net_limit, net_beyond, ControlsWithin, AcceptedNet, too_large, too_few}
use Rattle.subdivision.specs.Refinement.{refined_side, refinement, exact_refinement}
use Rattle.steps.specs.RefinedNet.{stored}
use Rattle.steps.specs.Steps.{Depth}
use Rattle.refine.specs.Refusals.{size_faults}
use Rattle.details.specs.Details.{detail_numbers, detail_triangle}
use Rattle.details.specs.Refusals.{short_details, details_beyond}
use Rattle.merge.specs.Merge.{merged, merged_net}

-- 2: the coarse net or the details of the fine size are too short
abbrev pub short_inputs : List ℤ → List ℤ → ℕ → ℕ → Bool
short_inputs coarse details w h = short_net coarse w h || short_details details (refined_side w) (refined_side h)

-- 5: an output of `room` numbers is shorter than the merged net
abbrev pub output_short : ℕ → ℕ → ℕ → Bool
output_short w h room = ltb room (numbers (refined_side w) (refined_side h))

-- 3: a coarse number beyond the net range, or a detail beyond that of details
abbrev pub inputs_beyond : List ℤ → List ℤ → ℕ → ℕ → Bool
inputs_beyond coarse details w h = net_beyond coarse w h || details_beyond details (refined_side w) (refined_side h)

-- 11: a sum outside the net range
abbrev pub merged_beyond : List ℤ → List ℤ → ℕ → ℕ → Bool
merged_beyond coarse details w h = net_beyond (merged_net coarse details w h) (refined_side w) (refined_side h)

-- the rows that look at the numbers, after those of one step of refining that look at sizes alone
abbrev pub merge_faults : List ℤ → List ℤ → ℕ → ℕ → ℕ → List Fault
merge_faults coarse details w h room =
    (short_inputs coarse details w h, 2) ∷ (output_short w h room, 5) ∷ (inputs_beyond coarse details w h, 3)
    ∷ (merged_beyond coarse details w h, 11) ∷ []

abbrev pub merge_refusal : List ℤ → List ℤ → ℕ → ℕ → ℕ → ℕ
merge_refusal coarse details w h room = first_fault (size_faults w h 1 ++ merge_faults coarse details w h room)

-- what is known of a coarse net and details where 1, 4, 2 and 3 do not refuse
pub record Mergeable (coarse details : List ℤ) (w h : ℕ) : Type 0 where
  pub depth : Depth w h 1
  pub given : AcceptedNet coarse w h
  pub long : detail_numbers (refined_side w) (refined_side h) ≤ length details
  pub fine : details_beyond details (refined_side w) (refined_side h) ≡ false

-- the same of row j of the fine net, of width w and height h, and of a refined row in a slice of its own
pub record RowMergeable (row details : List ℤ) (w h j : ℕ) : Type 0 where
  pub size : bad_size w h ≡ false
  pub lies : j < h
  pub room : stride * w ≤ length row
  pub small : (i : ℕ) → i < w → ControlsWithin net_limit (control_triangle row w (vertex_at i 0))
  pub long : detail_numbers w h ≤ length details
  pub fine : details_beyond details w h ≡ false

-- ---- worked cases

-- 2 by 3 needs details and an output of 135 numbers
rooms : (output_short 2 3 135 ≡ false) × (output_short 2 3 134 ≡ true)
rooms = (refl, refl)

short_inputs_lem :
    (short_inputs (replicate 54 (pos 0)) (replicate 135 (pos 0)) 2 3 ≡ false)
    × (short_inputs (replicate 53 (pos 0)) (replicate 135 (pos 0)) 2 3 ≡ true)
    × (short_inputs (replicate 54 (pos 0)) (replicate 134 (pos 0)) 2 3 ≡ true)
short_inputs_lem = (refl, refl, refl)

-- coarse nets of 2 by 2 and details of 3 by 3: at the limit of the net range, and document 01's detail of 1 at its last
-- number; beyond their ranges
abbrev limit : List ℤ
limit = replicate (numbers 2 2) (pos 16777216)

abbrev none : List ℤ
none = replicate (detail_numbers 3 3) (pos 0)

abbrev large : List ℤ
large = set none 80 (pos 33554433)

ranges :
    (inputs_beyond limit none 2 2 ≡ false) × (inputs_beyond (too_large 35) none 2 2 ≡ true)
    × (inputs_beyond limit large 2 2 ≡ true) × (inputs_beyond limit (set none 80 (pos 33554432)) 2 2 ≡ false)
unfolding net_beyond details_beyond
ranges = (refl, refl, refl, refl)

-- every fault at once, and then without the one that was found, to none
order :
    (merge_refusal too_few large 1026 514 0 ≡ 1)
    × (merge_refusal too_few large 2 514 0 ≡ 4)
    × (merge_refusal too_few large 2 2 0 ≡ 2)
    × (merge_refusal (too_large 0) large 2 2 80 ≡ 5)
    × (merge_refusal limit large 2 2 81 ≡ 3)
    × (merge_refusal limit (set none 80 (pos 1)) 2 2 81 ≡ 11)
    × (merge_refusal limit none 2 2 81 ≡ 0)
unfolding net_beyond details_beyond merged_net merged stored grid runs refinement exact_refinement rounded floor_quotient detail_triangle control_triangle control_point
order = (refl, refl, refl, refl, refl, refl, refl)

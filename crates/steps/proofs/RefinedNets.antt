-- The refined net of an accepted net is an accepted net.
use mathlib.Core.Path.{◌≡◌, subst}
use mathlib.Core.Bool.{false}
use mathlib.Core.List.{List}
use Prim.Native.Nat.{ℕ, ◌≤◌, ◌<◌}
use lib.IntN.{ℤ, nat_abs}
use lib.ListN.{length}
use Rattle.exact.specs.Filling.{over}
use Rattle.net.specs.Net.{Index, vertex_at, Field, field}
use Rattle.net.specs.Refusals.{net_limit, bad_size, any_beyond, AcceptedNet}
use Rattle.net.proofs.Accepted.{good_sides, accepted_over}
use Rattle.subdivision.specs.Refinement.{side_after, refinements}
use Rattle.subdivision.specs.WeightTable.{weights, weights_pass}
use Rattle.subdivision.proofs.SameSpline.{side_at_least}
use Rattle.bounds.proofs.Distance.{our_nets}
use Rattle.bounds.proofs.DemandThree.{refined_in_range}
use Rattle.steps.specs.RefinedNet.{refined_net, numbers_after}
use Rattle.steps.specs.Steps.{Depth}
use Rattle.steps.proofs.StoredNets.{stored_fine, refined_length_lem}

pub refined_size : (net : List ℤ) (w h : ℕ) → AcceptedNet net w h → (k x i j : ℕ) → x < 3 → i < side_after k w →
    j < side_after k h → (l : Index) → nat_abs (refinements k (field net w x) (vertex_at i j) l) ≤ net_limit
refined_size net w h a k x i j c d e l =
    subst (λ (F : Field). nat_abs (F (vertex_at i j) l) ≤ net_limit) (our_nets k (field net w x))
    (refined_in_range weights weights_pass net w h a k i j x c d e l)

pub good_after : {w h k : ℕ} → Depth w h k → bad_size (side_after k w) (side_after k h) ≡ false
good_after {w} {h} {k} d =
    good_sides (side_after k w) (side_after k h) (side_at_least k w d.wide) d.narrow (side_at_least k h d.high)
    d.low

refined_fine : (net : List ℤ) (w h k : ℕ) → AcceptedNet net w h → any_beyond (refined_net net w h k) ≡ false
unfolding refined_net
refined_fine net w h k a =
    stored_fine (λ x. refinements k (field net w x)) (side_after k w) (side_after k h)
    (λ i j b c x d l. refined_size net w h a k x i j d b c l)

pub refined_accepted : (net out : List ℤ) {w h k : ℕ} → Depth w h k → AcceptedNet net w h →
    numbers_after k w h ≤ length out →
    AcceptedNet (over (refined_net net w h k) out) (side_after k w) (side_after k h)
refined_accepted net out {w} {h} {k} d a room =
    accepted_over (refined_net net w h k) out (side_after k w) (side_after k h) (refined_length_lem net w h k) (good_after d)
    (refined_fine net w h k a) room

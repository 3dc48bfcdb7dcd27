-- Demand 3 on the door: what refining with an outline leaves is an accepted net with an outline that no row before 15
-- refuses, and a place is on its door exactly where it is on the starting outline's; so on the door the answer is the
-- plain one, of which demand 3 holds.
use mathlib.Core.Path.{◌≡◌, refl, sym, ap, subst, ◌∙◌}
use mathlib.Core.Bool.{Bool, true, false, not, cond}
use mathlib.Core.List.{List, [], ◌++◌}
use Prim.Native.Nat.{ℕ, ◌≤◌}
use native.Mathlib.Omega.{arith}
use lib.Dec.{lit<}
use lib.IntN.{ℤ}
use lib.ListN.{length, take}
use borrow.Author.Tests.{le-ltb}
use Rattle.exact.specs.Filling.{over}
use Rattle.exact.proofs.FillingLaws.{length_over, take_over}
use Rattle.net.specs.Refusals.{Fault, first_fault, short_net, net_beyond, AcceptedNet}
use Rattle.net.proofs.Faults.{Clear, none_clear, clear_none, clear_parts, or_no, cond_false, when_accepted}
use Rattle.net.proofs.Places.{good_size}
use Rattle.places.specs.Places.{OnGrid}
use Rattle.graphs.proofs.WalkLaws.{judged_yes, judged_no}
use Rattle.outline.specs.Outline.{triangles}
use Rattle.outline.specs.Refusals.{short_outline, bad_byte}
use Rattle.outline.proofs.CutOutlines.{cut_bad_byte}
use Rattle.door.specs.Door.{OnDoor, on_door}
use Rattle.door.proofs.DoorLaws.{on_door_judged}
use Rattle.surface.specs.Answers.{point_answer}
use Rattle.surface.proofs.Accepted.{on_the_grid}
use Rattle.subdivision.specs.Refinement.{side_after}
use Rattle.bounds.specs.DemandThree.{fine_edge}
use Rattle.steps.specs.RefinedNet.{refined_net}
use Rattle.steps.specs.Steps.{Depth}
use Rattle.refine.specs.Answers.{refusal_of, refine_output}
use Rattle.refine.proofs.Depths.{good_depth}
use Rattle.refine.proofs.Refinable.{refine_accepted}
use Rattle.refined_points.specs.DemandThree.{Claimed}
use Rattle.refined_points.proofs.RefinedPoints.{left_accepted, refined_points}
use Rattle.fine_outline.specs.FineOutline.{fine_outline}
use Rattle.fine_outline.proofs.FineBytes.{fine_length_lem}
use Rattle.fine_outline.proofs.FineDoors.{fine_door}
use Rattle.fine_outline.proofs.FineFronts.{front_door, fine_bytes_lem}
use Rattle.outlined_points.specs.Refusals.{point_faults}
use Rattle.outlined_points.specs.Answers.{outlined_point_answer}
use Rattle.outlined_points.proofs.Answers.{refused_point, plain_point}
use Rattle.outlined_refine.specs.Refusals.{late_faults}
use Rattle.outlined_refine.specs.Answers.{faults_of, outlined_refusal_of}
use Rattle.outlined_refine.proofs.CallLaws.{Searchable, searchable_by, plain_refusal}
use Rattle.outlined_refined_points.specs.DemandThree.{door_answer, RefinedDoorPoints, OffDoor}

module _ (net : List ℤ) (w h k : ℕ) (outline : List ℕ) (out scratch : List ℤ) (fine search : List ℕ)
    (none : outlined_refusal_of net w h k outline out scratch fine search ≡ 0) where
  abbrev wide : ℕ
  wide = side_after k w

  abbrev high : ℕ
  high = side_after k h

  abbrev left : List ℤ
  left = over (refined_net net w h k) out

  abbrev left_outline : List ℕ
  left_outline = over (fine_outline outline w h k) fine

  abbrev before : List Fault
  before = faults_of net w h k outline out scratch fine search

  abbrev late : List Fault
  late = late_faults net w h outline

  clear : Clear before × Clear late
  clear =
      clear_parts before late
      (none_clear (before ++ late)
      (lit< tt, (lit< tt, (lit< tt, (lit< tt, (lit< tt, (lit< tt, (lit< tt, tt))))))) none)

  ready : Searchable net w h k outline (length out) (length scratch) (length fine) (length search)
  ready =
      searchable_by net w h k outline (length out) (length scratch) (length fine) (length search)
      (clear_none before clear.0)

  pub plain_none : refusal_of net w h k out scratch ≡ 0
  plain_none =
      sym (plain_refusal net w h k outline out scratch (length fine) (length search) ready)
      ∙ sym (cond_false (net_beyond net w h) 3 0 clear.1.1.0 refl)

  depth : Depth w h k
  depth = good_depth w h k ready.size ready.deep

  accepted_net : AcceptedNet left wide high
  accepted_net = left_accepted net w h k out (refine_accepted net w h k (length out) (length scratch) plain_none)

  accepted_sides : (2 ≤ wide) × (2 ≤ high)
  accepted_sides = let g = good_size wide high accepted_net.size in (g.wide, g.high)

  -- the fine outline is long enough, and its bytes are 0 or 1
  long_outline : short_outline left_outline wide high ≡ false
  long_outline =
      let room : length (fine_outline outline w h k) ≤ length fine = omega (arith, fine_length_lem outline w h k, ready.fine) in
      le-ltb (length left_outline) (triangles wide high)
      (omega (arith, length_over (fine_outline outline w h k) fine room, ready.fine))

  good_bytes : bad_byte left_outline wide high ≡ false
  good_bytes =
      sym (cut_bad_byte left_outline wide high)
      ∙ ap (λ (l : List ℕ). bad_byte l wide high)
      (ap (λ (n : ℕ). take n left_outline) (sym (fine_length_lem outline w h k)) ∙ take_over (fine_outline outline w h k) fine)
      ∙ fine_bytes_lem outline w h k depth.wide depth.high ready.good ready.bytes

  module _ (p q : ℕ) (place : OnGrid 1024 wide high p q) where
    -- the rows of the point before 15 do not refuse
    rows : (b : Bool) → on_door 1024 left_outline wide high p q ≡ b →
        cond (not b) 15 0 ≡ first_fault (point_faults left wide high left_outline p q)
    rows b e =
        cond_false _ 1 _ accepted_net.size
        (cond_false _ 6 _ (on_the_grid 1024 wide high p q place)
        (cond_false _ 2 _ (sym (or_no (short_net left wide high) _ accepted_net.long (sym long_outline)))
        (cond_false _ 13 _ good_bytes (ap (λ (t : Bool). cond (not t) 15 0) (sym e)))))

    same_door : (OnDoor 1024 left_outline wide high p q → OnDoor (fine_edge k) outline w h p q)
        × (OnDoor (fine_edge k) outline w h p q → OnDoor 1024 left_outline wide high p q)
    same_door =
        let f = fine_door outline w h k p q depth.wide depth.high in
        let g = front_door outline fine w h k 1024 p q in
        ((λ d. f.0 (g.0 d)), (λ d. g.1 (f.1 d)))

    -- on the door the answer is the plain one
    plain_answer : OnDoor (fine_edge k) outline w h p q →
        point_answer left wide high p q ≡ outlined_point_answer left wide high left_outline p q
    unfolding point_answer outlined_point_answer
    plain_answer d =
        plain_point left wide high left_outline p q false
        (rows true (judged_yes (on_door_judged 1024 left_outline wide high p q accepted_sides.0 accepted_sides.1) (same_door.1 d))) refl refl

    off_answer : (OnDoor (fine_edge k) outline w h p q → ⊥) →
        (15, []) ≡ outlined_point_answer left wide high left_outline p q
    unfolding outlined_point_answer
    off_answer d =
        refused_point left wide high left_outline p q false
        (rows false (judged_no (on_door_judged 1024 left_outline wide high p q accepted_sides.0 accepted_sides.1) (λ o. d (same_door.0 o)))) (λ z. omega (arith, z))

    -- said of the slices as the call leaves them
    as_left : outlined_point_answer left wide high left_outline p q ≡ door_answer net w h k outline out scratch fine search p q
    as_left =
        let r = outlined_refusal_of net w h k outline out scratch fine search in
        λ t. outlined_point_answer (when_accepted r left out none t) wide high (when_accepted r left_outline fine none t) p q

-- of the plain calls: refining, and then a surface point
pub door_plain : (net : List ℤ) (w h k : ℕ) (outline : List ℕ) (out scratch : List ℤ) (fine search : List ℕ)
    (none : outlined_refusal_of net w h k outline out scratch fine search ≡ 0) (p q : ℕ) →
    OnGrid 1024 (side_after k w) (side_after k h) p q → OnDoor (fine_edge k) outline w h p q →
    point_answer (refine_output net w h k out scratch) (side_after k w) (side_after k h) p q
    ≡ door_answer net w h k outline out scratch fine search p q
door_plain net w h k outline out scratch fine search none p q place d =
    ap (λ (l : List ℤ). point_answer l (side_after k w) (side_after k h) p q)
    (sym (when_accepted (refusal_of net w h k out scratch) (over (refined_net net w h k) out) out (plain_none net w h k outline out scratch fine search none)))
    ∙ plain_answer net w h k outline out scratch fine search none p q place d
    ∙ as_left net w h k outline out scratch fine search none p q place

pub refined_door_points : RefinedDoorPoints
refined_door_points net w h k outline out scratch fine search none p q place d =
    subst (Claimed net w h k p q) (door_plain net w h k outline out scratch fine search none p q place d)
    (refined_points net w h k out scratch (plain_none net w h k outline out scratch fine search none) p q place)

pub off_door_lem : OffDoor
off_door_lem net w h k outline out scratch fine search none p q place d =
    sym (off_answer net w h k outline out scratch fine search none p q place d
    ∙ as_left net w h k outline out scratch fine search none p q place)

-- From a net file to the refined net: the faults of reading and of refining are one list, and what was read is what is
-- refined.
use mathlib.Core.Path.{◌≡◌, sym, ap, subst, ◌∙◌}
use mathlib.Core.Bool.{Bool, false}
use mathlib.Core.List.{List, [], ◌∷◌, ◌++◌}
use Prim.Native.Nat.{ℕ, ◌*◌, ◌<◌}
use native.Mathlib.Omega.{arith}
use lib.Dec.{lit<}
use lib.IntN.{ℤ}
use lib.ListN.{length}
use Rattle.exact.specs.Filling.{over, runs}
use Rattle.exact.proofs.FillingLaws.{runs_same}
use Rattle.net.specs.Net.{number}
use Rattle.net.specs.Refusals.{Fault, first_fault, AcceptedNet}
use Rattle.net.proofs.Faults.{when_accepted, numbered_append, none_clear, clear_none, clear_parts, fault_before, fault_after}
use Rattle.places.specs.Places.{OnGrid}
use Rattle.subdivision.specs.Refinement.{refined_side, side_after}
use Rattle.steps.specs.RefinedNet.{refined_net}
use Rattle.refine.specs.Refusals.{too_short, size_faults, net_faults, refine_refusal}
use Rattle.refine.proofs.Refinable.{Refinable, refine_accepted}
use Rattle.refine.proofs.CutNets.{cut_refine_refusal, cut_refined}
use Rattle.refined_points.proofs.RefinedPoints.{left_accepted, refined_coordinate_lem, point_of_refined}
use Rattle.words.specs.NetFile.{file_width, file_height, file_numbers}
use Rattle.writer.specs.Refusals.{write_faults}
use Rattle.reader.specs.Refusals.{read_faults, read_refusal, short_for}
use Rattle.reader.specs.Answers.{read_net}
use Rattle.reader.proofs.ReadLaws.{read_numbered}
use Rattle.netfile.specs.Promises.{Readable}
use Rattle.netfile.proofs.AcceptedFiles.{read_front, accepted_again}
use Rattle.listing_text.specs.Listing.{head_line, point_line, refusal_line, vertex_line, listing}
use Rattle.listing_input.specs.Printed.{buffer_size, list_refusal, refined_file, step_refusal}
use Rattle.listing_input.specs.Promises.{PiecesPrinted}
use Rattle.listing_text.proofs.PieceLaws.{pieces_list}

module _ (file : List ℕ) (lent : List ℤ) (out_room : ℕ) where
  abbrev w : ℕ
  w = file_width file

  abbrev h : ℕ
  h = file_height file

  abbrev reading : List Fault
  reading = read_faults file (short_for file (length lent))

  abbrev short : Bool
  short = too_short w h 1 out_room 0

  abbrev later : List Fault
  later = size_faults w h 1 ++ net_faults (file_numbers file) w h short

  -- reading refuses
  pub refused_reading : {n : ℕ} → n ≡ read_refusal file (short_for file (length lent)) → (n ≡ 0 → ⊥) →
      n ≡ list_refusal file (length lent) out_room
  refused_reading e there = e ∙ fault_before reading later (λ z. there (e ∙ z))

  -- or it does not: then refining what was read is refused as the file's numbers are
  module _ (taken : Readable file lent) where
    pub refusal_after : refine_refusal (read_net file lent) w h 1 short ≡ list_refusal file (length lent) out_room
    refusal_after =
        cut_refine_refusal (read_net file lent) w h short 1
        ∙ ap (λ (l : List ℤ). refine_refusal l w h 1 short) (read_front file lent taken)
        ∙ fault_after reading later (none_clear reading (read_numbered file (short_for file (length lent))) taken)

    pub refined_after_lem : refined_net (read_net file lent) w h 1 ≡ refined_file file
    refined_after_lem =
        cut_refined (read_net file lent) w h 1 ∙ ap (λ (l : List ℤ). refined_net l w h 1) (read_front file lent taken)

    -- which is 4 or 5, or nothing: what was read has all its numbers, and each is in range
    pub refusal_first : step_refusal w h out_room ≡ list_refusal file (length lent) out_room
    refusal_first =
        let net = read_net file lent in
        let clear =
        none_clear (write_faults net w h false) (lit< tt, (lit< tt, (lit< tt, (lit< tt, tt))))
        (accepted_again file lent taken) in
        (λ t. first_fault (size_faults w h 1 ++ (sym clear.1.0 t, 2) ∷ (short, 5) ∷ (sym clear.1.1.1.0 t, 3)
        ∷ []))
        ∙ refusal_after

    -- and what is left is an accepted net
    pub accepted_after : (refined : List ℤ) → out_room ≡ length refined → list_refusal file (length lent) out_room ≡ 0 →
        AcceptedNet (over (refined_file file) refined) (refined_side w) (refined_side h)
    accepted_after refined e none =
        let net = read_net file lent in
        let t =
        refine_accepted net w h 1 (length refined) 0
        (ap (λ (n : ℕ). refine_refusal net w h 1 (too_short w h 1 n 0)) (sym e) ∙ refusal_after ∙ none) in
        subst (λ (l : List ℤ). AcceptedNet (over l refined) (refined_side w) (refined_side h)) refined_after_lem
        (left_accepted net w h 1 refined t)

-- ---- what is printed

-- where nothing is refused, refining the file's numbers is not
nothing_refused : (file : List ℕ) (net_room out_room : ℕ) → list_refusal file net_room out_room ≡ 0 →
    refine_refusal (file_numbers file) (file_width file) (file_height file) 1
    (too_short (file_width file) (file_height file) 1 out_room 0) ≡ 0
nothing_refused file net_room out_room none =
    let w = file_width file in
    let h = file_height file in
    let reading = read_faults file (short_for file net_room) in
    let later = size_faults w h 1 ++ net_faults (file_numbers file) w h (too_short w h 1 out_room 0) in
    let first = read_numbered file (short_for file net_room) in
    let all =
    none_clear (reading ++ later)
    (numbered_append reading later first (lit< tt, (lit< tt, (lit< tt, (lit< tt, (lit< tt, tt)))))) none in
    clear_none later (clear_parts reading later all).1

-- a line of what is left in the buffer is the refined net's
line_after : (net : List ℤ) (w h k : ℕ) (out : List ℤ) {scratch_length : ℕ} →
    Refinable net w h k (length out) scratch_length → (i j : ℕ) → i < side_after k w → j < side_after k h →
    vertex_line (over (refined_net net w h k) out) (side_after k w) (side_after k h) i j
    ≡ vertex_line (refined_net net w h k) (side_after k w) (side_after k h) i j
line_after net w h k out a i j u v =
    let place : OnGrid 1024 (side_after k w) (side_after k h) (1024 * i) (1024 * j) =
    (omega (arith, u), omega (arith, v)) in
    let point = point_of_refined net w h k out a (1024 * i) (1024 * j) place in
    let at = refined_coordinate_lem net w h k out a (1024 * i) (1024 * j) place in
    λ t. point_line i j
    ((at 0 (lit< tt) ∙ ap (λ (l : List ℤ). number l 0) point) t)
    ((at 1 (lit< tt) ∙ ap (λ (l : List ℤ). number l 1) point) t)
    ((at 2 (lit< tt) ∙ ap (λ (l : List ℤ). number l 2) point) t)

pub pieces_printed : PiecesPrinted
unfolding listing
pieces_printed file buffer long none =
    let w = file_width file in
    let h = file_height file in
    let t =
    subst (λ (n : ℕ). Refinable (file_numbers file) w h 1 n 0) (sym long)
    (refine_accepted (file_numbers file) w h 1 buffer_size 0 (nothing_refused file buffer_size buffer_size none)) in
    let left = over (refined_file file) buffer in
    let wide = refined_side w in
    let high = refined_side h in
    pieces_list left wide high
    ∙ ap (λ (l : List ℕ). head_line wide high ++ l)
    (runs_same high (λ j. runs wide (λ i. vertex_line left wide high i j))
    (λ j. runs wide (λ i. vertex_line (refined_file file) wide high i j)) (λ j v.
    runs_same wide (λ i. vertex_line left wide high i j) (λ i. vertex_line (refined_file file) wide high i j) (λ i u.
    line_after (file_numbers file) w h 1 buffer t i j u v)))
    ∙ when_accepted (list_refusal file buffer_size buffer_size) (listing (refined_file file) wide high)
    (refusal_line (list_refusal file buffer_size buffer_size)) none

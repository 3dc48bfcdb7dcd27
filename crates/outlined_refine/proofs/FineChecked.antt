-- The fine outline that an accepted call leaves is accepted by checking it at the refined size.
use mathlib.Core.Path.{◌≡◌, sym, ap, subst, ◌∙◌}
use mathlib.Core.Bool.{true, false, not, not-not}
use mathlib.Core.List.{List, [], ◌∷◌, ◌++◌}
use Prim.Native.Nat.{ℕ, ◌≤◌}
use native.Mathlib.Omega.{arith}
use lib.Dec.{lit<}
use lib.ListN.{length, take}
use lib.Seq.{take_all}
use borrow.Author.Tests.{le-ltb}
use Rattle.exact.specs.Filling.{over}
use Rattle.exact.proofs.FillingLaws.{length_over, take_over}
use Rattle.net.specs.Refusals.{bad_size}
use Rattle.net.proofs.Faults.{none_clear, clear_none, clear_parts, when_accepted}
use Rattle.net.proofs.Places.{good_size}
use Rattle.graphs.proofs.WalkLaws.{judged_yes}
use Rattle.outline.specs.Outline.{triangles}
use Rattle.outline.specs.Connected.{Connected, connected}
use Rattle.outline.specs.Refusals.{any_above_one, bad_byte, disconnected, check_faults, check_refusal}
use Rattle.outline.proofs.Connected.{connected_judged}
use Rattle.subdivision.specs.Refinement.{side_after}
use Rattle.refine.specs.Refusals.{too_deep}
use Rattle.refine.proofs.Depths.{good_depth}
use Rattle.steps.proofs.RefinedNets.{good_after}
use Rattle.fine_outline.specs.FineOutline.{fine_outline}
use Rattle.fine_outline.proofs.FineBytes.{fine_length_lem}
use Rattle.fine_outline.proofs.FineConnected.{fine_connected}
use Rattle.fine_outline.proofs.FineFronts.{fine_bytes_lem, front_connected}
use Rattle.outlined_refine.specs.Refusals.{late_faults}
use Rattle.outlined_refine.specs.Answers.{faults_of, outlined_refusal_of}
use Rattle.outlined_refine.specs.Promises.{FineChecked}
use Rattle.outlined_refine.proofs.CallLaws.{searchable_by}

-- no byte above 1 of an outline is none above 1 of a slice whose front it is
bytes_over : (outline rest : List ℕ) (w h : ℕ) → length outline ≡ triangles w h → bad_byte outline w h ≡ false →
    bad_byte (over outline rest) w h ≡ false
unfolding bad_byte
bytes_over outline rest w h e bytes =
    let n = triangles w h in
    let front : take n (over outline rest) ≡ take n outline =
    ap (λ (m : ℕ). take m (over outline rest)) (sym e) ∙ take_over outline rest
    ∙ sym (take_all n outline (omega (arith, e))) in
    ap any_above_one front ∙ bytes

-- what checking looks at, of the slice whose front is the fine outline
module _ (outline fine : List ℕ) (w h k : ℕ) where
  abbrev W : ℕ
  W = side_after k w

  abbrev H : ℕ
  H = side_after k h

  abbrev after : List ℕ
  after = over (fine_outline outline w h k) fine

  checked : bad_size w h ≡ false → too_deep w h k ≡ false → triangles w h ≤ length outline → bad_byte outline w h ≡ false →
      connected outline w h ≡ true → triangles W H ≤ length fine → (room : ℕ) → triangles W H ≤ room →
      check_refusal after W H room ≡ 0
  checked e₁ e₄ long e₁₃ c lent room r =
      let s = good_size w h e₁ in
      let size = fine_length_lem outline w h k in
      let whole : length after ≡ length fine =
      length_over (fine_outline outline w h k) fine (omega (arith, size, lent)) in
      let one = good_after (good_depth w h k e₁ e₄) in
      let two = le-ltb (length after) (triangles W H) (omega (arith, whole, lent)) in
      let thirteen = bytes_over (fine_outline outline w h k) fine W H size
      (fine_bytes_lem outline w h k s.wide s.high e₁₃ long) in
      let five = le-ltb room (triangles W H) r in
      let walks : Connected after W H =
      (front_connected outline fine w h k).1
      (fine_connected outline w h k s.wide s.high ((connected_judged outline w h).told c)) in
      let fourteen = ap not (judged_yes (connected_judged after W H) walks) in
      clear_none (check_faults after W H room ++ (disconnected after W H, 14) ∷ [])
      (one, (two, (thirteen, (five, (fourteen, tt)))))

pub fine_checked : FineChecked
fine_checked net w h k outline out scratch fine search e room r =
    let before = faults_of net w h k outline out scratch fine search in
    let refusal = outlined_refusal_of net w h k outline out scratch fine search in
    let clear = clear_parts before (late_faults net w h outline)
    (none_clear (before ++ late_faults net w h outline)
    (lit< tt, (lit< tt, (lit< tt, (lit< tt, (lit< tt, (lit< tt, (lit< tt, tt))))))) e) in
    let s = searchable_by net w h k outline (length out) (length scratch) (length fine) (length search)
    (clear_none before clear.0) in
    let joined : connected outline w h ≡ true = sym (not-not (connected outline w h)) ∙ ap not clear.1.0 in
    subst (λ (l : List ℕ). check_refusal l (side_after k w) (side_after k h) room ≡ 0)
    (when_accepted refusal (over (fine_outline outline w h k) fine) fine e)
    (checked outline fine w h k s.size s.deep s.bytes s.good joined s.fine room r)

-- With all triangles present the rows of the outline do not refuse, and the others are those of plain refining.
use mathlib.Core.Path.{◌≡◌, sym, ap, ◌∙◌}
use mathlib.Core.Bool.{Bool, false, cond, ◌||◌, or-false}
use mathlib.Core.List.{List}
use Prim.Native.Nat.{ℕ, ◌≤◌}
use lib.Dec.{ltb}
use lib.IntN.{ℤ}
use lib.ListN.{length}
use borrow.Author.Tests.{le-ltb}
use Rattle.net.specs.Refusals.{bad_size, short_net, net_beyond, answer_by, output_after}
use Rattle.net.proofs.Faults.{or_no}
use Rattle.net.proofs.Beyond.{cond_else}
use Rattle.net.proofs.Places.{good_size}
use Rattle.outline.specs.Outline.{triangles}
use Rattle.outline.specs.Refusals.{short_search}
use Rattle.outline.specs.Promises.{Full}
use Rattle.outline.proofs.FullOutlines.{full_two, full_bytes, full_not_disconnected}
use Rattle.subdivision.specs.Refinement.{side_after}
use Rattle.steps.specs.RefinedNet.{refined_net}
use Rattle.refine.specs.Refusals.{too_deep, too_short}
use Rattle.refine.specs.Answers.{refusal_of}
use Rattle.outlined_refine.specs.Answers.{short_of, outlined_refusal_of}
use Rattle.outlined_refine.specs.Promises.{FullOutlineRefining}

-- with room for the fine outline and the search, 5 is that of plain refining
pub plain_short : (w h k : ℕ) (out scratch : List ℤ) (fine search : List ℕ) →
    triangles (side_after k w) (side_after k h) ≤ length fine → triangles w h ≤ length search →
    short_of w h k out scratch fine search ≡ too_short w h k (length out) (length scratch)
plain_short w h k out scratch fine search a b =
    let plain = too_short w h k (length out) (length scratch) in
    let short_fine = ltb (length fine) (triangles (side_after k w) (side_after k h)) in
    let lent : (short_fine || short_search w h (length search)) ≡ false =
    sym (or_no short_fine (short_search w h (length search)) (le-ltb _ _ a) (sym (le-ltb _ _ b))) in
    ap (λ (t : Bool). plain || t) lent ∙ or-false plain

module _ (net : List ℤ) (w h k : ℕ) (outline : List ℕ) (out scratch : List ℤ) (fine search : List ℕ) where
  full_refusal : Full outline w h → triangles (side_after k w) (side_after k h) ≤ length fine →
      triangles w h ≤ length search →
      outlined_refusal_of net w h k outline out scratch fine search ≡ refusal_of net w h k out scratch
  full_refusal full a b =
      cond_else (bad_size w h) 1 (λ e₁. ap (cond (too_deep w h k) 4)
      (let s = good_size w h e₁ in
      λ t.
      cond (full_two outline w h full (short_net net w h) t) 2
      (cond (full_bytes outline w h full t) 13
      (cond (plain_short w h k out scratch fine search a b t) 5
      (cond (full_not_disconnected outline w h full s.wide s.high t) 14 (cond (net_beyond net w h) 3 0))))))

pub full_refining : FullOutlineRefining
full_refining net w h k outline out scratch fine search full a b =
    let same = full_refusal net w h k outline out scratch fine search full a b in
    (same, ap answer_by same, ap (λ (r : ℕ). output_after r (refined_net net w h k) out) same)

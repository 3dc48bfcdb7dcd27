-- Numbers beyond 9wh and bytes past the last triangle do not matter: refusals and what is written are those of the net
-- cut after its 9wh numbers and of the outline cut after its last triangle.
use mathlib.Core.Path.{◌≡◌, sym, ap, ◌∙◌}
use mathlib.Core.Bool.{false, ◌||◌}
use mathlib.Core.List.{List, [], ◌∷◌, ◌++◌}
use Prim.Native.Nat.{ℕ}
use lib.Dec.{lit<}
use lib.IntN.{ℤ}
use borrow.Author.Tests.{eqb-true}
use Rattle.exact.specs.Filling.{over}
use Rattle.net.specs.Refusals.{first_fault, accepted, bad_size, output_after}
use Rattle.net.proofs.Faults.{fault_none}
use Rattle.net.proofs.Beyond.{cut, cond_where, cut_short, cut_beyond}
use Rattle.net.proofs.Places.{good_size}
use Rattle.outline.specs.Refusals.{outlined_faults}
use Rattle.outline.proofs.CutOutlines.{cut_outline, cut_short_outline, cut_bad_byte, cut_disconnected}
use Rattle.refine.specs.Refusals.{size_faults}
use Rattle.fine_outline.specs.FineOutline.{fine_outline}
use Rattle.fine_outline.proofs.FineFronts.{cut_fine}
use Rattle.outlined_refine.specs.Refusals.{late_faults, outlined_refusal}
use Rattle.outlined_refine.specs.Promises.{CutOutlinedRefusal, CutFaultsBefore, CutFineOutput}

module _ (net : List ℤ) (w h : ℕ) (outline : List ℕ) where
  abbrev net' : List ℤ
  net' = cut net w h

  abbrev outline' : List ℕ
  outline' = cut_outline outline w h

  pub cut_outlined_faults : outlined_faults net w h outline ≡ outlined_faults net' w h outline'
  cut_outlined_faults =
      λ t. (cut_short net w h t || sym (cut_short_outline outline w h) t, 2)
      ∷ (sym (cut_bad_byte outline w h) t, 13) ∷ []

  pub cut_late_faults : late_faults net w h outline ≡ late_faults net' w h outline'
  cut_late_faults = λ t. (sym (cut_disconnected outline w h) t, 14) ∷ (cut_beyond net w h t, 3) ∷ []

pub cut_faults_before : CutFaultsBefore
cut_faults_before net w h k outline short =
    λ t. size_faults w h k ++ (cut_outlined_faults net w h outline t ++ (short, 5) ∷ [])

pub cut_outlined_refusal : CutOutlinedRefusal
cut_outlined_refusal net w h k outline short =
    λ t. first_fault (cut_faults_before net w h k outline short t ++ cut_late_faults net w h outline t)

-- the fine outline by a refusal that is 0 only where the sides are not refused
pub cut_fine_after : (outline : List ℕ) (w h k : ℕ) (fine : List ℕ) (r : ℕ) {r' : ℕ} → r ≡ r' →
    (r ≡ 0 → bad_size w h ≡ false) →
    output_after r (fine_outline outline w h k) fine ≡ output_after r' (fine_outline (cut_outline outline w h) w h k) fine
cut_fine_after outline w h k fine r same size =
    cond_where (accepted r) fine
    (λ e.
    let s = good_size w h (size (eqb-true r 0 e)) in
    ap (λ (l : List ℕ). over l fine) (sym (cut_fine outline w h k s.wide s.high)))
    ∙ ap (λ (n : ℕ). output_after n (fine_outline (cut_outline outline w h) w h k) fine) same

pub cut_fine_output : CutFineOutput
cut_fine_output net w h k outline short fine =
    cut_fine_after outline w h k fine (outlined_refusal net w h k outline short)
    (cut_outlined_refusal net w h k outline short) (λ e. (fault_none (bad_size w h) 1 _ (lit< tt) e).0)

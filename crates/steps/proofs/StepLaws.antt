-- What the steps leave in the output and in the scratch, and their preconditions.
use mathlib.Core.Path.{◌≡◌, refl, sym, ap, subst, ◌∙◌}
use mathlib.Core.Bool.{Bool, true, false, cond}
use mathlib.Core.List.{List, ◌++◌}
use Prim.Native.Nat.{ℕ, suc, ◌+◌, ◌-◌, ◌≤◌}
use native.Mathlib.Nat.{le_trans, mul-le-mul}
use native.Mathlib.Omega.{arith}
use lib.Dec.{ltb, lit≤}
use lib.IntN.{ℤ}
use lib.ListN.{length, take, drop}
use lib.Seq.{drop-drop}
use borrow.Author.Tests.{le-ltb}
use Rattle.exact.specs.Filling.{over, UnchangedFrom}
use Rattle.exact.proofs.FillingLaws.{length_over, drop_over}
use Rattle.net.specs.Net.{numbers}
use Rattle.net.specs.Refusals.{AcceptedNet}
use Rattle.net.proofs.Faults.{cond_false}
use Rattle.subdivision.specs.Refinement.{side_after}
use Rattle.subdivision.proofs.SameSpline.{side_at_least}
use Rattle.steps.specs.RefinedNet.{refined_net, numbers_after, scratch_need}
use Rattle.steps.specs.Steps.{Depth, StepReady}
use Rattle.steps.proofs.Sides.{side_before, side_last, wide_ready, high_ready, shallower}
use Rattle.steps.proofs.StoredNets.{refined_length_lem, no_step, step_more}

-- ---- sizes

pub numbers_grow : {w h k : ℕ} → Depth w h k → numbers_after (k - 1) w h ≤ numbers_after k w h
numbers_grow {w} {h} {k} d =
    omega (arith, mul-le-mul (side_before k w (wide_ready d).0) (side_before k h (high_ready d).0))

-- the scratch of k steps, where k is 2 or more, and below
pub scratch_needed : (k w h : ℕ) → 2 ≤ k → numbers_after (k - 1) w h ≡ scratch_need k w h
scratch_needed k w h a = cond_false (ltb k 2) 0 (numbers_after (k - 1) w h) (le-ltb k 2 a) refl

scratch_fits : {w h k : ℕ} → Depth w h k → scratch_need k w h ≤ numbers_after k w h
scratch_fits {w} {h} {k} d = at (ltb k 2)
  where
    at : (b : Bool) → cond b 0 (numbers_after (k - 1) w h) ≤ numbers_after k w h
    at true = omega arith
    at false = numbers_grow d

-- the output of k steps serves as the scratch of one step less
pub scratch_before : {w h k : ℕ} → Depth w h k → scratch_need (k - 1) w h ≤ numbers_after k w h
scratch_before d = le_trans (scratch_fits (shallower d)) (numbers_grow d)

-- ---- no step, one step, and the last of k

pub copied : (net : List ℤ) (w h k : ℕ) → k ≡ 0 → numbers w h ≤ length net →
    take (numbers w h) net ≡ refined_net net w h k
copied net w h k e l = sym (no_step net w h l) ∙ ap (refined_net net w h) (sym e)

pub last_ready : (net out : List ℤ) {w h k : ℕ} → Depth w h k → 1 ≤ k →
    AcceptedNet net (side_after (k - 1) w) (side_after (k - 1) h) → numbers_after k w h ≤ length out →
    StepReady net (side_after (k - 1) w) (side_after (k - 1) h) out
last_ready net out {w} {h} {k} d a l r = (
  record {
    few = lit≤ tt;
    wide = side_at_least (k - 1) w d.wide;
    narrow = subst (λ (n : ℕ). n ≤ 1025) (sym (side_last k w a)) d.narrow;
    high = side_at_least (k - 1) h d.high;
    low = subst (λ (n : ℕ). n ≤ 1025) (sym (side_last k h a)) d.low;
  },
  l,
  subst (λ (n : ℕ). n ≤ length out) (λ t. numbers (sym (side_last k w a) t) (sym (side_last k h a) t)) r,
)

-- ---- what stands in the two slices after k steps, where k is 2 or more

-- a result over two lists that differ only in front of its end
over_kept : (result l m : List ℤ) (n : ℕ) → n ≤ length result → drop n l ≡ drop n m → over result l ≡ over result m
unfolding over
over_kept result l m n a e =
    let r = length result - n in
    let all : n + r ≡ length result = omega arith in
    let cut : (x : List ℤ) →
    drop (length result) x ≡ drop r (drop n x) = λ x. sym (drop-drop r n x ∙ ap (λ (i : ℕ). drop i x) all) in
    ap (λ (x : List ℤ). result ++ x) (cut l ∙ ap (drop r) e ∙ sym (cut m))

pub output_after_lem : (net out scratch mid : List ℤ) {w h k : ℕ} → Depth w h k → 1 ≤ k →
    UnchangedFrom (scratch_need (k - 1) w h) out mid →
    over (refined_net (over (refined_net net w h (k - 1)) scratch) (side_after (k - 1) w) (side_after (k - 1) h) 1) mid
    ≡ over (refined_net net w h k) out
output_after_lem net out scratch mid {w} {h} {k} d a kept =
    let last : suc (k - 1) ≡ k = omega arith in
    ap (λ (l : List ℤ). over l mid) (step_more net w h (k - 1) scratch ∙ ap (refined_net net w h) last)
    ∙ over_kept (refined_net net w h k) mid out (scratch_need (k - 1) w h)
    (omega (arith, scratch_before d, refined_length_lem net w h k)) kept.1

pub scratch_after_lem : (net scratch : List ℤ) (w h k : ℕ) {mid : List ℤ} → 2 ≤ k → scratch_need k w h ≤ length scratch →
    mid ≡ over (refined_net net w h (k - 1)) scratch → UnchangedFrom (scratch_need k w h) scratch mid
scratch_after_lem net scratch w h k a l e =
    let result = refined_net net w h (k - 1) in
    let size : length result ≡ scratch_need k w h = refined_length_lem net w h (k - 1) ∙ scratch_needed k w h a in (
      ap length e ∙ length_over result scratch (omega (arith, size, l)),
      ap (drop (scratch_need k w h)) e
          ∙ subst (λ (n : ℕ). drop n (over result scratch) ≡ drop n scratch) size (drop_over result scratch),
    )

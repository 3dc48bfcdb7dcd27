-- Ranges: the code's two comparisons are the definition's one of the size, and what a list in range gives.
use mathlib.Core.Path.{◌≡◌, refl, sym, ap, ◌∙◌}
use mathlib.Core.Bool.{Bool, true, false, ◌||◌, or-false}
use mathlib.Core.List.{List, [], ◌∷◌, ◌++◌, append_assoc}
use Prim.Native.Nat.{ℕ, zero, suc, ◌+◌, ◌-◌, ◌≤◌, ◌<◌, suc-le-suc}
use native.Mathlib.Nat.{le_of_suc-le-suc, not-suc-le-zero}
use native.Mathlib.Numerals.{unary_clauses}
use native.Mathlib.Decide.{dec_lt}
use native.Mathlib.Omega.{arith}
use lib.Dec.{ltb→lt, leb→le}
use lib.IntN.{ℤ, pos, negsuc, nat_abs}
use lib.ListN.{length, get_or, take, drop}
use lib.Seq.{take-suc, take-add}
use lib.Signed.{◌≤ℤ◌, ◌<ℤ◌, lt_z}
use borrow.Author.Tests.{lt-ltb, le-ltb, ltb-false}
use Rattle.exact.specs.Filling.{runs}
use Rattle.exact.proofs.FillingLaws.{runs_suc}
use Rattle.net.specs.Net.{numbers}
use Rattle.net.specs.Refusals.{outside, any_outside, net_limit, any_beyond, net_beyond}
use Rattle.net.proofs.Faults.{or_none, or_no, or_yes, or_second}

pub outside_below : (n : ℕ) (z : ℤ) → z <ℤ negsuc n → true ≡ outside (suc n) z
outside_below n (pos a) h = absurd h.lt
outside_below n (negsuc a) h = sym (lt-ltb _ _ (suc-le-suc (ltb→lt n a h.lt)))

pub outside_above : (n : ℕ) (z : ℤ) → negsuc n ≤ℤ z → lt_z (pos (suc n)) z ≡ outside (suc n) z
outside_above n (pos a) h = refl
outside_above n (negsuc a) h = sym (le-ltb _ _ (suc-le-suc (leb→le a n h.le)))

-- ---- lists, for any range

module _ (limit : ℕ) where
  -- in a list in range, each number is
  pub in_range_lem : (l : List ℤ) → any_outside limit l ≡ false → (i : ℕ) → i < length l → nat_abs (get_or l i (pos 0)) ≤ limit
  in_range_lem [] e i h = absurd (not-suc-le-zero h)
  in_range_lem (z ∷ zs) e zero h = ltb-false _ _ (or_none (outside limit z) (any_outside limit zs) e).0
  in_range_lem (z ∷ zs) e (suc i) h =
      in_range_lem zs (or_none (outside limit z) (any_outside limit zs) e).1 i (le_of_suc-le-suc h)

  -- lists that follow one another
  pub any_append : (l m : List ℤ) → any_outside limit (l ++ m) ≡ (any_outside limit l || any_outside limit m)
  any_append [] m = refl
  any_append (z ∷ zs) m = ap (λ (t : Bool). outside limit z || t) (any_append zs m) ∙ sym (joined (outside limit z))
    where
      joined : (t : Bool) →
          ((t || any_outside limit zs) || any_outside limit m) ≡ (t || (any_outside limit zs || any_outside limit m))
      joined true = refl
      joined false = refl

  pub any_three : (k l m : List ℤ) →
      any_outside limit (k ++ l ++ m) ≡ (any_outside limit k || (any_outside limit l || any_outside limit m))
  any_three k l m =
      ap (any_outside limit) (append_assoc k l m) ∙ any_append k (l ++ m)
      ∙ ap (λ (t : Bool). any_outside limit k || t) (any_append l m)

  pub any_runs : (n : ℕ) (f : ℕ → List ℤ) → ((i : ℕ) → i < n → any_outside limit (f i) ≡ false) →
      any_outside limit (runs n f) ≡ false
  unfolding runs
  any_runs zero f h = refl
  any_runs (suc n) f h =
      any_append (runs n f) (f n)
      ∙ sym (or_no (any_outside limit (runs n f)) (any_outside limit (f n)) (any_runs n f (λ i k. h i (omega arith)))
      (sym (h n (omega arith))))

  pub any_more : (n : ℕ) (f : ℕ → List ℤ) → any_outside limit (runs n f) ≡ false → any_outside limit (f n) ≡ false →
      any_outside limit (runs (n + 1) f) ≡ false
  any_more n f e g =
      ap (any_outside limit) (runs_suc n f) ∙ any_append (runs n f) (f n)
      ∙ sym (or_no (any_outside limit (runs n f)) (any_outside limit (f n)) e (sym g))

  -- collected without an early return
  pub any_collected : (n : ℕ) (f : ℕ → List ℤ) →
      any_outside limit (runs (n + 1) f) ≡ (any_outside limit (runs n f) || any_outside limit (f n))
  any_collected n f = ap (any_outside limit) (runs_suc n f) ∙ any_append (runs n f) (f n)

  pub any_in_runs : (n : ℕ) (f : ℕ → List ℤ) (i : ℕ) → i < n → any_outside limit (f i) ≡ true →
      true ≡ any_outside limit (runs n f)
  unfolding runs
  any_in_runs zero f i h e = absurd (omega (arith, h))
  any_in_runs (suc n) f i h e = go (any_in_runs n f i) (dec_lt i n) ∙ sym (any_append (runs n f) (f n))
    where
      go : (i < n → any_outside limit (f i) ≡ true → true ≡ any_outside limit (runs n f)) → Dec (i < n) →
          true ≡ (any_outside limit (runs n f) || any_outside limit (f n))
      go before (yes k) = or_yes (any_outside limit (runs n f)) (any_outside limit (f n)) (sym (before k e))
      go before (no k) =
          let last : n ≡ i = omega (arith, h) in
          sym (or_second (any_outside limit (runs n f)) (any_outside limit (f n))
          (ap (λ (m : ℕ). any_outside limit (f m)) last ∙ e))

  -- the first numbers of a list: those of a shorter front, and those after it
  pub any_front : (l : List ℤ) (a b : ℕ) →
      any_outside limit (take (a + b) l) ≡ (any_outside limit (take a l) || any_outside limit (take b (drop a l)))
  any_front l a b = ap (any_outside limit) (take-add a b l) ∙ any_append (take a l) (take b (drop a l))

  -- and one number more
  pub any_next : (l : List ℤ) (i : ℕ) → i < length l →
      any_outside limit (take (i + 1) l) ≡ (any_outside limit (take i l) || outside limit (get_or l i (pos 0)))
  any_next l i h =
      let z = get_or l i (pos 0) in
      simp unary_clauses (ap (any_outside limit) (take-suc l i (pos 0) h)) ∙ any_append (take i l) (z ∷ [])
      ∙ ap (λ (t : Bool). any_outside limit (take i l) || t) (or-false (outside limit z))

-- ---- a whole net: any part of the numbers of a net in range is, and a net is in range where its first numbers are

pub part_in_range : (net : List ℤ) (w h at m : ℕ) → net_beyond net w h ≡ false → at + m ≤ numbers w h →
    any_beyond (take m (drop at net)) ≡ false
unfolding net_beyond
part_in_range net w h at m e a =
    let n = numbers w h in
    let all : at + m + (n - (at + m)) ≡ n = omega arith in
    let whole = ap (λ (k : ℕ). any_beyond (take k net)) all ∙ e in
    let front = (or_none (any_beyond (take (at + m) net)) _ (sym (any_front net_limit net (at + m) (n - (at + m))) ∙ whole)).0 in
    (or_none (any_beyond (take at net)) _ (sym (any_front net_limit net at m) ∙ front)).1

pub front_in_range : (net : List ℤ) (w h : ℕ) {l : List ℤ} → take (numbers w h) net ≡ l → any_beyond l ≡ false →
    net_beyond net w h ≡ false
unfolding net_beyond
front_in_range net w h e f = ap any_beyond e ∙ f

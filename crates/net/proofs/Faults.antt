-- A test's value and the first fault, from what a branch of the code has shown, and back.
use mathlib.Core.Path.{◌≡◌, refl, sym, ap, subst, ◌∙◌}
use mathlib.Core.Bool.{Bool, true, false, ◌||◌, cond}
use mathlib.Core.List.{List, [], ◌∷◌, ◌++◌}
use Prim.Native.Nat.{ℕ, zero, suc, ◌+◌, ◌≤◌, ◌<◌}
use native.Mathlib.Omega.{arith}
use native.Mathlib.Decide.{dec_lt}
use lib.Dec.{T}
use lib.ListN.{length}
use borrow.Author.Tests.{eq-eqb, ne_eqb}
use Rattle.exact.specs.Filling.{runs}
use Rattle.exact.proofs.FillingLaws.{runs_suc}
use Rattle.net.specs.Refusals.{Fault, first_fault, accepted, answer_by}

-- `a || b` from a alone, and from b where a fails
pub or_yes : (a b : Bool) → a ≡ true → true ≡ (a || b)
or_yes a b e = ap (λ (t : Bool). t || b) (sym e)

pub or_no : (a b : Bool) {r : Bool} → a ≡ false → r ≡ b → r ≡ (a || b)
or_no a b e q = q ∙ ap (λ (t : Bool). t || b) (sym e)

pub or_second : (a b : Bool) → b ≡ true → (a || b) ≡ true
or_second true b e = refl
or_second false b e = e

-- neither is, where `a || b` is not
pub or_none : (a b : Bool) → (a || b) ≡ false → (a ≡ false) × (b ≡ false)
or_none true b e = (e, absurd (true_false e))
  where
    true_false : true ≡ false → ⊥
    true_false e = subst (λ (t : Bool). T t) e tt
or_none false b e = (refl, e)

-- a choice whose test holds, and one whose test fails: the first fault of a list that is there, or one after it
module _ {ℓ} {A : Type ℓ} where
  pub cond_first : (t : Bool) (x y : A) {z : A} → t ≡ true → z ≡ x → z ≡ cond t x y
  cond_first t x y e q = q ∙ ap (λ (b : Bool). cond b x y) (sym e)

  pub cond_true : (t : Bool) (x y : A) → t ≡ true → x ≡ cond t x y
  cond_true t x y e = cond_first t x y e refl

  pub cond_false : (t : Bool) (x y : A) {z : A} → t ≡ false → z ≡ y → z ≡ cond t x y
  cond_false t x y e q = q ∙ ap (λ (b : Bool). cond b x y) (sym e)

  -- what stands where nothing is refused, and where something is
  pub when_accepted : (r : ℕ) (x y : A) → r ≡ 0 → x ≡ cond (accepted r) x y
  when_accepted r x y e = cond_true (accepted r) x y (eq-eqb r 0 e)

  pub when_refused : (r : ℕ) (x y : A) → (r ≡ 0 → ⊥) → y ≡ cond (accepted r) x y
  when_refused r x y e = cond_false (accepted r) x y (ne_eqb r 0 e) refl

-- where nothing is refused, the first fault is not there, nor is any after it
pub fault_none : (t : Bool) (n r : ℕ) → 0 < n → cond t n r ≡ 0 → (t ≡ false) × (r ≡ 0)
fault_none true n r h e = absurd (omega (arith, e, h))
fault_none false n r h e = (refl, e)

-- where one of the first faults is there, those after them do not matter
pub fault_before : (fs gs : List Fault) → (first_fault fs ≡ 0 → ⊥) → first_fault fs ≡ first_fault (fs ++ gs)
fault_before [] gs h = absurd (h refl)
fault_before ((true, n) ∷ fs) gs h = refl
fault_before ((false, n) ∷ fs) gs h = fault_before fs gs h

-- ---- lists of faults that follow one another

-- no fault of the list is there
abbrev pub Clear : List Fault → Type 0
Clear [] = Unit {0}
Clear ((there, n) ∷ faults) = (there ≡ false) × Clear faults

-- each fault has a number above 0, as document 01's have
abbrev pub Numbered : List Fault → Type 0
Numbered [] = Unit {0}
Numbered ((there, n) ∷ faults) = (0 < n) × Numbered faults

pub clear_none : (fs : List Fault) → Clear fs → first_fault fs ≡ 0
clear_none [] k = refl
clear_none ((there, n) ∷ fs) k = sym (cond_false there n (first_fault fs) k.0 (sym (clear_none fs k.1)))

pub none_clear : (fs : List Fault) → Numbered fs → first_fault fs ≡ 0 → Clear fs
none_clear [] k e = tt
none_clear ((there, n) ∷ fs) k e =
    let q = fault_none there n (first_fault fs) k.0 e in
    (q.0, none_clear fs k.1 q.1)

-- past a list without a fault the next one counts
pub fault_after : (fs gs : List Fault) → Clear fs → first_fault gs ≡ first_fault (fs ++ gs)
fault_after [] gs k = refl
fault_after ((there, n) ∷ fs) gs k = cond_false there n (first_fault (fs ++ gs)) k.0 (fault_after fs gs k.1)

pub clear_append : (fs gs : List Fault) → Clear fs → Clear gs → Clear (fs ++ gs)
clear_append [] gs k l = l
clear_append ((there, n) ∷ fs) gs k l = (k.0, clear_append fs gs k.1 l)

pub clear_parts : (fs gs : List Fault) → Clear (fs ++ gs) → Clear fs × Clear gs
clear_parts [] gs k = (tt, k)
clear_parts ((there, n) ∷ fs) gs k =
    let q = clear_parts fs gs k.1 in
    ((k.0, q.0), q.1)

pub numbered_append : (fs gs : List Fault) → Numbered fs → Numbered gs → Numbered (fs ++ gs)
numbered_append [] gs k l = l
numbered_append ((there, n) ∷ fs) gs k l = (k.0, numbered_append fs gs k.1 l)

-- runs of faults
pub clear_runs : (n : ℕ) (f : ℕ → List Fault) → ((i : ℕ) → i < n → Clear (f i)) → Clear (runs n f)
unfolding runs
clear_runs zero f k = tt
clear_runs (suc n) f k = clear_append (runs n f) (f n) (clear_runs n f (λ i h. k i (omega arith))) (k n (omega arith))

pub clear_run : (n : ℕ) (f : ℕ → List Fault) → Clear (runs n f) → (i : ℕ) → i < n → Clear (f i)
unfolding runs
clear_run zero f k i h = absurd (omega arith)
clear_run (suc n) f k i h =
    let q = clear_parts (runs n f) (f n) k in
    go (clear_run n f q.0 i) q.1 (dec_lt i n)
  where
    go : (i < n → Clear (f i)) → Clear (f n) → Dec (i < n) → Clear (f i)
    go before last (yes l) = before l
    go before last (no l) = subst (λ (j : ℕ). Clear (f j)) (omega arith) last

-- a fault of the first runs counts, and so the first run with a fault
pub fault_in_front : (m n : ℕ) (f : ℕ → List Fault) {r : ℕ} → m ≤ n → r ≡ first_fault (runs m f) → (r ≡ 0 → ⊥) →
    r ≡ first_fault (runs n f)
unfolding runs
fault_in_front m zero f h e there =
    let none : m ≡ 0 = omega arith in
    e ∙ ap (λ (k : ℕ). first_fault (runs k f)) none
fault_in_front m (suc n) f {r} h e there = go (λ l. fault_in_front m n f l e there) (dec_lt n m)
  where
    go : (m ≤ n → r ≡ first_fault (runs n f)) → Dec (n < m) → r ≡ first_fault (runs (suc n) f)
    go before (yes l) =
        let all : m ≡ suc n = omega arith in
        e ∙ ap (λ (k : ℕ). first_fault (runs k f)) all
    go before (no l) =
        let b = before (omega arith) in
        b ∙ fault_before (runs n f) (f n) (λ z. there (b ∙ z))

pub fault_in_runs : (n : ℕ) (f : ℕ → List Fault) (i : ℕ) {r : ℕ} → i < n → Clear (runs i f) → r ≡ first_fault (f i) →
    (r ≡ 0 → ⊥) → r ≡ first_fault (runs n f)
fault_in_runs n f i h k e there =
    fault_in_front (i + 1) n f (omega arith)
    (e ∙ fault_after (runs i f) (f i) k ∙ ap first_fault (sym (runs_suc i f))) there

pub numbered_runs : (n : ℕ) (f : ℕ → List Fault) → ((i : ℕ) → Numbered (f i)) → Numbered (runs n f)
unfolding runs
numbered_runs zero f k = tt
numbered_runs (suc n) f k = numbered_append (runs n f) (f n) (numbered_runs n f k) (k n)

-- ---- an answer is a refusal's number and whether the call was carried out

pub carried_out : (refusal : ℕ) → refusal ≡ 0 → ◌≡◌ {A = ℕ × Bool} (0, true) (answer_by refusal)
carried_out refusal e = λ t. (sym e t, accepted (sym e t))

pub not_carried_out : (refusal : ℕ) {n : ℕ} → n ≡ refusal → (n ≡ 0 → ⊥) →
    ◌≡◌ {A = ℕ × Bool} (n, false) (answer_by refusal)
not_carried_out refusal e there = λ t. (e t, sym (ne_eqb refusal 0 (λ z. there (e ∙ z))) t)

-- ---- or the number and values, none where it is refused

module _ {ℓ} {A : Type ℓ} (r : ℕ) (values : List A) where
  -- the outcome of an accepted answer, and of a refused one
  pub answered : {l : List A} → ◌≡◌ {A = ℕ × List A} (0, l) (r, cond (accepted r) values []) → (r ≡ 0) × (l ≡ values)
  answered {l} e =
      let z : r ≡ 0 = λ t. (sym e t).0 in
      (z, (λ t. (e t).1) ∙ ap (λ (n : ℕ). cond (accepted n) values []) z)

  pub not_accepted : {n : ℕ} → 0 < length values → ◌≡◌ {A = ℕ × List A} (n, []) (r, cond (accepted r) values []) →
      r ≡ 0 → ⊥
  not_accepted k e z =
      let none : [] ≡ values = (λ t. (e t).1) ∙ ap (λ (n : ℕ). cond (accepted n) values []) z in
      omega (arith, ap length none, k)

  -- and the way back
  pub accepted_answer : {l : List A} → r ≡ 0 → l ≡ values → ◌≡◌ {A = ℕ × List A} (0, l) (r, cond (accepted r) values [])
  accepted_answer {l} z e = λ t. (sym z t, (e ∙ when_accepted r values [] z) t)

  pub refused_answer : {n : ℕ} → n ≡ r → (n ≡ 0 → ⊥) → ◌≡◌ {A = ℕ × List A} (n, []) (r, cond (accepted r) values [])
  refused_answer {n} e k = λ t. (e t, when_refused r values [] (λ z. k (e ∙ z)) t)

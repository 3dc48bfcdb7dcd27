-- Laws of lists that are filled front to back, run by run. `sets l at vs` (the kit's, `lib.Seq`) is l with vs stored
-- from `at` on. A loop over the whole of a lent output keeps `out ≡ over (runs n f) old`: `over_none` opens it and
-- `over_more` closes an iteration. An inner loop, which begins at a place, keeps `out ≡ sets old at (runs n f)`:
-- `runs_none` and `runs_more`. A row of runs is one run of the outer loop.
use mathlib.Core.Path.{◌≡◌, refl, sym, ◌∙◌, ap}
use mathlib.Core.List.{List, [], ◌∷◌, ◌++◌, append_assoc, append-nil}
use Prim.Native.Nat.{ℕ, zero, suc, ◌+◌, ◌*◌, ◌<◌, ◌≤◌}
use native.Mathlib.Nat.{add-zero, zero-add, add-suc, suc-add, suc-mul, zero-mul}
use native.Mathlib.Numerals.{add-one}
use native.Mathlib.Omega.{arith}
use native.Mathlib.Decide.{dec_lt}
use lib.ListN.{length, take, drop, get_or, set, length-append, length-drop, get_or-append}
use lib.Seq.{take-add, take-suc, take_all, sets, sets-eq, take_at, drop_at, get_or-append-add}
use lib.Arith.{digits_lt}
use Rattle.exact.specs.Filling.{over, runs}

module _ {ℓ} {A : Type ℓ} where
  -- ---- runs of one length

  pub runs_suc : (n : ℕ) (f : ℕ → List A) → runs (n + 1) f ≡ runs n f ++ f n
  unfolding runs
  runs_suc n f = ap (λ (k : ℕ). runs k f) (add-one n)

  pub length_runs : (n s : ℕ) (f : ℕ → List A) → ((i : ℕ) → i < n → length (f i) ≡ s) → length (runs n f) ≡ n * s
  unfolding runs
  length_runs zero s f h = sym (zero-mul s)
  length_runs (suc n) s f h =
      length-append (runs n f) (f n)
      ∙ omega (arith, length_runs n s f (λ i k. h i (omega arith)), h n (omega arith), suc-mul n s)

  -- the number at place r of run i
  pub get_or_runs : (n s : ℕ) (f : ℕ → List A) (d : A) → ((i : ℕ) → i < n → length (f i) ≡ s) →
      (i r : ℕ) → i < n → r < s → get_or (runs n f) (i * s + r) d ≡ get_or (f i) r d
  unfolding runs
  get_or_runs zero s f d h i r p q = absurd (omega arith)
  get_or_runs (suc n) s f d h i r p q = go (get_or_runs n s f d (λ j k. h j (omega arith)) i r) (dec_lt i n)
    where
      long : length (runs n f) ≡ n * s
      long = length_runs n s f (λ j k. h j (omega arith))

      go : (i < n → r < s → get_or (runs n f) (i * s + r) d ≡ get_or (f i) r d) → Dec (i < n) →
          get_or (runs n f ++ f n) (i * s + r) d ≡ get_or (f i) r d
      go ih (yes k) = get_or-append (runs n f) (f n) d (i * s + r) (omega (arith, long, digits_lt k q)) ∙ ih k q
      go ih (no k) =
          let e : i ≡ n = omega arith in
          ap (λ (m : ℕ). get_or (runs n f ++ f n) (m + r) d) (ap (λ (j : ℕ). j * s) e ∙ sym long)
          ∙ get_or-append-add (runs n f) (f n) r d
          ∙ ap (λ (j : ℕ). get_or (f j) r d) (sym e)

  -- two functions that agree on the runs give the same list
  pub runs_same : (n : ℕ) (f g : ℕ → List A) → ((i : ℕ) → i < n → f i ≡ g i) → runs n f ≡ runs n g
  unfolding runs
  runs_same zero f g h = refl
  runs_same (suc n) f g h =
      ap (λ (l : List A). l ++ f n) (runs_same n f g (λ i k. h i (omega arith)))
      ∙ ap (λ (l : List A). runs n g ++ l) (h n (omega arith))

  -- the first runs, and those after them
  pub runs_add : (m n : ℕ) (f : ℕ → List A) → runs (m + n) f ≡ runs m f ++ runs n (λ i. f (m + i))
  unfolding runs
  runs_add m zero f = ap (λ (k : ℕ). runs k f) (add-zero m) ∙ sym (append-nil (runs m f))
  runs_add m (suc n) f =
      ap (λ (k : ℕ). runs k f) (add-suc m n)
      ∙ ap (λ (l : List A). l ++ f (m + n)) (runs_add m n f)
      ∙ append_assoc (runs m f) (runs n (λ i. f (m + i))) (f (m + n))

  -- a list is the runs of its single elements
  pub runs_of_list : (d : A) (l : List A) (n : ℕ) → n ≤ length l → runs n (λ (i : ℕ). get_or l i d ∷ []) ≡ take n l
  unfolding runs
  runs_of_list d l zero h = refl
  runs_of_list d l (suc n) h =
      ap (λ (x : List A). x ++ (get_or l n d ∷ [])) (runs_of_list d l n (omega arith)) ∙ sym (take-suc l n d h)

  -- ---- storing one after the other

  -- an array is its elements
  pub array_elements : (d : A) (l : List A) (n : ℕ) → length l ≡ n → runs n (λ (i : ℕ). get_or l i d ∷ []) ≡ l
  array_elements d l n e = runs_of_list d l n (omega (arith, e)) ∙ take_all n l (omega (arith, e))

  -- stores that follow one another are one store
  pub sets_append : (xs : List A) (l : List A) (at : ℕ) (ys : List A) →
      sets (sets l at xs) (at + length xs) ys ≡ sets l at (xs ++ ys)
  sets_append [] l at ys = ap (λ (k : ℕ). sets l k ys) (add-zero at)
  sets_append (x ∷ xs) l at ys =
      ap (λ (k : ℕ). sets (sets (set l at x) (suc at) xs) k ys) (add-suc at (length xs) ∙ sym (suc-add at (length xs)))
      ∙ sets_append xs (set l at x) (suc at) ys

  pub sets_after : (l : List A) (at : ℕ) (xs ys : List A) {m : ℕ} → m ≡ at + length xs →
      sets (sets l at xs) m ys ≡ sets l at (xs ++ ys)
  sets_after l at xs ys e = ap (λ (k : ℕ). sets (sets l at xs) k ys) e ∙ sets_append xs l at ys

  pub runs_none : (l : List A) (at : ℕ) (f : ℕ → List A) → l ≡ sets l at (runs 0 f)
  unfolding runs
  runs_none l at f = refl

  -- one run more, at the place where n runs of length s end
  pub runs_more : (l : List A) (at n s : ℕ) (f : ℕ → List A) → ((i : ℕ) → i < n → length (f i) ≡ s) →
      sets (sets l at (runs n f)) (at + n * s) (f n) ≡ sets l at (runs (n + 1) f)
  runs_more l at n s f h =
      ap (λ (k : ℕ). sets (sets l at (runs n f)) (at + k) (f n)) (sym (length_runs n s f h))
      ∙ sets_append (runs n f) l at (f n)
      ∙ ap (sets l at) (sym (runs_suc n f))

  -- ---- laid over the front

  pub sets_over : (result old : List A) → length result ≤ length old → sets old 0 result ≡ over result old
  unfolding over
  sets_over result old h =
      sets-eq result old 0 (omega arith) ∙ ap (λ (k : ℕ). result ++ drop k old) (zero-add (length result))

  pub length_over : (result old : List A) → length result ≤ length old → length (over result old) ≡ length old
  unfolding over
  length_over result old h =
      length-append result (drop (length result) old) ∙ omega (arith, length-drop (length result) old)

  pub take_over : (result old : List A) → take (length result) (over result old) ≡ result
  unfolding over
  take_over result old = take_at result (drop (length result) old) (length result) refl

  pub drop_over : (result old : List A) → drop (length result) (over result old) ≡ drop (length result) old
  unfolding over
  drop_over result old = drop_at result (drop (length result) old) (length result) refl

  pub over_none : (old : List A) (f : ℕ → List A) → old ≡ over (runs 0 f) old
  unfolding over runs
  over_none old f = refl

  -- one run more, where n runs of length s lie over the front
  pub over_more : (old : List A) (n s : ℕ) (f : ℕ → List A) → ((i : ℕ) → i < n + 1 → length (f i) ≡ s) →
      (n + 1) * s ≤ length old →
      sets (over (runs n f) old) (n * s) (f n) ≡ over (runs (n + 1) f) old
  over_more old n s f h fits =
      let long : length (runs (n + 1) f) ≡ (n + 1) * s = length_runs (n + 1) s f h in
      let before : length (runs n f) ≡ n * s = length_runs n s f (λ i k. h i (omega arith)) in
      ap (λ (l : List A). sets l (n * s) (f n)) (sym (sets_over (runs n f) old (omega arith)))
      ∙ ap (λ (k : ℕ). sets (sets old 0 (runs n f)) k (f n)) (sym (zero-add (n * s)))
      ∙ runs_more old 0 n s f (λ i k. h i (omega arith))
      ∙ sets_over (runs (n + 1) f) old (omega arith)

  -- ---- lists in parts of one length

  -- a list is its parts
  pub runs_of_parts : (l : List A) (s n : ℕ) → runs n (λ (i : ℕ). take s (drop (i * s) l)) ≡ take (n * s) l
  unfolding runs
  runs_of_parts l s zero = ap (λ (k : ℕ). take k l) (sym (zero-mul s))
  runs_of_parts l s (suc n) =
      ap (λ (x : List A). x ++ take s (drop (n * s) l)) (runs_of_parts l s n)
      ∙ sym (take-add (n * s) s l)
      ∙ ap (λ (k : ℕ). take k l) (sym (suc-mul n s))

  -- a list that begins with another
  pub record Begins (front l : List A) : Type ℓ where
    pub rest : List A
    pub whole : l ≡ front ++ rest

  -- from the place of run i on, runs begin with it
  pub run_begins : (n s : ℕ) (f : ℕ → List A) (after : List A) → ((i : ℕ) → i < n → length (f i) ≡ s) →
      (i : ℕ) → i < n → Begins (f i) (drop (i * s) (runs n f ++ after))
  unfolding runs
  run_begins zero s f after h i k = absurd (omega arith)
  run_begins (suc n) s f after h i k = go (run_begins n s f (f n ++ after) (λ j l. h j (omega arith)) i) (dec_lt i n)
    where
      joined : (runs n f ++ f n) ++ after ≡ runs n f ++ (f n ++ after)
      joined = append_assoc (runs n f) (f n) after

      go : (i < n → Begins (f i) (drop (i * s) (runs n f ++ (f n ++ after)))) → Dec (i < n) →
          Begins (f i) (drop (i * s) ((runs n f ++ f n) ++ after))
      go before (yes l) = record { rest = (before l).rest; whole = ap (drop (i * s)) joined ∙ (before l).whole }
      go before (no l) =
          let last : i ≡ n = omega arith in
          let long : length (runs n f) ≡ i * s = length_runs n s f (λ j m. h j (omega arith))
          ∙ ap (λ (m : ℕ). m * s) (sym last) in
          record {
            rest = after;
            whole = ap (drop (i * s)) joined ∙ drop_at (runs n f) (f n ++ after) (i * s) long
                ∙ ap (λ (m : ℕ). f m ++ after) (sym last);
          }

-- Where the numbers of stored details stand, their range, and what cleaning keeps.
use mathlib.Core.Path.{◌≡◌, refl, sym, ap, subst, ◌∙◌}
use mathlib.Core.Bool.{Bool, true, false, cond}
use mathlib.Core.List.{List, [], ◌∷◌, ◌++◌, map}
use mathlib.Core.Logic.{◌⊎◌, inl, inr}
use Prim.Native.Nat.{ℕ, zero, suc, ◌+◌, ◌*◌, ◌≤◌, ◌<◌}
use native.Mathlib.Omega.{arith}
use lib.Dec.{ltb, lit<}
use lib.IntN.{ℤ, pos, nat_abs}
use lib.ListN.{length, take, drop, length-take, length-map, get_or-append}
use lib.Seq.{sets, get_or-take}
use borrow.Author.Tests.{ltb-true, le-ltb}
use Rattle.exact.specs.Filling.{over}
use Rattle.exact.proofs.FillingLaws.{length_over, take_over, runs_of_list, sets_after}
use Rattle.net.specs.Net.{Index, one, two, three, rank, Vertex, vertex_at, Field, number}
use Rattle.net.specs.Refusals.{accepted, outside, any_outside, bad_size}
use Rattle.net.proofs.Faults.{Clear, clear_none, none_clear, or_no}
use Rattle.net.proofs.Grids.{grid_length, grid_number, grid_same, any_grid}
use Rattle.net.proofs.Places.{record_ends, point_number}
use Rattle.net.proofs.Ranges.{in_range_lem, any_three, any_runs}
use Rattle.details.specs.Details.{detail_point_stride, detail_stride, detail_numbers, detail_start, detail_triangle, detail_field, detail_point, detail_controls, detail_run, stored_details, detail_points}
use Rattle.details.specs.Refusals.{even_size, detail_limit, details_beyond, too_great, clean_faults, clean_refusal}
use Rattle.details.specs.Cleaning.{cleaned, cleaned_details, Cleaned, clean_output}

-- ---- places

-- the details of a vertex end within those of the net
pub detail_ends : {w h i j : ℕ} → i < w → j < h → detail_start w (vertex_at i j) + detail_stride ≤ detail_numbers w h
detail_ends {w} {h} {i} {j} = record_ends detail_stride {w = w} {h = h} {i = i} {j = j}

pub within_record : (k : Index) (x : ℕ) → x < 3 → detail_point_stride * rank k + x < detail_stride
within_record one x h = omega (arith, h)
within_record two x h = omega (arith, h)
within_record three x h = omega (arith, h)

-- where a number of a vertex stands among those of the net
pub detail_number : (details : List ℤ) (w : ℕ) (v : Vertex) (k : Index) (x : ℕ) → x < 3 →
    detail_field details w x v k ≡ number details (detail_start w v + (detail_point_stride * rank k + x))
unfolding detail_triangle
detail_number details w v one x h = point_number details (detail_start w v) x h ∙ ap (number details) (omega arith)
detail_number details w v two x h =
    point_number details (detail_start w v + detail_point_stride) x h ∙ ap (number details) (omega arith)
detail_number details w v three x h =
    point_number details (detail_start w v + 2 * detail_point_stride) x h ∙ ap (number details) (omega arith)

-- ---- stored details

pub details_length : (D : ℕ → Field) (w h : ℕ) → length (stored_details D w h) ≡ detail_numbers w h
unfolding stored_details
details_length D = grid_length detail_stride (detail_run D) (λ v. refl)

stored_number : (D : ℕ → Field) (w h i j r : ℕ) → i < w → j < h → r < detail_stride →
    number (stored_details D w h) (detail_start w (vertex_at i j) + r) ≡ number (detail_run D (vertex_at i j)) r
unfolding stored_details
stored_number D = grid_number detail_stride (detail_run D) (λ v. refl)

run_number : (D : ℕ → Field) (v : Vertex) (l : Index) (x : ℕ) → x < 3 →
    number (detail_run D v) (detail_point_stride * rank l + x) ≡ D x v l
run_number D v one zero h = refl
run_number D v one (suc zero) h = refl
run_number D v one (suc (suc zero)) h = refl
run_number D v two zero h = refl
run_number D v two (suc zero) h = refl
run_number D v two (suc (suc zero)) h = refl
run_number D v three zero h = refl
run_number D v three (suc zero) h = refl
run_number D v three (suc (suc zero)) h = refl
run_number D v l (suc (suc (suc x))) h = absurd (omega (arith, h))

-- the field of a slice that begins with stored details
pub details_field : (D : ℕ → Field) (w h : ℕ) (old : List ℤ) (i j : ℕ) → i < w → j < h → (l : Index) (x : ℕ) → x < 3 →
    detail_field (over (stored_details D w h) old) w x (vertex_at i j) l ≡ D x (vertex_at i j) l
unfolding over
details_field D w h old i j a b l x c =
    let details = stored_details D w h in
    let at = detail_start w (vertex_at i j) + (detail_point_stride * rank l + x) in
    let ends = detail_ends {w = w} {h = h} {i = i} {j = j} a b in
    let here : at < length details = omega (arith, ends, details_length D w h, within_record l x c) in
    detail_number (over details old) w (vertex_at i j) l x c
    ∙ get_or-append details (drop (length details) old) (pos 0) at here
    ∙ stored_number D w h i j (detail_point_stride * rank l + x) a b (within_record l x c)
    ∙ run_number D (vertex_at i j) l x c

-- details that agree on the vertices
pub details_same : (D E : ℕ → Field) (w h : ℕ) →
    ((x : ℕ) → x < 3 → (i j : ℕ) → i < w → j < h → (l : Index) → D x (vertex_at i j) l ≡ E x (vertex_at i j) l) →
    stored_details D w h ≡ stored_details E w h
unfolding stored_details
details_same D E w h e =
    grid_same (detail_run D) (detail_run E) w h (λ i j a b.
    let point : (l : Index) → detail_point D (vertex_at i j) l ≡ detail_point E (vertex_at i j) l =
    λ l t. e 0 (lit< tt) i j a b l t ∷ e 1 (lit< tt) i j a b l t ∷ e 2 (lit< tt) i j a b l t ∷ [] in
    λ t. point one t ++ point two t ++ point three t)

-- the three controls of a vertex, stored one after the other, are its run
pub stored_details_lem : (D : ℕ → Field) (v : Vertex) (l : List ℤ) (at : ℕ) {d : List (List ℤ)} → d ≡ detail_controls D v →
    detail_points l at d ≡ sets l at (detail_run D v)
stored_details_lem D v l at e =
    (λ t. detail_points l at (e t))
    ∙ ap (λ (m : List ℤ). sets m (at + 2 * detail_point_stride) (detail_point D v three))
    (sets_after l at (detail_point D v one) (detail_point D v two) refl)
    ∙ sets_after l at (detail_point D v one ++ detail_point D v two) (detail_point D v three) refl

-- ---- details in range

-- one of the first n numbers of a list, where these are within a limit
pub front_within : (limit : ℕ) (l : List ℤ) (n : ℕ) → any_outside limit (take n l) ≡ false → n ≤ length l → (i : ℕ) → i < n →
    nat_abs (number l i) ≤ limit
front_within limit l n e long i here =
    subst (λ (z : ℤ). nat_abs z ≤ limit) (get_or-take n l i (pos 0) here)
    (in_range_lem limit (take n l) e i (omega (arith, length-take n l, long, here)))

-- each number of those that count, and the way back
number_size : (details : List ℤ) (w h : ℕ) → details_beyond details w h ≡ false → detail_numbers w h ≤ length details →
    (n : ℕ) → n < detail_numbers w h → nat_abs (number details n) ≤ 33554432
unfolding details_beyond
number_size details w h e long n here = front_within detail_limit details (detail_numbers w h) e long n here

sizes_in_range : (details : List ℤ) (w h : ℕ) → detail_numbers w h ≤ length details →
    ((n : ℕ) → n < detail_numbers w h → nat_abs (number details n) ≤ 33554432) → details_beyond details w h ≡ false
unfolding details_beyond
sizes_in_range details w h long size =
    let all = detail_numbers w h in
    ap (any_outside detail_limit) (sym (runs_of_list (pos 0) details all long))
    ∙ any_runs detail_limit all (λ n. number details n ∷ [])
    (λ n k. sym (or_no _ _ (le-ltb detail_limit (nat_abs (number details n)) (size n k)) refl))

pub detail_size : (details : List ℤ) (w h : ℕ) → details_beyond details w h ≡ false →
    detail_numbers w h ≤ length details →
    (i j : ℕ) → i < w → j < h → (k : Index) (x : ℕ) → x < 3 →
    nat_abs (detail_field details w x (vertex_at i j) k) ≤ 33554432
detail_size details w h e long i j a b k x c =
    let at = detail_start w (vertex_at i j) + (detail_point_stride * rank k + x) in
    let ends = detail_ends {w = w} {h = h} {i = i} {j = j} a b in
    subst (λ (z : ℤ). nat_abs z ≤ 33554432) (sym (detail_number details w (vertex_at i j) k x c))
    (number_size details w h e long at (omega (arith, ends, within_record k x c)))

run_in_range : (D : ℕ → Field) (v : Vertex) → ((x : ℕ) → x < 3 → (l : Index) → nat_abs (D x v l) ≤ 33554432) →
    any_outside detail_limit (detail_run D v) ≡ false
run_in_range D v size =
    let fine : (l : Index) (x : ℕ) → x < 3 → outside detail_limit (D x v l) ≡ false =
    λ l x c. le-ltb detail_limit (nat_abs (D x v l)) (size x c l) in
    let point : (l : Index) → any_outside detail_limit (detail_point D v l) ≡ false =
    λ l. sym (or_no _ _ (fine l 0 (lit< tt)) (or_no _ _ (fine l 1 (lit< tt)) (or_no _ _ (fine l 2 (lit< tt)) refl))) in
    any_three detail_limit (detail_point D v one) (detail_point D v two) (detail_point D v three)
    ∙ sym (or_no _ _ (point one) (or_no _ _ (point two) (sym (point three))))

pub details_in_range : (D : ℕ → Field) (w h : ℕ) (old : List ℤ) →
    ((x : ℕ) → x < 3 → (i j : ℕ) → i < w → j < h → (l : Index) → nat_abs (D x (vertex_at i j) l) ≤ 33554432) →
    details_beyond (over (stored_details D w h) old) w h ≡ false
unfolding details_beyond stored_details
details_in_range D w h old size =
    let details = stored_details D w h in
    ap (λ (n : ℕ). any_outside detail_limit (take n (over details old))) (sym (details_length D w h))
    ∙ ap (any_outside detail_limit) (take_over details old)
    ∙ any_grid detail_limit (detail_run D) w h
    (λ i j a b. run_in_range D (vertex_at i j) (λ x c l. size x c i j a b l))

-- ---- what cleaning keeps

-- one number; and the first n of a list, those after them as they were
one_cleaned : (t : ℕ) (z : ℤ) → (cleaned t z ≡ z) ⊎ ((cleaned t z ≡ pos 0) × (nat_abs z < t))
one_cleaned t z = by (ltb (nat_abs z) t) (ltb-true (nat_abs z) t)
  where
    by : (b : Bool) → (b ≡ true → nat_abs z < t) →
        (cond b (pos 0) z ≡ z) ⊎ ((cond b (pos 0) z ≡ pos 0) × (nat_abs z < t))
    by true small = inr (refl, small refl)
    by false small = inl refl

first_cleaned : (t : ℕ) (l : List ℤ) (n : ℕ) → Cleaned t l (over (map (cleaned t) (take n l)) l)
unfolding over
first_cleaned t l n =
    record {
      long = length_over (map (cleaned t) (take n l)) l
          (omega (arith, length-map (take n l) (cleaned t), length-take n l));
      each = each l n;
    }
  where
    each : (l : List ℤ) (n m : ℕ) → (let after = number (over (map (cleaned t) (take n l)) l) m in
        (after ≡ number l m) ⊎ ((after ≡ pos 0) × (nat_abs (number l m) < t)))
    each l zero m = inl refl
    each [] (suc n) m = inl refl
    each (z ∷ l) (suc n) zero = one_cleaned t z
    each (z ∷ l) (suc n) (suc m) = each l n m

pub cleans : (details : List ℤ) (w h t : ℕ) → Cleaned t details (clean_output details w h t)
unfolding cleaned_details
cleans details w h t = by (accepted (clean_refusal details w h t))
  where
    by : (b : Bool) → Cleaned t details (cond b (over (map (cleaned t) (take (detail_numbers w h) details)) details) details)
    by true = first_cleaned t details (detail_numbers w h)
    by false = record { long = refl; each = λ n. inl refl }

pub cleaned_in_range : (before after : List ℤ) (w h t : ℕ) → Cleaned t before after →
    detail_numbers w h ≤ length before → details_beyond before w h ≡ false → details_beyond after w h ≡ false
cleaned_in_range before after w h t c long e =
    sizes_in_range after w h (omega (arith, long, c.long)) (λ n here.
    by n (number_size before w h e long n here) (c.each n))
  where
    by : (n : ℕ) → nat_abs (number before n) ≤ 33554432 →
        (number after n ≡ number before n) ⊎ ((number after n ≡ pos 0) × (nat_abs (number before n) < t)) →
        nat_abs (number after n) ≤ 33554432
    by n size (inl same) = subst (λ (z : ℤ). nat_abs z ≤ 33554432) (sym same) size
    by n size (inr zeroed) = subst (λ (z : ℤ). nat_abs z ≤ 33554432) (sym zeroed.0) (omega arith)

-- ---- refusals of cleaning

-- where nothing is refused no fault is there, and the way back
pub clean_clear : (details : List ℤ) (w h t : ℕ) → clean_refusal details w h t ≡ 0 → Clear (clean_faults details w h t)
clean_clear details w h t e =
    none_clear (clean_faults details w h t) (lit< tt, (lit< tt, (lit< tt, (lit< tt, (lit< tt, tt))))) e

pub clean_accepted : (details : List ℤ) (w h t : ℕ) → bad_size w h ≡ false → even_size w h ≡ false →
    too_great t ≡ false → detail_numbers w h ≤ length details → details_beyond details w h ≡ false →
    clean_refusal details w h t ≡ 0
clean_accepted details w h t size odd small long range =
    clear_none (clean_faults details w h t) (size, (odd, (small, (le-ltb (length details) (detail_numbers w h) long, (range, tt)))))

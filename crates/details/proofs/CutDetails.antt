-- Numbers beyond those of the vertices do not matter: refusals, fields and cleaned details are those of the details cut
-- after them.
use mathlib.Core.Path.{◌≡◌, sym, ap, ◌∙◌}
use mathlib.Core.List.{List, [], ◌∷◌, map}
use Prim.Native.Nat.{ℕ, ◌+◌, ◌*◌, ◌≤◌, ◌<◌}
use native.Mathlib.Nat.{le_refl}
use native.Mathlib.Omega.{arith}
use lib.IntN.{ℤ, pos}
use lib.ListN.{take}
use lib.Seq.{take-take, get_or-take}
use Rattle.net.specs.Net.{Index, Vertex, rank}
use Rattle.net.specs.Refusals.{first_fault, any_outside, bad_size}
use Rattle.net.proofs.Beyond.{short_cut}
use Rattle.details.specs.Details.{detail_numbers, detail_point_stride, detail_stride, detail_start, detail_field}
use Rattle.details.specs.Refusals.{detail_limit, even_size, too_great, short_details, details_beyond, clean_refusal}
use Rattle.details.specs.Cleaning.{cleaned, cleaned_details}
use Rattle.details.proofs.DetailLaws.{within_record, detail_number}

-- the first 9wh details
abbrev pub cut_details : List ℤ → ℕ → ℕ → List ℤ
cut_details details w h = take (detail_numbers w h) details

twice : (details : List ℤ) (w h : ℕ) → cut_details details w h ≡ cut_details (cut_details details w h) w h
twice details w h = sym (take-take (detail_numbers w h) (detail_numbers w h) details (le_refl (detail_numbers w h)))

pub cut_short_details : (details : List ℤ) (w h : ℕ) → short_details details w h ≡ short_details (cut_details details w h) w h
cut_short_details details w h = short_cut details (detail_numbers w h)

pub cut_details_beyond : (details : List ℤ) (w h : ℕ) →
    details_beyond details w h ≡ details_beyond (cut_details details w h) w h
unfolding details_beyond
cut_details_beyond details w h = ap (any_outside detail_limit) (twice details w h)

pub cut_detail_field : (details : List ℤ) (w h : ℕ) (v : Vertex) → detail_start w v + detail_stride ≤ detail_numbers w h →
    (k : Index) (x : ℕ) → x < 3 →
    detail_field details w x v k ≡ detail_field (cut_details details w h) w x v k
cut_detail_field details w h v e k x b =
    detail_number details w v k x b
    ∙ sym (get_or-take (detail_numbers w h) details (detail_start w v + (detail_point_stride * rank k + x)) (pos 0)
    (omega (arith, e, within_record k x b)))
    ∙ sym (detail_number (cut_details details w h) w v k x b)

-- ---- cleaning

pub cut_clean_refusal : (details : List ℤ) (w h t : ℕ) →
    clean_refusal details w h t ≡ clean_refusal (cut_details details w h) w h t
cut_clean_refusal details w h t =
    λ u. first_fault
    ((bad_size w h, 1) ∷ (even_size w h, 10) ∷ (too_great t, 12) ∷ (cut_short_details details w h u, 2)
    ∷ (cut_details_beyond details w h u, 3) ∷ [])

pub cut_cleaned : (details : List ℤ) (w h t : ℕ) → cleaned_details details w h t ≡ cleaned_details (cut_details details w h) w h t
unfolding cleaned_details
cut_cleaned details w h t = ap (map (cleaned t)) (twice details w h)

-- Numbers and their mirror images are in range alike: those of a record, of a triangle and of a whole net or details.
use mathlib.Core.Path.{◌≡◌, refl, sym, ap, ◌∙◌}
use mathlib.Core.Bool.{Bool, false, ◌||◌}
use mathlib.Core.List.{List, [], ◌∷◌, ◌++◌}
use Prim.Native.Nat.{ℕ, zero, suc, ◌+◌, ◌*◌, ◌≤◌, ◌<◌}
use native.Mathlib.Omega.{arith}
use lib.Dec.{ltb, lit<}
use lib.IntN.{ℤ, pos, nat_abs}
use lib.ListN.{length, take, drop, length-take, length-drop}
use lib.Seq.{get_or-take, get_or-drop}
use borrow.Author.Tests.{ltb-false}
use Rattle.exact.specs.Filling.{runs}
use Rattle.exact.proofs.FillingLaws.{array_elements}
use Rattle.net.specs.Net.{Index, one, two, three, rank, Vertex, vertex_at, Triangle, corner, record_start, number, field, numbers, grid, grid_row}
use Rattle.net.specs.Refusals.{any_outside, net_limit, any_beyond, short_net, net_beyond}
use Rattle.net.proofs.Grids.{grid_of_parts}
use Rattle.net.proofs.Places.{record_ends, field_number, within_record}
use Rattle.net.proofs.Ranges.{any_append}
use Rattle.triangles.specs.Refusals.{triangle_beyond}
use Rattle.steps.specs.RefinedNet.{Fields, point_at, vertex_run}
use Rattle.details.specs.Details.{detail_numbers, detail_field}
use Rattle.details.specs.Refusals.{detail_limit, short_details, details_beyond}
use Rattle.details.proofs.DetailLaws.{detail_number}
use Rattle.mirror.specs.Mirror.{Coordinates, Opposite, Mirrored, MirroredDetails}
use Rattle.mirror.proofs.Numbers.{size_negated}

-- ---- grids whose records are out of range alike

module _ (limit : ℕ) where
  runs_alike : (n : ℕ) (f g : ℕ → List ℤ) → ((i : ℕ) → i < n → any_outside limit (f i) ≡ any_outside limit (g i)) →
      any_outside limit (runs n f) ≡ any_outside limit (runs n g)
  unfolding runs
  runs_alike zero f g e = refl
  runs_alike (suc n) f g e =
      any_append limit (runs n f) (f n)
      ∙ (λ t. runs_alike n f g (λ i a. e i (omega (arith, a))) t || e n (omega arith) t)
      ∙ sym (any_append limit (runs n g) (g n))

  grid_alike : (f g : Vertex → List ℤ) (w h : ℕ) →
      ((i j : ℕ) → i < w → j < h → any_outside limit (f (vertex_at i j)) ≡ any_outside limit (g (vertex_at i j))) →
      any_outside limit (grid f w h) ≡ any_outside limit (grid g w h)
  unfolding grid
  grid_alike f g w h e =
      runs_alike h (grid_row f w) (grid_row g w)
      (λ j b. runs_alike w (λ i. f (vertex_at i j)) (λ i. g (vertex_at i j)) (λ i a. e i j a b))

-- ---- lists that hold fields, nine numbers a vertex, and their mirror images

abbrev part : List ℤ → ℕ → Vertex → List ℤ
part l w v = take 9 (drop (record_start 9 w v) l)

abbrev Holds : List ℤ → ℕ → Fields → Type 0
Holds l w F = (v : Vertex) (k : Index) (x : ℕ) → x < 3 → F x v k ≡ number l (record_start 9 w v + (3 * rank k + x))

-- the numbers of a vertex are its part of the list
part_run_lem : (l : List ℤ) (w : ℕ) (F : Fields) → Holds l w F → (v : Vertex) → record_start 9 w v + 9 ≤ length l →
    vertex_run F v ≡ part l w v
unfolding runs
part_run_lem l w F holds v ends =
    let at = record_start 9 w v in
    let here = part l w v in
    let long : length here ≡ 9 = omega (arith, length-take 9 (drop at l), length-drop at l, ends) in
    let same : (k : Index) (x : ℕ) → x < 3 → F x v k ≡ number here (3 * rank k + x) =
    λ k x c. holds v k x c
    ∙ sym (get_or-take 9 (drop at l) (3 * rank k + x) (pos 0) (within_record k x c) ∙ get_or-drop at l (3 * rank k + x) (pos 0)) in
    let point : (k : Index) → point_at F v k ≡ point_at (λ x u m. number here (3 * rank m + x)) v k =
    λ k t. same k 0 (lit< tt) t ∷ same k 1 (lit< tt) t ∷ same k 2 (lit< tt) t ∷ [] in
    (λ t. point one t ++ point two t ++ point three t) ∙ array_elements (pos 0) here 9 long

module _ (limit : ℕ) (m : Coordinates) (w h : ℕ) (F G : Fields) (e : Opposite m w h F G) where
  run_alike : (i j : ℕ) → i < w → j < h →
      any_outside limit (vertex_run G (vertex_at i j)) ≡ any_outside limit (vertex_run F (vertex_at i j))
  run_alike i j a b =
      let v = vertex_at i j in
      let size : (x : ℕ) → x < 3 → (k : Index) → nat_abs (G x v k) ≡ nat_abs (F x v k) =
      λ x c k. ap nat_abs (e x c i j a b k) ∙ size_negated (m x) (F x v k) in
      let out : (x : ℕ) → x < 3 → (k : Index) → ltb limit (nat_abs (G x v k)) ≡ ltb limit (nat_abs (F x v k)) =
      λ x c k. ap (ltb limit) (size x c k) in
      let point : (k : Index) (r s : Bool) → r ≡ s →
      (ltb limit (nat_abs (G 0 v k)) || (ltb limit (nat_abs (G 1 v k)) || (ltb limit (nat_abs (G 2 v k)) || r)))
      ≡ (ltb limit (nat_abs (F 0 v k)) || (ltb limit (nat_abs (F 1 v k)) || (ltb limit (nat_abs (F 2 v k)) || s))) =
      λ k r s d t. out 0 (lit< tt) k t || (out 1 (lit< tt) k t || (out 2 (lit< tt) k t || d t)) in
      point one _ _ (point two _ _ (point three false false refl))

  module _ (l l' : List ℤ) (holds : Holds l w F) (holds' : Holds l' w G) (long : 9 * (w * h) ≤ length l) (long' : 9 * (w * h) ≤ length l') where
    part_alike : (i j : ℕ) → i < w → j < h →
        any_outside limit (part l' w (vertex_at i j)) ≡ any_outside limit (part l w (vertex_at i j))
    part_alike i j a b =
        let ends = record_ends 9 {w = w} {h = h} {i = i} {j = j} a b in
        ap (any_outside limit) (sym (part_run_lem l' w G holds' (vertex_at i j) (omega (arith, ends, long'))))
        ∙ run_alike i j a b
        ∙ ap (any_outside limit) (part_run_lem l w F holds (vertex_at i j) (omega (arith, ends, long)))

    front_alike : any_outside limit (take (9 * (w * h)) l') ≡ any_outside limit (take (9 * (w * h)) l)
    front_alike =
        ap (any_outside limit) (sym (grid_of_parts 9 w h l'))
        ∙ grid_alike limit (part l' w) (part l w) w h part_alike
        ∙ ap (any_outside limit) (grid_of_parts 9 w h l)

-- ---- nets and details that are long enough

module _ {m : Coordinates} {w h : ℕ} {net image : List ℤ} (e : Mirrored m w h net image) (long : short_net net w h ≡ false) where
  net_long : numbers w h ≤ length net
  net_long = ltb-false (length net) (numbers w h) long

  image_long : numbers w h ≤ length image
  image_long = ltb-false (length image) (numbers w h) (e.short ∙ long)

  pub net_alike : net_beyond image w h ≡ net_beyond net w h
  unfolding net_beyond
  net_alike =
      front_alike net_limit m w h (field net w) (field image w) e.opposite net image (field_number net w)
      (field_number image w) net_long image_long

  pub triangle_alike : (t : Triangle) → ((P : Index) → ((corner t P).column < w) × ((corner t P).row < h)) →
      triangle_beyond image w t ≡ triangle_beyond net w t
  triangle_alike t g =
      let alike = part_alike net_limit m w h (field net w) (field image w) e.opposite net image (field_number net w)
      (field_number image w) net_long image_long in
      let at : (P : Index) → any_beyond (part image w (corner t P)) ≡ any_beyond (part net w (corner t P)) =
      λ P. alike (corner t P).column (corner t P).row (g P).0 (g P).1 in
      λ i. at one i || (at two i || at three i)

pub details_alike : {m : Coordinates} {w h : ℕ} {details image : List ℤ} → MirroredDetails m w h details image →
    short_details details w h ≡ false → details_beyond image w h ≡ details_beyond details w h
unfolding details_beyond
details_alike {m} {w} {h} {details} {image} e long =
    front_alike detail_limit m w h (detail_field details w) (detail_field image w) e.opposite details image
    (detail_number details w) (detail_number image w) (ltb-false (length details) (detail_numbers w h) long)
    (ltb-false (length image) (detail_numbers w h) (e.short ∙ long))

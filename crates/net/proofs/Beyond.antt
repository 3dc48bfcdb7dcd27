-- Numbers beyond 9wh do not matter: each answer is that of the net cut after its 9wh numbers.
use mathlib.Core.Path.{◌≡◌, refl, sym, ap, ◌∙◌}
use mathlib.Core.Bool.{Bool, true, false, cond}
use mathlib.Core.List.{List, [], ◌∷◌}
use Prim.Native.Nat.{ℕ, ◌+◌, ◌*◌, ◌≤◌, ◌<◌}
use native.Mathlib.Nat.{le_refl}
use native.Mathlib.Omega.{arith}
use lib.Dec.{ltb}
use lib.IntN.{ℤ, pos}
use lib.ListN.{length, take, drop, length-take}
use lib.Seq.{take-take, take-add, drop_at, get_or-take, length-take-le}
use borrow.Author.Tests.{lt-ltb, le-ltb, ltb-true, ltb-false, eqb-true}
use Rattle.net.specs.Net.{Index, Vertex, vertex_at, numbers, start, vertex_numbers, rank, field, stride, point_stride}
use Rattle.net.specs.Refusals.{any_beyond, net_beyond, accepted, bad_size, no_vertex, short_net, vertex_refusal, vertex_part, first_fault}
use Rattle.net.proofs.Places.{good_vertex, vertex_ends, field_number, within_record}

-- the first 9wh numbers
abbrev pub cut : List ℤ → ℕ → ℕ → List ℤ
cut net w h = take (numbers w h) net

-- ---- choices whose arms need to agree only where they are taken

module _ {ℓ} {A : Type ℓ} where
  pub cond_where : (b : Bool) {x x' : A} (y : A) → (b ≡ true → x ≡ x') → cond b x y ≡ cond b x' y
  cond_where true y e = e refl
  cond_where false y e = refl

  pub cond_else : (b : Bool) (x : A) {y y' : A} → (b ≡ false → y ≡ y') → cond b x y ≡ cond b x y'
  cond_else true x e = refl
  cond_else false x e = e refl

-- ---- the net's length, its vertices and its fields

-- whether a list is shorter than n, of its first n elements
pub short_cut {ℓ} : {A : Type ℓ} (l : List A) (n : ℕ) → ltb (length l) n ≡ ltb (length (take n l)) n
short_cut l n = by (ltb (length l) n) refl
  where
    by : (b : Bool) → ltb (length l) n ≡ b → ltb (length l) n ≡ ltb (length (take n l)) n
    by true e =
        let less = ltb-true (length l) n e in
        e ∙ sym (lt-ltb (length (take n l)) n (omega (arith, less, length-take n l)))
    by false e =
        let more = ltb-false (length l) n e in
        e ∙ sym (le-ltb (length (take n l)) n (omega (arith, more, length-take n l)))

pub cut_short : (net : List ℤ) (w h : ℕ) → short_net net w h ≡ short_net (cut net w h) w h
cut_short net w h = short_cut net (numbers w h)

pub cut_beyond : (net : List ℤ) (w h : ℕ) → net_beyond net w h ≡ net_beyond (cut net w h) w h
unfolding net_beyond
cut_beyond net w h = ap any_beyond (sym (take-take (numbers w h) (numbers w h) net (le_refl (numbers w h))))

-- a part from the front of a list is the end of the list's first numbers
part_of_front : (l : List ℤ) (at n : ℕ) → at ≤ length l → take n (drop at l) ≡ drop at (take (at + n) l)
part_of_front l at n h =
    sym (ap (drop at) (take-add at n l) ∙ drop_at (take at l) (take n (drop at l)) at (length-take-le at l h))

pub cut_vertex : (net : List ℤ) (w h : ℕ) (v : Vertex) → start w v + stride ≤ numbers w h → numbers w h ≤ length net →
    vertex_numbers net w v ≡ vertex_numbers (cut net w h) w v
cut_vertex net w h v e l =
    part_of_front net (start w v) stride (omega (arith, e, l))
    ∙ ap (drop (start w v)) (sym (take-take (start w v + stride) (numbers w h) net e))
    ∙ sym (part_of_front (cut net w h) (start w v) stride (omega (arith, e, l, length-take (numbers w h) net)))

pub cut_field : (net : List ℤ) (w h : ℕ) (v : Vertex) → start w v + stride ≤ numbers w h → (k : Index) (x : ℕ) → x < 3 →
    field net w x v k ≡ field (cut net w h) w x v k
cut_field net w h v e k x b =
    field_number net w v k x b
    ∙ sym (get_or-take (numbers w h) net (start w v + (point_stride * rank k + x)) (pos 0)
    (omega (arith, e, within_record k x b)))
    ∙ sym (field_number (cut net w h) w v k x b)

-- ---- the vertex part and its companion

pub cut_refusal : (net : List ℤ) (w h i j : ℕ) → vertex_refusal net w h i j ≡ vertex_refusal (cut net w h) w h i j
cut_refusal net w h i j =
    ap (λ (t : Bool). first_fault ((bad_size w h, 1) ∷ (no_vertex w h i j, 6) ∷ (t, 2) ∷ [])) (cut_short net w h)

pub cut_part : (net : List ℤ) (w h i j : ℕ) → vertex_part net w h i j ≡ vertex_part (cut net w h) w h i j
unfolding vertex_part
cut_part net w h i j =
    cond_where (accepted (vertex_refusal net w h i j)) []
    (λ e.
    let v = good_vertex net w h i j (eqb-true (vertex_refusal net w h i j) 0 e) in
    cut_vertex net w h (vertex_at i j) (vertex_ends {w = w} {h = h} {i = i} {j = j} v.column v.row) v.long)
    ∙ ap (λ (n : ℕ). cond (accepted n) (vertex_numbers (cut net w h) w (vertex_at i j)) []) (cut_refusal net w h i j)

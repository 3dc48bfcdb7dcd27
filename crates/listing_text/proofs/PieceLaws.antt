-- The pieces of a listing: an accepted net refuses no vertex its point, which vertex a piece is of, and that the
-- pieces are the listing, also in parts.
use mathlib.Core.Path.{◌≡◌, sym, ap, ◌∙◌}
use mathlib.Core.List.{List, [], ◌∷◌, ◌++◌, append-nil, append_assoc}
use Prim.Native.Nat.{ℕ, zero, suc, ◌+◌, ◌-◌, ◌*◌, ◌/◌, ◌%◌, ◌≤◌, ◌<◌}
use native.Mathlib.Nat.{add-zero, zero-add, add-suc, mul-zero, mul-suc, mul_comm, mod-lt, div-lt_iff_lt-mul}
use native.Mathlib.Omega.{arith}
use lib.Arith.{digits_div, digits_mod}
use lib.Dec.{lit<}
use lib.IntN.{ℤ, pos}
use lib.ListN.{length, take, drop, get_or, length-drop}
use lib.Seq.{take_all, drop-length, drop-drop, sets, sets-eq}
use Rattle.exact.specs.Filling.{over, runs}
use Rattle.exact.proofs.FillingLaws.{runs_suc, runs_same}
use Rattle.net.specs.Refusals.{AcceptedNet}
use Rattle.net.proofs.Faults.{answered, not_accepted}
use Rattle.surface.specs.SurfacePoint.{coordinate, surface_point}
use Rattle.surface.specs.Refusals.{point_refusal}
use Rattle.surface.specs.Answers.{point_answer}
use Rattle.surface.proofs.Accepted.{point_not_refused}
use Rattle.listing_text.specs.Listing.{head_line, vertex_line, listing, piece_text, pieces_text}
use Rattle.listing_text.specs.Promises.{PiecesList, PiecesInParts}

-- ---- the point of a vertex

pub vertex_accepted : (net : List ℤ) (w h : ℕ) → AcceptedNet net w h → (i j : ℕ) → i < w → j < h →
    point_refusal net w h (1024 * i) (1024 * j) ≡ 0
vertex_accepted net w h a i j u v =
    point_not_refused net w h a (1024 * i) (1024 * j) (omega (arith, u), omega (arith, v))

-- the outcome of an accepted point, and that no point is refused
module _ (net : List ℤ) (w h p q : ℕ) (none : point_refusal net w h p q ≡ 0) where
  pub point_outcome_lem : {x y z : ℤ} → (0, x ∷ y ∷ z ∷ []) ≡ point_answer net w h p q →
      (x ≡ coordinate net w h p q 0) × (y ≡ coordinate net w h p q 1) × (z ≡ coordinate net w h p q 2)
  unfolding point_answer
  point_outcome_lem e =
      let same = (answered (point_refusal net w h p q) (surface_point net w h p q) e).1 in (
        ap (λ (l : List ℤ). get_or l 0 (pos 0)) same,
        ap (λ (l : List ℤ). get_or l 1 (pos 0)) same,
        ap
            (λ (l : List ℤ). get_or l 2 (pos 0)) same,
      )

  pub not_refused : {n : ℕ} → (n, []) ≡ point_answer net w h p q → ⊥
  unfolding point_answer
  not_refused e = not_accepted (point_refusal net w h p q) (surface_point net w h p q) (lit< tt) e none

-- ---- which vertex a piece is of

pub vertex_column : (w n : ℕ) → 0 < w → n % w < w
vertex_column w n p = mod-lt n p

pub vertex_row : (w h n : ℕ) → 0 < w → n < w * h → n / w < h
vertex_row w h n p k = (div-lt_iff_lt-mul p).1 (omega (arith, k, mul_comm h w))

pub first_piece : (net : List ℤ) (w h : ℕ) {n : ℕ} → n ≡ 0 → head_line w h ≡ piece_text net w h n
unfolding piece_text
first_piece net w h e = ap (piece_text net w h) (sym e)

pub vertex_piece : (net : List ℤ) (w h n : ℕ) → 0 < n →
    vertex_line net w h ((n - 1) % w) ((n - 1) / w) ≡ piece_text net w h n
unfolding piece_text
vertex_piece net w h zero k = absurd (omega arith)
vertex_piece net w h (suc n) k =
    let same : suc n - 1 ≡ n = omega arith in
    ap (λ (m : ℕ). vertex_line net w h (m % w) (m / w)) same

-- ---- the pieces are the listing

module _ {A : Type 0} where
  -- the first run, and the others
  runs_first : (n : ℕ) (f : ℕ → List A) → runs (suc n) f ≡ f 0 ++ runs n (λ i. f (suc i))
  unfolding runs
  runs_first zero f = sym (append-nil (f 0))
  runs_first (suc n) f =
      ap (λ (l : List A). l ++ f (suc n)) (runs_first n f) ∙ append_assoc (f 0) (runs n (λ i. f (suc i))) (f (suc n))

  -- the first m runs, and the others
  runs_add : (m n : ℕ) (f : ℕ → List A) → runs (m + n) f ≡ runs m f ++ runs n (λ i. f (m + i))
  unfolding runs
  runs_add m zero f = ap (λ (k : ℕ). runs k f) (add-zero m) ∙ sym (append-nil (runs m f))
  runs_add m (suc n) f =
      ap (λ (k : ℕ). runs k f) (add-suc m n)
      ∙ ap (λ (l : List A). l ++ f (m + n)) (runs_add m n f)
      ∙ append_assoc (runs m f) (runs n (λ i. f (m + i))) (f (m + n))

  -- row by row
  runs_rows : (w h : ℕ) (f : ℕ → ℕ → List A) → runs (w * h) (λ n. f (n % w) (n / w)) ≡ runs h (λ j. runs w (λ i. f i j))
  unfolding runs
  runs_rows w zero f = ap (λ (k : ℕ). runs k (λ n. f (n % w) (n / w))) (mul-zero w)
  runs_rows w (suc h) f =
      ap (λ (k : ℕ). runs k (λ n. f (n % w) (n / w))) (mul-suc w h)
      ∙ runs_add (w * h) w (λ n. f (n % w) (n / w))
      ∙ (λ t. runs_rows w h f t ++ runs_same w (λ i. f ((w * h + i) % w) ((w * h + i) / w)) (λ i. f i h) row t)
    where
      row : (i : ℕ) → i < w → f ((w * h + i) % w) ((w * h + i) / w) ≡ f i h
      row i k =
          let turned : w * h + i ≡ h * w + i = ap (λ (m : ℕ). m + i) (mul_comm w h) in
          λ t. f ((ap (λ (m : ℕ). m % w) turned ∙ digits_mod h k) t) ((ap (λ (m : ℕ). m / w) turned ∙ digits_div h k) t)

pub pieces_list : PiecesList
unfolding listing piece_text
pieces_list net w h =
    let one_more : 1 + w * h ≡ suc (w * h) = omega arith in
    ap (λ (k : ℕ). runs k (piece_text net w h)) one_more
    ∙ runs_first (w * h) (piece_text net w h)
    ∙ ap (λ (l : List ℕ). head_line w h ++ l) (runs_rows w h (vertex_line net w h))

-- ---- pieces that are collected

-- a text over the front of the part that begins at a place is stored from that place on
pub stored_in_part : (l text : List ℕ) (at : ℕ) → at + length text ≤ length l →
    take at l ++ (over text (take (length l - at) (drop at l)) ++ drop (length l - at) (drop at l)) ≡ sets l at text
unfolding over
stored_in_part l text at h =
    let long = length-drop at l in
    let part : take (length l - at) (drop at l) ≡ drop at l =
    take_all (length l - at) (drop at l) (omega (arith, long)) in
    let none : drop (length l - at) (drop at l) ≡ [] =
    ap (λ (k : ℕ). drop k (drop at l)) (sym long) ∙ drop-length (drop at l) in
    ap (λ (r : List ℕ). take at l ++ r)
    ((λ t. (text ++ drop (length text) (part t)) ++ none t)
    ∙ append-nil (text ++ drop (length text) (drop at l))
    ∙ ap (λ (r : List ℕ). text ++ r) (drop-drop (length text) at l))
    ∙ sym (append_assoc (take at l) text (drop (at + length text) l))
    ∙ sym (sets-eq text l at h)

module _ (net : List ℤ) (w h : ℕ) where
  pub pieces_none : (n : ℕ) → [] ≡ pieces_text net w h n n
  unfolding pieces_text runs
  pieces_none n =
      let none : 0 ≡ n - n = omega arith in
      ap (λ (k : ℕ). runs k (λ i. piece_text net w h (n + i))) none

  pub pieces_more : (m n : ℕ) → m ≤ n → pieces_text net w h m n ++ piece_text net w h n ≡ pieces_text net w h m (n + 1)
  unfolding pieces_text
  pieces_more m n k =
      let f : ℕ → List ℕ = λ i. piece_text net w h (m + i) in
      let last : n ≡ m + (n - m) = omega arith in
      let more : n - m + 1 ≡ n + 1 - m = omega arith in
      ap (λ (j : ℕ). runs (n - m) f ++ piece_text net w h j) last
      ∙ sym (runs_suc (n - m) f)
      ∙ ap (λ (j : ℕ). runs j f) more

  -- from one piece up to another, and from there on
  pieces_join : (l m n : ℕ) → l ≤ m → m ≤ n → pieces_text net w h l m ++ pieces_text net w h m n ≡ pieces_text net w h l n
  unfolding pieces_text
  pieces_join l m n a b =
      let f : ℕ → List ℕ = λ i. piece_text net w h (l + i) in
      let on : (i : ℕ) → m + i ≡ l + (m - l + i) = λ i. omega arith in
      let all : m - l + (n - m) ≡ n - l = omega arith in
      ap (λ (g : ℕ → List ℕ). runs (m - l) f ++ runs (n - m) g) (λ t i. piece_text net w h (on i t))
      ∙ sym (runs_add (m - l) (n - m) f)
      ∙ ap (λ (j : ℕ). runs j f) all

  -- from the first on
  pieces_first : (n : ℕ) → pieces_text net w h 0 n ≡ runs n (piece_text net w h)
  unfolding pieces_text
  pieces_first n =
      let all : n - 0 ≡ n = omega arith in
      λ t. runs (all t) (λ i. piece_text net w h (zero-add i t))

pub pieces_in_parts : PiecesInParts
pieces_in_parts net w h = (pieces_join net w h, pieces_first net w h (1 + w * h) ∙ pieces_list net w h)

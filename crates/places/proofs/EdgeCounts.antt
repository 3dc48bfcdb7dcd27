-- At c times the edge count, c above 0, c times the place is the same place of the net: the same triangle is chosen for
-- it, each share is c times as much, and so their order is the same; the one is of the grid where the other is, and
-- they lie in the same triangles. This holds at every edge count, also at 0: a quotient by 0 is 0.
use mathlib.Core.Path.{◌≡◌, refl, ◌∙◌}
use mathlib.Core.Bool.{Bool, true, false, cond}
use mathlib.Core.Logic.{◌↔◌}
use Prim.Native.Nat.{ℕ, ◌*◌, ◌≤◌, ◌<◌}
use native.Mathlib.Nat.{mul-add, mul-sub, mul_assoc, mul-div-mul_left, mul-le-mul_left, mul-lt-mul_of_pos_left, le_of_mul-le-mul_left}
use native.Mathlib.Omega.{arith}
use lib.Dec.{leb, ltb}
use borrow.Author.Tests.{ltb-true, ltb-false, leb-true, leb-false, lt-ltb, le-ltb, le-leb, lt-leb}
use Rattle.net.specs.Net.{Index, one, two, three, Triangle}
use Rattle.places.specs.Places.{OnGrid, rest, up_share, down_share, is_down, share_in, chosen, share, order_of, LiesIn, LiesBy}

-- a test that holds where another does, and fails where that fails
same_test : (s : Bool) {t : Bool} → (s ≡ true → t ≡ true) → (s ≡ false → t ≡ false) → t ≡ s
same_test true f g = f refl
same_test false f g = g refl

module _ (c : ℕ) (k : 0 < c) where
  -- ---- numbers compare as c times the numbers do

  ltb_scaled : (m n : ℕ) → ltb (c * m) (c * n) ≡ ltb m n
  ltb_scaled m n =
      same_test (ltb m n)
      (λ e. lt-ltb (c * m) (c * n) (mul-lt-mul_of_pos_left (ltb-true m n e) k))
      (λ e. le-ltb (c * m) (c * n) (mul-le-mul_left c (ltb-false m n e)))

  leb_scaled : (m n : ℕ) → leb (c * m) (c * n) ≡ leb m n
  leb_scaled m n =
      same_test (leb m n)
      (λ e. le-leb (c * m) (c * n) (mul-le-mul_left c (leb-true m n e)))
      (λ e. lt-leb (c * m) (c * n) (mul-lt-mul_of_pos_left (leb-false m n e) k))

  -- ---- the chosen triangle, the shares and their order

  pub chosen_scaled : (D w h p q : ℕ) → chosen (c * D) w h (c * p) (c * q) ≡ chosen D w h p q
  chosen_scaled D w h p q = simp (mul-div-mul_left, mul_assoc, ← mul-sub, ← mul-add, ltb_scaled)

  rest_scaled : (D n p : ℕ) → rest (c * D) n (c * p) ≡ c * rest D n p
  rest_scaled D n p = simp (mul-div-mul_left, mul_assoc, mul-sub)

  in_cell_scaled : (D f g : ℕ) (P : Index) → share_in (c * D) (c * f) (c * g) P ≡ c * share_in D f g P
  in_cell_scaled D f g P = rw (← mul-add c f g, ltb_scaled) (by (is_down D f g) P)
    where
      by : (down : Bool) (P : Index) →
          (cond down (down_share (c * D) (c * f) (c * g)) (up_share (c * D) (c * f) (c * g))) P
          ≡ c * (cond down (down_share D f g) (up_share D f g)) P
      by true one = simp mul-sub
      by true two = simp mul-sub
      by true three = simp (mul-sub, mul-add)
      by false one = simp mul-sub
      by false two = refl
      by false three = refl

  pub share_scaled : (D w h p q : ℕ) (P : Index) → share (c * D) w h (c * p) (c * q) P ≡ c * share D w h p q P
  share_scaled D w h p q P =
      (λ t. share_in (c * D) (rest_scaled D w p t) (rest_scaled D h q t) P)
      ∙ in_cell_scaled D (rest D w p) (rest D h q) P

  pub order_scaled : (a : Index → ℕ) → order_of (λ P. c * a P) ≡ order_of a
  order_scaled a = simp leb_scaled

  -- ---- where a place lies; `omega` multiplies out

  times : {m n : ℕ} → m ≤ n → c * m ≤ c * n
  times l = mul-le-mul_left c l

  once : {m n : ℕ} → c * m ≤ c * n → m ≤ n
  once l = le_of_mul-le-mul_left l k

  pub on_grid_scaled : (D w h p q : ℕ) → OnGrid D w h p q ↔ OnGrid (c * D) w h (c * p) (c * q)
  on_grid_scaled D w h p q = (
    (λ g. (omega (arith, times g.0), omega (arith, times g.1))),
    (λ g. (once (omega arith), once (omega arith))),
  )

  pub lies_scaled : (D p q : ℕ) (t : Triangle) → LiesIn D p q t ↔ LiesIn (c * D) (c * p) (c * q) t
  lies_scaled D p q t = by t.down t.column t.row
    where
      by : (down : Bool) (i j : ℕ) → LiesBy down D p q i j ↔ LiesBy down (c * D) (c * p) (c * q) i j
      by false i j = (
        (λ l. (omega (arith, times l.0), omega (arith, times l.1), omega (arith, times l.2))),
        (λ l. (once (omega arith), once (omega arith), once (omega arith))),
      )
      by true i j = (
        (λ l. (omega (arith, times l.0), omega (arith, times l.1), omega (arith, times l.2))),
        (λ l. (once (omega arith), once (omega arith), once (omega arith))),
      )

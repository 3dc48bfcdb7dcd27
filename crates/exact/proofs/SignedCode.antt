-- The needs of signed code. A signed local is its bits, so a need about `a * b + c` reads each operand back from its
-- bits, a layer `to_z w (of_z w ..)` for each operation. An expression over leaves has the readings that such needs show:
-- the bits that the code holds (`held`) and the exact value. `operation_fits L o a b tt` proves that an operation's
-- result fits, and `reads_exact L e tt` that what is held reads as the exact value. A leaf is made by `of_number`,
-- `of_bits`, `of_narrow` or `of_unsigned`. A signed test is read by `less_taken` and its like.
use mathlib.Core.Path.{◌≡◌, sym, ◌∙◌, ap, subst, subst₂}
use mathlib.Core.List.{List, [], ◌∷◌, map}
use mathlib.Core.Bool.{Bool, true, false, not, ◌&&◌}
use Prim.Native.Nat.{ℕ, zero, suc, ◌^◌, ◌≤◌, ◌<◌}
use native.Mathlib.Nat.{lt_of_le_of_lt, le_refl}
use lib.Dec.{T, ltb, leb, ltb→lt, lt→ltb, nleb→lt}
use lib.Signed.{mag, lt_z, le_z, ◌≤ℤ◌, ◌<ℤ◌, lt_z_yes, lt_z_no, le_z_yes}
use lib.ListN.{get_or}
use lib.Pow.{pow_pos}
use lib.IntN.{ℤ, pos, negsuc, nat_abs}
use mir.Syntax.{Width}
use mir.Val.{SFits, hbits, to_z, of_z}
use mir.Facts.{to_z-of_z, to_z_pos, sfits_widen, and_yes}
use Rattle.exact.proofs.Expressions.{Op, Expr, var, lit, op, apply, value}
use Rattle.exact.proofs.Sizes.{bound, Sized, value_bound, fits_of_size}

-- ---- what a signed test says where it was taken, and where it was left

pub less_taken : (a b : ℤ) → lt_z a b ≡ true → a <ℤ b
less_taken a b e = lt_z_yes (subst T (sym e) tt)

pub less_left : (a b : ℤ) → lt_z a b ≡ false → b ≤ℤ a
less_left a b e = lt_z_no {a = a} {b = b} (subst (λ (t : Bool). T (not t)) (sym e) tt)

pub at_most_taken : (a b : ℤ) → le_z a b ≡ true → a ≤ℤ b
at_most_taken a b e = le_z_yes (subst T (sym e) tt)

pub at_most_left : (a b : ℤ) → le_z a b ≡ false → b <ℤ a
at_most_left a b e = record { lt = go a b (subst (λ (t : Bool). T (not t)) (sym e) tt) }
  where
    go : (a b : ℤ) → T (not (le_z a b)) → T (lt_z b a)
    go (pos a) (pos b) t = lt→ltb b a (nleb→lt a b t)
    go (pos a) (negsuc b) t = tt
    go (negsuc a) (pos b) t = absurd t
    go (negsuc a) (negsuc b) t = lt→ltb a b (nleb→lt b a t)

-- ---- a number that was read from a slice or an array, out of the bits that hold it; what a read gives is the bound

pub reads_back : (w : Width) (z : ℤ) → mag z < 2 ^ hbits w → to_z w (of_z w z) ≡ z
reads_back w z h = to_z-of_z {w = w} {z = z} (record { sfits = h })

-- the same of a number with an equation, as what a call gave
pub reads_as : (w : Width) (z : ℤ) {y : ℤ} → mag z < 2 ^ hbits w → z ≡ y → to_z w (of_z w z) ≡ y
reads_as w z h e = reads_back w z h ∙ e

-- what a call gave of two numbers that were read
pub reads_both : (w : Width) (f : ℤ → ℤ → ℤ) (r a b : ℤ) → mag r < 2 ^ hbits w → mag a < 2 ^ hbits w →
    mag b < 2 ^ hbits w → r ≡ f (to_z w (of_z w a)) (to_z w (of_z w b)) →
    to_z w (of_z w r) ≡ f a b
reads_both w f r a b g h k e = reads_as w r g (e ∙ (λ t. f (reads_back w a h t) (reads_back w b k t)))

-- the size of a number that was read
pub read_size_lem : (w : Width) (z : ℤ) {n : ℕ} → mag z < 2 ^ hbits w → nat_abs z ≤ n → nat_abs (to_z w (of_z w z)) ≤ n
read_size_lem w z {n} h k = subst (λ (y : ℤ). nat_abs y ≤ n) (sym (reads_back w z h)) k

-- ---- leaves: the bits held, what they stand for, and a bound for its size

pub record Leaf (w : Width) : Type 0 where
  pub held_bits : ℕ
  pub exact : ℤ
  pub size : ℕ
  pub reads : to_z w held_bits ≡ exact
  pub within : nat_abs exact ≤ size

-- a parameter, or a number that was read from a slice or an array
abbrev pub of_number : {w : Width} {n : ℕ} (z : ℤ) → SFits w z → nat_abs z ≤ n → Leaf w
of_number {w} {n} z f h = record { held_bits = of_z w z; exact = z; size = n; reads = to_z-of_z f; within = h }

-- a variable of a loop, or what a call gave: its bits, with the equation that says what they stand for
abbrev pub of_bits : {w : Width} {n : ℕ} {z : ℤ} (b : ℕ) → to_z w b ≡ z → nat_abs z ≤ n → Leaf w
of_bits {w} {n} {z} b e h = record { held_bits = b; exact = z; size = n; reads = e; within = h }

-- a signed number of width v cast to w
abbrev pub of_narrow : {v w : Width} {n : ℕ} (z : ℤ) → SFits v z → T (leb (hbits v) (hbits w)) → nat_abs z ≤ n → Leaf w
of_narrow {v} {w} {n} z f t h =
    record {
      held_bits = of_z w (to_z v (of_z v z));
      exact = z;
      size = n;
      reads = ap (λ (x : ℤ). to_z w (of_z w x)) (to_z-of_z f) ∙ to_z-of_z (sfits_widen t f);
      within = h;
    }

-- an unsigned number cast to a signed width that holds it
abbrev pub of_unsigned : {w : Width} {n : ℕ} (m : ℕ) → m ≤ n → T (ltb n (2 ^ hbits w)) → Leaf w
of_unsigned {w} {n} m h t =
    record { held_bits = m; exact = pos m; size = n; reads = to_z_pos w (lt_of_le_of_lt h (ltb→lt n (2 ^ hbits w) t)); within = h }

-- ---- the readings

module _ {w : Width} (L : List (Leaf w)) where
  abbrev pub exacts : List ℤ
  exacts = map (λ (l : Leaf w). l.exact) L

  abbrev pub sizes : List ℕ
  sizes = map (λ (l : Leaf w). l.size) L

  -- the bits that the code holds
  abbrev pub held : Expr → ℕ
  held (var i) = get_or (map (λ (l : Leaf w). l.held_bits) L) i 0
  held (lit z) = of_z w z
  held (op o a b) = of_z w (apply o (to_z w (held a)) (to_z w (held b)))

  -- no literal and no operation leaves the width
  abbrev pub stays : Expr → Bool
  stays (var i) = true
  stays (lit z) = ltb (nat_abs z) (2 ^ hbits w)
  stays (op o a b) = (stays a && stays b) && ltb (bound sizes (op o a b)) (2 ^ hbits w)

  leaves_sized : (K : List (Leaf w)) → Sized (map (λ (l : Leaf w). l.exact) K) (map (λ (l : Leaf w). l.size) K)
  leaves_sized [] = tt
  leaves_sized (l ∷ K) = (l.within, leaves_sized K)

  leaf_reads : (K : List (Leaf w)) (i : ℕ) →
      to_z w (get_or (map (λ (l : Leaf w). l.held_bits) K) i 0) ≡ get_or (map (λ (l : Leaf w). l.exact) K) i (pos 0)
  leaf_reads [] i = to_z_pos w (pow_pos (hbits w))
  leaf_reads (l ∷ K) zero = l.reads
  leaf_reads (l ∷ K) (suc i) = leaf_reads K i

  pub exact_bound : (e : Expr) → nat_abs (value exacts e) ≤ bound sizes e
  exact_bound e = value_bound exacts sizes e (leaves_sized L)

  -- the operands are exact, so what is asked is the exact value, which the bound keeps within the width
  operation : (o : Op) (a b : Expr) → to_z w (held a) ≡ value exacts a → to_z w (held b) ≡ value exacts b →
      T (ltb (bound sizes (op o a b)) (2 ^ hbits w)) → SFits w (apply o (to_z w (held a)) (to_z w (held b)))
  operation o a b p q t =
      subst₂ (λ (x y : ℤ). SFits w (apply o x y)) (sym p) (sym q) (fits_of_size (exact_bound (op o a b)) t)

  stays_parts : (o : Op) (a b : Expr) → T (stays (op o a b)) →
      T (stays a) × T (stays b) × T (ltb (bound sizes (op o a b)) (2 ^ hbits w))
  stays_parts o a b t =
      let s = and_yes (stays a && stays b) (ltb (bound sizes (op o a b)) (2 ^ hbits w)) t in
      let u = and_yes (stays a) (stays b) s.0 in
      (u.0, u.1, s.1)

  -- what is held is the exact value
  pub reads_exact : (e : Expr) → T (stays e) → to_z w (held e) ≡ value exacts e
  reads_exact (var i) t = leaf_reads L i
  reads_exact (lit z) t = to_z-of_z (fits_of_size (le_refl (nat_abs z)) t)
  reads_exact (op o a b) t =
      let s = stays_parts o a b t in
      let p = reads_exact a s.0 in
      let q = reads_exact b s.1 in
      to_z-of_z (operation o a b p q s.2)
      ∙ ap (λ (x : ℤ). apply o x (to_z w (held b))) p
      ∙ ap (λ (x : ℤ). apply o (value exacts a) x) q

  -- what an operation is asked to fit, fits
  pub operation_fits : (o : Op) (a b : Expr) → T (stays (op o a b)) →
      SFits w (apply o (to_z w (held a)) (to_z w (held b)))
  operation_fits o a b t =
      let s = stays_parts o a b t in
      operation o a b (reads_exact a s.0) (reads_exact b s.1) s.2

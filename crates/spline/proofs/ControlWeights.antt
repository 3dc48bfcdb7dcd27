-- The exact value of document 01's formula is a weighted sum of the nine control values, and the weights are the same
-- in every order of the shares that goes down. They are not negative, sum to 36·D², and those of a corner with share 0
-- are 0.
use mathlib.Core.Path.{◌≡◌, refl, sym, ap, ◌∙◌}
use mathlib.Core.Bool.{Bool, true, false, cond}
use mathlib.Core.List.{List, [], ◌∷◌, ◌++◌, map}
use Prim.Native.Nat.{ℕ, ◌+◌, ◌-◌, ◌*◌, ◌≤◌}
use native.Mathlib.Nat.{mul-le-mul}
use native.Mathlib.Omega.{arith, sub_cases}
use lib.IntN.{ℤ, pos, ◌-ℤ◌, ◌*ℤ◌}
use lib.ListN.{get_or}
use lib.Signed.{◌≤ℤ◌}
use Rattle.exact.specs.WeightedSum.{weighted_sum, total}
use Rattle.exact.proofs.Parts.{integers}
use Rattle.exact.proofs.Linear.{expression_parts}
use Rattle.exact.proofs.Expressions.{Expr, var, lit, ◌⊕◌, ◌⊖◌, ◌⊗◌, value, identity}
use Rattle.exact.proofs.WeightedSumLaws.{NotNegative}
use Rattle.net.specs.Net.{Index, one, two, three, rank, next, previous, same}
use Rattle.places.specs.Places.{Order, o123, o132, o213, o231, o312, o321, corner_p, corner_q, corner_t}
use Rattle.places.specs.Located.{ahead_of}
use Rattle.triangles.specs.BezierPoints.{Controls, control_list, index_k, index_m}
use Rattle.triangles.proofs.CornerForm.{in_form, summed, s, u, v, r, m, z}
use Rattle.spline.specs.Spline.{quadratic, value_in}
use Rattle.spline.specs.Shares.{square, weight_k, weight_n, weight_m, weight_of, control_weights, Descending}
use Rattle.spline.specs.Promises.{WeightNotNegative, NoShareNoWeight}

-- ---- a sum over the corners in any order is the sum by corner

-- variables 0 to 8 are the weights and 9 to 17 the values, by corner and then c1 to c3
abbrev pub nine : ℕ → Index → Index → Expr
nine n P k = var (n + (3 * rank P + rank k))

abbrev in_order : Bool → Order → Expr
in_order down o = summed (in_form down (nine 0) o) (in_form down (nine 9) o)

abbrev by_corner : Expr
by_corner =
    summed (map var (0 ∷ 1 ∷ 2 ∷ 3 ∷ 4 ∷ 5 ∷ 6 ∷ 7 ∷ 8 ∷ [])) (map var (9 ∷ 10 ∷ 11 ∷ 12 ∷ 13 ∷ 14 ∷ 15 ∷ 16 ∷ 17 ∷ []))

reordered : (down : Bool) (o : Order) (W c : Controls) →
    weighted_sum (in_form down W o) (in_form down c o) ≡ weighted_sum (control_list W) (control_list c)
unfolding weighted_sum
reordered false o123 W c = identity (in_order false o123) by_corner (control_list W ++ control_list c) refl
reordered false o132 W c = identity (in_order false o132) by_corner (control_list W ++ control_list c) refl
reordered false o213 W c = identity (in_order false o213) by_corner (control_list W ++ control_list c) refl
reordered false o231 W c = identity (in_order false o231) by_corner (control_list W ++ control_list c) refl
reordered false o312 W c = identity (in_order false o312) by_corner (control_list W ++ control_list c) refl
reordered false o321 W c = identity (in_order false o321) by_corner (control_list W ++ control_list c) refl
reordered true o123 W c = identity (in_order true o123) by_corner (control_list W ++ control_list c) refl
reordered true o132 W c = identity (in_order true o132) by_corner (control_list W ++ control_list c) refl
reordered true o213 W c = identity (in_order true o213) by_corner (control_list W ++ control_list c) refl
reordered true o231 W c = identity (in_order true o231) by_corner (control_list W ++ control_list c) refl
reordered true o312 W c = identity (in_order true o312) by_corner (control_list W ++ control_list c) refl
reordered true o321 W c = identity (in_order true o321) by_corner (control_list W ++ control_list c) refl

-- ---- the weights in an order, through the squares of the shares and of the differences that are above 0

-- of ck, cn and cm of a corner: the square of its share, and of what it has more than P + ek and than P - em
abbrev of_corner : ℤ → ℤ → ℤ → List ℤ
of_corner s b d =
    (pos 12 *ℤ (pos 6 *ℤ s -ℤ pos 2 *ℤ d -ℤ pos 3 *ℤ b)) ∷ (pos 12 *ℤ (pos 3 *ℤ s -ℤ pos 2 *ℤ d)) ∷ (pos 12 *ℤ d) ∷ []

-- of P, Q and T: where Q is the next corner after P, and where it is the previous one
abbrev of_corners : Bool → (P Q T PQ PT QP QT TP TQ : ℤ) → List ℤ
of_corners true P Q T PQ PT QP QT TP TQ = of_corner P PQ PT ++ of_corner Q QT QP ++ of_corner T TP TQ
of_corners false P Q T PQ PT QP QT TP TQ = of_corner P PT PQ ++ of_corner Q QP QT ++ of_corner T TQ TP

abbrev of_shares : Bool → ℕ → ℕ → ℕ → List ℤ
of_shares ahead a b d =
    of_corners ahead (square a) (square b) (square d)
    (square (a - b)) (square (a - d)) (square (b - a)) (square (b - d)) (square (d - a)) (square (d - b))

weights_in_order : (down : Bool) (o : Order) (a : Index → ℕ) →
    in_form down (weight_of down a) o ≡ of_shares (ahead_of o) (a (corner_p o)) (a (corner_q o)) (a (corner_t o))
weights_in_order false o123 a = refl
weights_in_order false o132 a = refl
weights_in_order false o213 a = refl
weights_in_order false o231 a = refl
weights_in_order false o312 a = refl
weights_in_order false o321 a = refl
weights_in_order true o123 a = refl
weights_in_order true o132 a = refl
weights_in_order true o213 a = refl
weights_in_order true o231 a = refl
weights_in_order true o312 a = refl
weights_in_order true o321 a = refl

-- and as expressions, where variables 0, 1 and 2 are a - b, b - d and d
abbrev of_corner_e : Expr → Expr → Expr → List Expr
of_corner_e s b d =
    (lit (pos 12) ⊗ (lit (pos 6) ⊗ s ⊖ lit (pos 2) ⊗ d ⊖ lit (pos 3) ⊗ b))
    ∷ (lit (pos 12) ⊗ (lit (pos 3) ⊗ s ⊖ lit (pos 2) ⊗ d)) ∷ (lit (pos 12) ⊗ d) ∷ []

abbrev pub square_e : Expr → Expr
square_e e = e ⊗ e

abbrev in_gaps : Bool → List Expr
in_gaps true =
    of_corner_e (square_e (var 0 ⊕ var 1 ⊕ var 2)) (square_e (var 0)) (square_e (var 0 ⊕ var 1))
    ++ of_corner_e (square_e (var 1 ⊕ var 2)) (square_e (var 1)) (lit (pos 0))
    ++ of_corner_e (square_e (var 2)) (lit (pos 0)) (lit (pos 0))
in_gaps false =
    of_corner_e (square_e (var 0 ⊕ var 1 ⊕ var 2)) (square_e (var 0 ⊕ var 1)) (square_e (var 0))
    ++ of_corner_e (square_e (var 1 ⊕ var 2)) (lit (pos 0)) (square_e (var 1))
    ++ of_corner_e (square_e (var 2)) (lit (pos 0)) (lit (pos 0))

-- document 01's formula, with A = a - b, B = 2(b - d), G = 3d; variables 3 to 11 are the control values
abbrev quadratic_e : Bool → Index → Index → Expr
quadratic_e down P Q =
    (let A = var 0 in
    let B = lit (pos 2) ⊗ var 1 in
    let G = lit (pos 3) ⊗ var 2 in
    let c = nine 3 in
    A ⊗ A ⊗ s c P
    ⊕ lit (pos 2) ⊗ (A ⊗ B) ⊗ u c down P Q
    ⊕ lit (pos 2) ⊗ (A ⊗ G) ⊗ v c down P
    ⊕ B ⊗ B ⊗ r c down P Q
    ⊕ lit (pos 2) ⊗ (B ⊗ G) ⊗ m c down P Q
    ⊕ G ⊗ G ⊗ z c down)

abbrev gaps_e : Bool → Order → Expr
gaps_e down o = summed (in_gaps (ahead_of o)) (in_form down (nine 3) o)

gaps_value : (down : Bool) (c : Controls) (o : Order) (x y g : ℕ) →
    quadratic down c (corner_p o) (corner_q o) x (2 * y) (3 * g)
    ≡ weighted_sum (map (value (pos x ∷ pos y ∷ pos g ∷ [])) (in_gaps (ahead_of o))) (in_form down c o)
unfolding weighted_sum
gaps_value false c o123 x y g =
    identity (quadratic_e false (corner_p o123) (corner_q o123)) (gaps_e false o123) (pos x ∷ pos y ∷ pos g ∷ control_list c) refl
gaps_value false c o132 x y g =
    identity (quadratic_e false (corner_p o132) (corner_q o132)) (gaps_e false o132) (pos x ∷ pos y ∷ pos g ∷ control_list c) refl
gaps_value false c o213 x y g =
    identity (quadratic_e false (corner_p o213) (corner_q o213)) (gaps_e false o213) (pos x ∷ pos y ∷ pos g ∷ control_list c) refl
gaps_value false c o231 x y g =
    identity (quadratic_e false (corner_p o231) (corner_q o231)) (gaps_e false o231) (pos x ∷ pos y ∷ pos g ∷ control_list c) refl
gaps_value false c o312 x y g =
    identity (quadratic_e false (corner_p o312) (corner_q o312)) (gaps_e false o312) (pos x ∷ pos y ∷ pos g ∷ control_list c) refl
gaps_value false c o321 x y g =
    identity (quadratic_e false (corner_p o321) (corner_q o321)) (gaps_e false o321) (pos x ∷ pos y ∷ pos g ∷ control_list c) refl
gaps_value true c o123 x y g =
    identity (quadratic_e true (corner_p o123) (corner_q o123)) (gaps_e true o123) (pos x ∷ pos y ∷ pos g ∷ control_list c) refl
gaps_value true c o132 x y g =
    identity (quadratic_e true (corner_p o132) (corner_q o132)) (gaps_e true o132) (pos x ∷ pos y ∷ pos g ∷ control_list c) refl
gaps_value true c o213 x y g =
    identity (quadratic_e true (corner_p o213) (corner_q o213)) (gaps_e true o213) (pos x ∷ pos y ∷ pos g ∷ control_list c) refl
gaps_value true c o231 x y g =
    identity (quadratic_e true (corner_p o231) (corner_q o231)) (gaps_e true o231) (pos x ∷ pos y ∷ pos g ∷ control_list c) refl
gaps_value true c o312 x y g =
    identity (quadratic_e true (corner_p o312) (corner_q o312)) (gaps_e true o312) (pos x ∷ pos y ∷ pos g ∷ control_list c) refl
gaps_value true c o321 x y g =
    identity (quadratic_e true (corner_p o321) (corner_q o321)) (gaps_e true o321) (pos x ∷ pos y ∷ pos g ∷ control_list c) refl

in_gaps_lem : (ahead : Bool) (a b d : ℕ) → b ≤ a → d ≤ b →
    of_shares ahead a b d ≡ map (value (pos (a - b) ∷ pos (b - d) ∷ pos d ∷ [])) (in_gaps ahead)
in_gaps_lem ahead a b d h k = go ahead
  where
    all : a ≡ (a - b) + (b - d) + d
    all = omega (arith, h, k)

    last : b ≡ (b - d) + d
    last = omega (arith, k)

    both : a - d ≡ (a - b) + (b - d)
    both = omega (arith, h, k)

    none : (m n : ℕ) → m ≤ n → m - n ≡ 0
    none m n l = omega (arith, l)

    go : (ahead : Bool) → of_shares ahead a b d ≡ map (value (pos (a - b) ∷ pos (b - d) ∷ pos d ∷ [])) (in_gaps ahead)
    go true = λ t.
        of_corners true (square (all t)) (square (last t)) (square d)
        (square (a - b)) (square (both t)) (square (none b a h t)) (square (b - d))
        (square (none d a (omega (arith, h, k)) t)) (square (none d b k t))
    go false = λ t.
        of_corners false (square (all t)) (square (last t)) (square d)
        (square (a - b)) (square (both t)) (square (none b a h t)) (square (b - d))
        (square (none d a (omega (arith, h, k)) t)) (square (none d b k t))

-- ---- document 01's formula is the weighted sum, in every order that goes down

pub value_by_weights : (down : Bool) (c : Controls) (o : Order) (a : Index → ℕ) → Descending a o →
    value_in down c o a ≡ weighted_sum (control_weights down a) (control_list c)
value_by_weights down c o a h =
    gaps_value down c o (a (corner_p o) - a (corner_q o)) (a (corner_q o) - a (corner_t o)) (a (corner_t o))
    ∙ ap (λ (ws : List ℤ). weighted_sum ws (in_form down c o))
    (sym
    (weights_in_order down o a
    ∙ in_gaps_lem (ahead_of o) (a (corner_p o)) (a (corner_q o)) (a (corner_t o)) h.0 h.1))
    ∙ reordered down o (weight_of down a) c

-- ---- the weights sum to 36·D²

-- of two differences that are above 0, one way and the other, the squares sum to the square of the difference
pub other_way : (m n : ℕ) → square (n - m) ≡ (pos m -ℤ pos n) *ℤ (pos m -ℤ pos n) -ℤ square (m - n)
other_way m n = sub_cases m n (square (n - m) ≡ (pos m -ℤ pos n) *ℤ (pos m -ℤ pos n) -ℤ square (m - n)) above below
  where
    above : n ≤ m → m - n + n ≡ m → square (n - m) ≡ (pos m -ℤ pos n) *ℤ (pos m -ℤ pos n) -ℤ square (m - n)
    above l e =
        let none : n - m ≡ 0 = omega (arith, l) in
        ap square none
        ∙ identity (lit (pos 0)) (square_e (var 0 ⊕ var 1 ⊖ var 1) ⊖ square_e (var 0)) (pos (m - n) ∷ pos n ∷ []) refl
        ∙ (λ t. (pos (e t) -ℤ pos n) *ℤ (pos (e t) -ℤ pos n) -ℤ square (m - n))

    below : m ≤ n → m - n ≡ 0 → square (n - m) ≡ (pos m -ℤ pos n) *ℤ (pos m -ℤ pos n) -ℤ square (m - n)
    below l e =
        let whole : n - m + m ≡ n = omega (arith, l) in
        identity (square_e (var 0)) (square_e (var 1 ⊖ (var 0 ⊕ var 1)) ⊖ lit (pos 0)) (pos (n - m) ∷ pos m ∷ []) refl
        ∙ (λ t. (pos m -ℤ pos (whole t)) *ℤ (pos m -ℤ pos (whole t)) -ℤ square (sym e t))

-- the weights by the corners 1, 2 and 3, through three of the six squares of differences: of what the first has more
-- than the second and than the third, and the second more than the third
abbrev pub by_shares : (a b d : ℕ) (ab ad bd : ℤ) → List ℤ
by_shares a b d ab ad bd =
    of_corners true (square a) (square b) (square d) ab ad
    ((pos a -ℤ pos b) *ℤ (pos a -ℤ pos b) -ℤ ab) bd ((pos a -ℤ pos d) *ℤ (pos a -ℤ pos d) -ℤ ad)
    ((pos b -ℤ pos d) *ℤ (pos b -ℤ pos d) -ℤ bd)

abbrev pub by_shares_e : (a b d ab ad bd : Expr) → List Expr
by_shares_e a b d ab ad bd =
    of_corner_e (square_e a) ab ad
    ++ of_corner_e (square_e b) bd (square_e (a ⊖ b) ⊖ ab)
    ++ of_corner_e (square_e d) (square_e (a ⊖ d) ⊖ ad) (square_e (b ⊖ d) ⊖ bd)

pub by_shares_lem : (down : Bool) (a : Index → ℕ) (c : Controls) →
    weighted_sum (control_weights down a) (control_list c) ≡ weighted_sum
    (by_shares (a one) (a two) (a three) (square (a one - a two)) (square (a one - a three)) (square (a two - a three)))
    (in_form down c o123)
by_shares_lem down a c =
    let x = a one in
    let y = a two in
    let z = a three in
    sym (reordered down o123 (weight_of down a) c)
    ∙ ap (λ (ws : List ℤ). weighted_sum ws (in_form down c o123)) (weights_in_order down o123 a)
    ∙ (λ t. weighted_sum (of_corners true (square x) (square y) (square z)
    (square (x - y)) (square (x - z)) (other_way x y t) (square (y - z)) (other_way x z t) (other_way y z t))
    (in_form down c o123))

-- where every control value is 1
abbrev ones : Controls
ones P k = pos 1

total_by_ones : (W : Controls) → total (control_list W) ≡ weighted_sum (control_list W) (control_list ones)
unfolding total weighted_sum
total_by_ones W =
    identity
    (var 0 ⊕ (var 1 ⊕ (var 2 ⊕ (var 3 ⊕ (var 4 ⊕ (var 5 ⊕ (var 6 ⊕ (var 7 ⊕ (var 8 ⊕ lit (pos 0))))))))))
    (summed (map var (0 ∷ 1 ∷ 2 ∷ 3 ∷ 4 ∷ 5 ∷ 6 ∷ 7 ∷ 8 ∷ [])) (map lit (control_list ones))) (control_list W) refl

pub shares_total : (down : Bool) (a : Index → ℕ) (D : ℕ) → a one + a two + a three ≡ D →
    total (control_weights down a) ≡ pos (36 * (D * D))
unfolding weighted_sum
shares_total down a D e =
    let x = a one in
    let y = a two in
    let z = a three in
    total_by_ones (weight_of down a)
    ∙ by_shares_lem down a ones
    ∙ identity
    (summed (by_shares_e (var 0) (var 1) (var 2) (var 3) (var 4) (var 5)) (map lit (control_list ones)))
    (lit (pos 36) ⊗ square_e (var 0 ⊕ var 1 ⊕ var 2))
    (pos x ∷ pos y ∷ pos z ∷ square (x - y) ∷ square (x - z) ∷ square (y - z) ∷ []) refl
    ∙ (λ t. pos (36 * (e t * e t)))

-- ---- none is negative, and a corner with share 0 has none

weight_cases : (k m : Bool) (a b d : ℕ) (C : ℤ → Type 0) → C (weight_k a b d) → C (weight_m a b d) → C (weight_n a b d) →
    C ((cond k weight_k (cond m weight_m weight_n)) a b d)
weight_cases true m a b d C x y z = x
weight_cases false true a b d C x y z = y
weight_cases false false a b d C x y z = z

square_less : (a b : ℕ) → (a - b) * (a - b) ≤ a * a
square_less a b = let h : a - b ≤ a = omega arith in mul-le-mul h h

pub weight_not_negative : WeightNotNegative
weight_not_negative down a P l =
    let x = a P in
    let y = a (next P) in
    let z = a (previous P) in
    let ρ = square x ∷ square (x - y) ∷ square (x - z) ∷ [] in
    let es = of_corner_e (var 0) (var 1) (var 2) in
    let ly = square_less x y in
    let lz = square_less x z in
    weight_cases (same l (index_k down P)) (same l (index_m down P)) x y z (λ (w : ℤ). pos 0 ≤ℤ w)
    (omega (integers, ly, lz, expression_parts ρ (get_or es 0 (var 0))))
    (omega (integers, ly, lz, expression_parts ρ (get_or es 2 (var 0))))
    (omega (integers, ly, lz, expression_parts ρ (get_or es 1 (var 0))))

pub weights_not_negative : (down : Bool) (a : Index → ℕ) → NotNegative (control_weights down a)
weights_not_negative down a = (
  w one one,
  (
    w one two,
    (
      w one three,
      (w two one, (w two two, (w two three, (w three one, (w three two, (w three three, tt)))))),
    ),
  ),
)
  where
    w : (P l : Index) → pos 0 ≤ℤ weight_of down a P l
    w = weight_not_negative down a

pub no_share_no_weight : NoShareNoWeight
no_share_no_weight down a P l e =
    let y = a (next P) in
    let z = a (previous P) in
    (λ t. (cond (same l (index_k down P)) weight_k (cond (same l (index_m down P)) weight_m weight_n)) (e t) y z)
    ∙ weight_cases (same l (index_k down P)) (same l (index_m down P)) 0 y z (λ (w : ℤ). w ≡ pos 0)
    (λ t. pos 12 *ℤ (pos 6 *ℤ pos 0 -ℤ pos 2 *ℤ square (nothing z t) -ℤ pos 3 *ℤ square (nothing y t)))
    (λ t. pos 12 *ℤ square (nothing z t))
    (λ t. pos 12 *ℤ (pos 3 *ℤ pos 0 -ℤ pos 2 *ℤ square (nothing z t)))
  where
    nothing : (n : ℕ) → 0 - n ≡ 0
    nothing n = omega arith

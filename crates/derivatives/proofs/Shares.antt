-- The shares of a place near a vertex: at the vertex, and d along a step from it, in corner form.
use mathlib.Core.Path.{◌≡◌, refl}
use mathlib.Core.Bool.{Bool, true, false, cond}
use mathlib.Core.List.{List, [], ◌∷◌}
use Prim.Native.Nat.{ℕ, ◌+◌, ◌-◌, ◌*◌, ◌≤◌}
use native.Mathlib.Omega.{arith}
use lib.IntN.{ℤ, pos, negsuc, ◌+ℤ◌, ◌-ℤ◌, ◌*ℤ◌}
use Rattle.exact.proofs.Expressions.{Expr, var, lit, ◌⊕◌, ◌⊖◌, ◌⊗◌, identities}
use Rattle.exact.proofs.Linear.{expression_parts}
use Rattle.exact.proofs.Parts.{integers, difference_parts}
use Rattle.net.specs.Net.{Index, one, two, three, rank, next, previous, same, Triangle, triangle_at, corner_of, step_column, step_row}
use Rattle.places.specs.Places.{Order, o123, o132, o213, o231, o312, o321, corner_p, corner_q, corner_t, LiesBy, LiesIn}
use Rattle.places.specs.Located.{ahead_of}
use Rattle.triangles.specs.BezierPoints.{index_k, index_m, index_n}
use Rattle.spline.specs.Shares.{shares_by, shares_in}
use Rattle.derivatives.specs.Pieces.{signed_share, signed_shares}

-- ---- the corners Q and T of an order are the next corner after P and the previous one, or the other way round

pub in_order_lem : {A : Type 0} (o : Order) (s : Index → A) {y z : A} → s (next (corner_p o)) ≡ y →
    s (previous (corner_p o)) ≡ z →
    (s (corner_q o) ≡ cond (ahead_of o) y z) × (s (corner_t o) ≡ cond (ahead_of o) z y)
in_order_lem o123 s e f = (e, f)
in_order_lem o132 s e f = (f, e)
in_order_lem o213 s e f = (f, e)
in_order_lem o231 s e f = (e, f)
in_order_lem o312 s e f = (e, f)
in_order_lem o321 s e f = (f, e)

-- ---- at a corner

-- a corner lies in its triangle; it has the whole share, and the others have none
pub at_corner : (D i j : ℕ) (down : Bool) (P : Index) →
    (let v = corner_of down i j P in
    let s = shares_by down D (D * v.column - D * i) (D * v.row - D * j) in
    LiesBy down D (D * v.column) (D * v.row) i j × (s P ≡ D) × (s (next P) ≡ 0) × (s (previous P) ≡ 0))
at_corner D i j false one = ((omega arith, omega arith, omega arith), omega arith, omega arith, omega arith)
at_corner D i j false two = ((omega arith, omega arith, omega arith), omega arith, omega arith, omega arith)
at_corner D i j false three = ((omega arith, omega arith, omega arith), omega arith, omega arith, omega arith)
at_corner D i j true one = ((omega arith, omega arith, omega arith), omega arith, omega arith, omega arith)
at_corner D i j true two = ((omega arith, omega arith, omega arith), omega arith, omega arith, omega arith)
at_corner D i j true three = ((omega arith, omega arith, omega arith), omega arith, omega arith, omega arith)

-- ---- where a place lies in a triangle, its shares there are those of numbers of either sign

pub difference : (m n : ℕ) → n ≤ m → pos m -ℤ pos n ≡ pos (m - n)
difference m n h = omega (integers, difference_parts (pos m) (pos n))

abbrev share_e : Bool → Expr → Expr → Expr → Index → Expr
share_e false D f g one = D ⊖ f ⊖ g
share_e false D f g two = f
share_e false D f g three = g
share_e true D f g one = D ⊖ g
share_e true D f g two = D ⊖ f
share_e true D f g three = f ⊕ g ⊖ D

-- variables 0 to 4 are D, p, q, i and j
abbrev share_at : Bool → Index → Expr
share_at down = share_e down (var 0) (var 1 ⊖ var 0 ⊗ var 3) (var 2 ⊖ var 0 ⊗ var 4)

abbrev place : ℕ → ℕ → ℕ → ℕ → ℕ → List ℤ
place D p q i j = pos D ∷ pos p ∷ pos q ∷ pos i ∷ pos j ∷ []

pub signed_share_lem : (D p q : ℕ) (t : Triangle) → LiesIn D p q t → (Q : Index) →
    signed_shares t (pos D) (pos p) (pos q) Q ≡ pos (shares_in D p q t Q)
signed_share_lem D p q t l Q = by t.down t.column t.row l Q
  where
    by : (down : Bool) (i j : ℕ) → LiesBy down D p q i j → (Q : Index) →
        signed_share down (pos D) (pos p -ℤ pos D *ℤ pos i) (pos q -ℤ pos D *ℤ pos j) Q
        ≡ pos (shares_by down D (p - D * i) (q - D * j) Q)
    by false i j l one = omega (integers, l.0, l.1, l.2, expression_parts (place D p q i j) (share_at false one))
    by false i j l two = omega (integers, l.0, l.1, l.2, expression_parts (place D p q i j) (share_at false two))
    by false i j l three = omega (integers, l.0, l.1, l.2, expression_parts (place D p q i j) (share_at false three))
    by true i j l one = omega (integers, l.0, l.1, l.2, expression_parts (place D p q i j) (share_at true one))
    by true i j l two = omega (integers, l.0, l.1, l.2, expression_parts (place D p q i j) (share_at true two))
    by true i j l three = omega (integers, l.0, l.1, l.2, expression_parts (place D p q i j) (share_at true three))

-- ---- d along a step from a corner P

-- by how much the shares of the next corner, P + ek, and of the previous one, P - em, grow along el: along ek the first
-- by 1, along em the second by -1, and along en, which is -ek - em, both, the other way
abbrev pub to_next : Bool → Index → Index → ℤ
to_next down P l = cond (same l (index_k down P)) (pos 1) (cond (same l (index_m down P)) (pos 0) (negsuc 0))

abbrev pub to_previous : Bool → Index → Index → ℤ
to_previous down P l = cond (same l (index_k down P)) (pos 0) (cond (same l (index_m down P)) (negsuc 0) (pos 1))

-- variables 0 to 3 are D, d, i and j, and 4 to 6 the controls of P
abbrev column_e : Bool → Index → Expr
column_e false one = var 2
column_e false two = var 2 ⊕ lit (pos 1)
column_e false three = var 2
column_e true one = var 2 ⊕ lit (pos 1)
column_e true two = var 2
column_e true three = var 2 ⊕ lit (pos 1)

abbrev row_e : Bool → Index → Expr
row_e false one = var 3
row_e false two = var 3
row_e false three = var 3 ⊕ lit (pos 1)
row_e true one = var 3
row_e true two = var 3 ⊕ lit (pos 1)
row_e true three = var 3 ⊕ lit (pos 1)

abbrev control_e : Index → Expr
control_e l = var (4 + rank l)

abbrev sum_e : Expr
sum_e = control_e one ⊕ control_e two ⊕ control_e three

abbrev placed_e : Bool → Index → Index → List Expr
placed_e down P l =
    (let s =
    share_e down (var 0) (var 0 ⊗ column_e down P ⊕ var 1 ⊗ lit (step_column l) ⊖ var 0 ⊗ var 2)
    (var 0 ⊗ row_e down P ⊕ var 1 ⊗ lit (step_row l) ⊖ var 0 ⊗ var 3) in
    s P ∷ s (next P) ∷ s (previous P) ∷ sum_e ∷ (lit (pos 3) ⊗ control_e l ⊖ sum_e) ∷ [])

abbrev form_e : Bool → Index → Index → List Expr
form_e down P l =
    (let x = lit (to_next down P l) in
    let y = lit (to_previous down P l) in
    let k = control_e (index_k down P) in
    let m = control_e (index_m down P) in
    let sum = k ⊕ control_e (index_n down P) ⊕ m in
    (var 0 ⊖ x ⊗ var 1 ⊖ y ⊗ var 1) ∷ (x ⊗ var 1) ∷ (y ⊗ var 1) ∷ sum
    ∷ ((lit (pos 3) ⊗ k ⊖ sum) ⊗ x ⊖ (lit (pos 3) ⊗ m ⊖ sum) ⊗ y) ∷ [])

abbrev near : ℤ → ℤ → ℕ → ℕ → (Index → ℤ) → List ℤ
near D d i j c = D ∷ d ∷ pos i ∷ pos j ∷ c one ∷ c two ∷ c three ∷ []

-- the shares of P, of the next and of the previous corner; the sum of the controls of P, and 3cl less that sum
pub along_step : (i j : ℕ) (down : Bool) (P l : Index) (D d : ℤ) (c : Index → ℤ) →
    (let v = corner_of down i j P in
    let s =
    signed_shares (triangle_at i j down) D (D *ℤ pos v.column +ℤ d *ℤ step_column l)
    (D *ℤ pos v.row +ℤ d *ℤ step_row l) in
    let sum = c one +ℤ c two +ℤ c three in
    let x = to_next down P l in
    let y = to_previous down P l in
    let k = c (index_k down P) in
    let m = c (index_m down P) in
    let sum' = k +ℤ c (index_n down P) +ℤ m in
    s P ∷ s (next P) ∷ s (previous P) ∷ sum ∷ (pos 3 *ℤ c l -ℤ sum) ∷ []
    ≡ (D -ℤ x *ℤ d -ℤ y *ℤ d) ∷ (x *ℤ d) ∷ (y *ℤ d) ∷ sum'
    ∷ ((pos 3 *ℤ k -ℤ sum') *ℤ x -ℤ (pos 3 *ℤ m -ℤ sum') *ℤ y) ∷ [])
along_step i j false one one D d c = identities (placed_e false one one) (form_e false one one) (near D d i j c) refl
along_step i j false one two D d c = identities (placed_e false one two) (form_e false one two) (near D d i j c) refl
along_step i j false one three D d c = identities (placed_e false one three) (form_e false one three) (near D d i j c) refl
along_step i j false two one D d c = identities (placed_e false two one) (form_e false two one) (near D d i j c) refl
along_step i j false two two D d c = identities (placed_e false two two) (form_e false two two) (near D d i j c) refl
along_step i j false two three D d c = identities (placed_e false two three) (form_e false two three) (near D d i j c) refl
along_step i j false three one D d c = identities (placed_e false three one) (form_e false three one) (near D d i j c) refl
along_step i j false three two D d c = identities (placed_e false three two) (form_e false three two) (near D d i j c) refl
along_step i j false three three D d c = identities (placed_e false three three) (form_e false three three) (near D d i j c) refl
along_step i j true one one D d c = identities (placed_e true one one) (form_e true one one) (near D d i j c) refl
along_step i j true one two D d c = identities (placed_e true one two) (form_e true one two) (near D d i j c) refl
along_step i j true one three D d c = identities (placed_e true one three) (form_e true one three) (near D d i j c) refl
along_step i j true two one D d c = identities (placed_e true two one) (form_e true two one) (near D d i j c) refl
along_step i j true two two D d c = identities (placed_e true two two) (form_e true two two) (near D d i j c) refl
along_step i j true two three D d c = identities (placed_e true two three) (form_e true two three) (near D d i j c) refl
along_step i j true three one D d c = identities (placed_e true three one) (form_e true three one) (near D d i j c) refl
along_step i j true three two D d c = identities (placed_e true three two) (form_e true three two) (near D d i j c) refl
along_step i j true three three D d c = identities (placed_e true three three) (form_e true three three) (near D d i j c) refl

-- The six points of a small triangle are document 01's, and what bounds the nine values bounds them, times 36.
use mathlib.Core.Path.{refl}
use mathlib.Core.Bool.{Bool, true, false, not}
use mathlib.Core.List.{List, [], ◌∷◌}
use Prim.Native.Nat.{ℕ, ◌+◌, ◌*◌, ◌^◌, ◌≤◌}
use native.Mathlib.Nat.{le_trans}
use native.Mathlib.Omega.{arith}
use lib.IntN.{ℤ, pos, nat_abs}
use mir.Syntax.{w64}
use Rattle.exact.specs.WeightedSum.{Within}
use Rattle.exact.proofs.Expressions.{Expr, var, lit, ◌⊕◌, ◌⊗◌, value, identities}
use Rattle.exact.proofs.Sizes.{Sized, bound, value_bound, fits_of_size}
use Rattle.exact.proofs.SignedCode.{Leaf, of_number}
use Rattle.net.specs.Net.{Index, rank}
use Rattle.places.specs.Places.{Order, o123, o132, o213, o231, o312, o321, corner_p, corner_q, corner_t}
use Rattle.places.specs.Located.{ahead_of}
use Rattle.triangles.specs.BezierPoints.{control_list, index_k, index_n, index_m}
use Rattle.triangles.proofs.CornerForm.{s, u, v, r, m, z}
use Rattle.de_casteljau.specs.declared.points.Corner.{Corner}
use Rattle.de_casteljau.specs.Ordinates.{values_of, corner_s, corner_u, corner_v, ordinates, six}
use Rattle.de_casteljau.specs.Promises.{SixArePoints}

-- the six as expressions of ck, cn and cm of P, of Q and of T
abbrev pub u_e : Bool → Expr → Expr → Expr → Expr
u_e true k n m = lit (pos 4) ⊗ k ⊕ n ⊕ m
u_e false k n m = lit (pos 3) ⊗ (k ⊕ n)

abbrev pub v_e : Expr → Expr → Expr
v_e k n = lit (pos 2) ⊗ k ⊕ n

abbrev pub six_e : Bool → (pk pn pm qk qn qm tk tn : Expr) → List Expr
six_e ahead pk pn pm qk qn qm tk tn =
    (lit (pos 12) ⊗ (pk ⊕ pn ⊕ pm))
    ∷ (lit (pos 6) ⊗ u_e ahead pk pn pm)
    ∷ (lit (pos 12) ⊗ v_e pk pn)
    ∷ (lit (pos 3) ⊗ (u_e ahead pk pn pm ⊕ u_e (not ahead) qk qn qm))
    ∷ (lit (pos 6) ⊗ (v_e pk pn ⊕ v_e qk qn))
    ∷ (lit (pos 4) ⊗ (v_e pk pn ⊕ v_e qk qn ⊕ v_e tk tn))
    ∷ []

-- ---- they are document 01's points

-- variables 0 to 8 are the control values by corner and then c1 to c3
abbrev c : Index → Index → Expr
c P k = var (3 * rank P + rank k)

abbrev in_order : Bool → Order → List Expr
in_order down o =
    (let P = corner_p o in
    let Q = corner_q o in
    let T = corner_t o in
    six_e (ahead_of o) (c P (index_k down P)) (c P (index_n down P)) (c P (index_m down P))
    (c Q (index_k down Q)) (c Q (index_n down Q)) (c Q (index_m down Q)) (c T (index_k down T)) (c T (index_n down T)))

abbrev points : Bool → Order → List Expr
points down o =
    (let P = corner_p o in
    let Q = corner_q o in
    s c P ∷ u c down P Q ∷ v c down P ∷ r c down P Q ∷ m c down P Q ∷ z c down ∷ [])

pub six_are_points : SixArePoints
six_are_points false e o123 = identities (in_order false o123) (points false o123) (control_list e) refl
six_are_points false e o132 = identities (in_order false o132) (points false o132) (control_list e) refl
six_are_points false e o213 = identities (in_order false o213) (points false o213) (control_list e) refl
six_are_points false e o231 = identities (in_order false o231) (points false o231) (control_list e) refl
six_are_points false e o312 = identities (in_order false o312) (points false o312) (control_list e) refl
six_are_points false e o321 = identities (in_order false o321) (points false o321) (control_list e) refl
six_are_points true e o123 = identities (in_order true o123) (points true o123) (control_list e) refl
six_are_points true e o132 = identities (in_order true o132) (points true o132) (control_list e) refl
six_are_points true e o213 = identities (in_order true o213) (points true o213) (control_list e) refl
six_are_points true e o231 = identities (in_order true o231) (points true o231) (control_list e) refl
six_are_points true e o312 = identities (in_order true o312) (points true o312) (control_list e) refl
six_are_points true e o321 = identities (in_order true o321) (points true o321) (control_list e) refl

-- ---- sizes

-- 3s, 6u and 3v of a corner
corner_size : (n : ℕ) (c : Corner) (e : Expr) (k : ℕ) → Within n (values_of c) → bound (n ∷ n ∷ n ∷ []) e ≤ k →
    nat_abs (value (values_of c) e) ≤ k
corner_size n c e k h l = le_trans (value_bound (values_of c) (n ∷ n ∷ n ∷ []) e (h.0, (h.1.0, (h.1.1.0, tt)))) l

pub s_size : (n : ℕ) (c : Corner) → Within n (values_of c) → nat_abs (corner_s c) ≤ 3 * n
s_size n c h = corner_size n c (var 0 ⊕ var 1 ⊕ var 2) (3 * n) h (omega arith)

pub u_size : (n : ℕ) (ahead : Bool) (c : Corner) → Within n (values_of c) → nat_abs (corner_u ahead c) ≤ 6 * n
u_size n true c h = corner_size n c (u_e true (var 0) (var 1) (var 2)) (6 * n) h (omega arith)
u_size n false c h = corner_size n c (u_e false (var 0) (var 1) (var 2)) (6 * n) h (omega arith)

pub v_size : (n : ℕ) (c : Corner) → Within n (values_of c) → nat_abs (corner_v c) ≤ 3 * n
v_size n c h = corner_size n c (v_e (var 0) (var 1)) (3 * n) h (omega arith)

-- the six from 3s, 6u and 3v of P, 6u and 3v of Q and 3v of T, variables 0 to 5
abbrev pub b200 : Expr
b200 = lit (pos 12) ⊗ var 0

abbrev pub b110 : Expr
b110 = lit (pos 6) ⊗ var 1

abbrev pub b101 : Expr
b101 = lit (pos 12) ⊗ var 2

abbrev pub b020 : Expr
b020 = lit (pos 3) ⊗ (var 1 ⊕ var 3)

abbrev pub b011 : Expr
b011 = lit (pos 6) ⊗ (var 2 ⊕ var 4)

abbrev pub b002 : Expr
b002 = lit (pos 4) ⊗ (var 2 ⊕ var 4 ⊕ var 5)

-- a bound for each of the nine values, times 36, bounds the six
pub ordinates_within : (n : ℕ) (ahead : Bool) (p q t : Corner) → Within n (values_of p) → Within n (values_of q) →
    Within n (values_of t) → Within (36 * n) (six (ordinates ahead p q t))
ordinates_within n ahead p q t hp hq ht = (
  at b200 (omega arith),
  (
    at b110 (omega arith),
    (
      at b101 (omega arith),
      (at b020 (omega arith), (at b011 (omega arith), (at b002 (omega arith), tt))),
    ),
  ),
)
  where
    ρ : List ℤ
    ρ = corner_s p ∷ corner_u ahead p ∷ corner_v p ∷ corner_u (not ahead) q ∷ corner_v q ∷ corner_v t ∷ []

    ns : List ℕ
    ns = 3 * n ∷ 6 * n ∷ 3 * n ∷ 6 * n ∷ 3 * n ∷ 3 * n ∷ []

    sized : Sized ρ ns
    sized = (
      s_size n p hp,
      (
        u_size n ahead p hp,
        (
          v_size n p hp,
          (u_size n (not ahead) q hq, (v_size n q hq, (v_size n t ht, tt))),
        ),
      ),
    )

    at : (e : Expr) → bound ns e ≤ 36 * n → nat_abs (value ρ e) ≤ 36 * n
    at e l = le_trans (value_bound ρ ns e sized) l

-- ---- what the code holds of a corner: ck, cn, cm as variables 0, 1 and 2

abbrev pub held_corner : (c : Corner) → Within (2 ^ 32) (values_of c) → List (Leaf w64)
held_corner c h =
    of_number c.k (fits_of_size h.0 tt) h.0
    ∷ of_number c.n (fits_of_size h.1.0 tt) h.1.0
    ∷ of_number c.m (fits_of_size h.1.1.0 tt) h.1.1.0
    ∷ []

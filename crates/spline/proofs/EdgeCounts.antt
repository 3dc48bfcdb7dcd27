-- At c times the edge count the exact value is c² times as much: the same triangle is chosen, the shares are c times as
-- much and in the same order, and document 01's formula is of degree two in them.
use mathlib.Core.Path.{◌≡◌, refl, sym, ◌∙◌}
use mathlib.Core.Bool.{Bool}
use mathlib.Core.List.{[], ◌∷◌}
use Prim.Native.Nat.{ℕ, ◌-◌, ◌*◌}
use native.Mathlib.Nat.{mul-sub}
use lib.IntN.{pos, ◌*ℤ◌}
use Rattle.exact.proofs.Expressions.{Expr, var, lit, ◌⊕◌, ◌⊗◌, identity}
use Rattle.net.specs.Net.{Index}
use Rattle.places.specs.Places.{Order, corner_p, corner_q, corner_t, chosen, share, order_of}
use Rattle.places.proofs.EdgeCounts.{chosen_scaled, share_scaled, order_scaled}
use Rattle.triangles.specs.BezierPoints.{Controls, controls_of, point_s, point_u, point_v, point_r, point_m, point_z}
use Rattle.spline.specs.Spline.{quadratic, value_in, spline}
use Rattle.spline.specs.Promises.{EdgeCounts}

-- document 01's formula; variables 4 to 9 are its six points
abbrev quadratic_e : Expr → Expr → Expr → Expr
quadratic_e A B G =
    A ⊗ A ⊗ var 4
    ⊕ lit (pos 2) ⊗ (A ⊗ B) ⊗ var 5
    ⊕ lit (pos 2) ⊗ (A ⊗ G) ⊗ var 6
    ⊕ B ⊗ B ⊗ var 7
    ⊕ lit (pos 2) ⊗ (B ⊗ G) ⊗ var 8
    ⊕ G ⊗ G ⊗ var 9

-- variable 0 is c, and with A = a - b, B = 2(b - d), G = 3d variables 1, 2 and 3 are a - b, b - d and d
value_scaled : (c : ℕ) (down : Bool) (v : Controls) (o : Order) (a : Index → ℕ) →
    value_in down v o (λ P. c * a P) ≡ pos (c * c) *ℤ value_in down v o a
value_scaled c down v o a =
    let P = corner_p o in
    let Q = corner_q o in
    let T = corner_t o in
    let gap : (m n : Index) → c * a m - c * a n ≡ c * (a m - a n) = λ m n. sym (mul-sub c (a m) (a n)) in
    (λ t. quadratic down v P Q (gap P Q t) (2 * gap Q T t) (3 * (c * a T)))
    ∙ identity
    (quadratic_e (var 0 ⊗ var 1) (lit (pos 2) ⊗ (var 0 ⊗ var 2)) (lit (pos 3) ⊗ (var 0 ⊗ var 3)))
    (var 0 ⊗ var 0 ⊗ quadratic_e (var 1) (lit (pos 2) ⊗ var 2) (lit (pos 3) ⊗ var 3))
    (pos c ∷ pos (a P - a Q) ∷ pos (a Q - a T) ∷ pos (a T)
    ∷ point_s v P ∷ point_u down v P Q ∷ point_v down v P ∷ point_r down v P Q ∷ point_m down v P Q ∷ point_z down v ∷ [])
    refl

pub edge_counts : EdgeCounts
unfolding spline
edge_counts F w h D p q c k =
    let a = share D w h p q in
    let same = chosen_scaled c k D w h p q in
    let shares = share_scaled c k D w h p q in
    let order : order_of (share (c * D) w h (c * p) (c * q)) ≡ order_of a =
    (λ t. order_of (λ P. shares P t)) ∙ order_scaled c k a in
    (λ t. value_in (same t).down (controls_of F (same t)) (order t) (λ P. shares P t))
    ∙ value_scaled c (chosen D w h p q).down (controls_of F (chosen D w h p q)) (order_of a) a

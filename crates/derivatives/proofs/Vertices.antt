-- The pieces that meet a vertex are those of the exact spline; their value and their derivatives there, from the
-- controls of the vertex alone; and that each vertex has one.
use mathlib.Core.Path.{◌≡◌, refl, sym, subst, ◌∙◌}
use mathlib.Core.Bool.{Bool, true, false, cond}
use mathlib.Core.List.{List, [], ◌∷◌}
use Prim.Native.Nat.{ℕ, ◌+◌, ◌-◌, ◌*◌, ◌≤◌, ◌<◌}
use native.Mathlib.Decide.{dec_lt}
use native.Mathlib.Omega.{arith}
use lib.IntN.{ℤ, pos, negsuc, ◌+ℤ◌, ◌-ℤ◌, ◌*ℤ◌}
use lib.ListN.{get_or}
use Rattle.exact.proofs.Expressions.{Expr, var, lit, ◌⊕◌, ◌⊖◌, ◌⊗◌, value, identity}
use Rattle.exact.proofs.Linear.{expression_parts}
use Rattle.exact.proofs.Parts.{integers, product_parts}
use Rattle.net.specs.Net.{Index, one, two, three, Vertex, vertex_at, Triangle, triangle_at, corner, step_column, step_row, Field}
use Rattle.places.specs.Places.{Order, o123, o213, o312, corner_p, corner_q, corner_t, gap_a, gap_b, gap_g}
use Rattle.places.specs.Located.{ahead_of}
use Rattle.triangles.specs.BezierPoints.{Controls, controls_of, point_u, point_v, point_r, point_m, point_z}
use Rattle.de_casteljau.specs.declared.points.Corner.{Corner}
use Rattle.de_casteljau.specs.declared.points.Ordinates.{Ordinates}
use Rattle.de_casteljau.specs.Ordinates.{ordinates}
use Rattle.de_casteljau.specs.Promises.{corner_in, ordinates_in}
use Rattle.de_casteljau.proofs.SmallTriangles.{six_e, six_are_points}
use Rattle.spline.specs.Spline.{quadratic, spline}
use Rattle.spline.specs.Shares.{shares_in}
use Rattle.spline.proofs.AnyTriangle.{any_triangle}
use Rattle.derivatives.specs.Pieces.{signed_shares, signed_quadratic, piece, Meets, Expansion}
use Rattle.derivatives.specs.Promises.{PieceOfSpline, ExpansionOnce, DerivativeOnce, control_sum, VertexExpansion, VertexMet, SplineAtVertex}
use Rattle.derivatives.proofs.Shares.{in_order_lem, at_corner, difference, signed_share_lem, to_next, to_previous, along_step}

-- ---- the pieces are the exact spline's

pub piece_of_spline : PieceOfSpline
unfolding piece
piece_of_spline F w h D p q t o d in_net lies down =
    let a = shares_in D p q t in
    let P = corner_p o in
    let Q = corner_q o in
    let T = corner_t o in
    let s = signed_share_lem D p q t lies in
    (λ i. signed_quadratic t.down (controls_of F t) P Q (s P i -ℤ s Q i) (pos 2 *ℤ (s Q i -ℤ s T i)) (pos 3 *ℤ s T i))
    ∙ (λ i. signed_quadratic t.down (controls_of F t) P Q (difference (a P) (a Q) down.0 i)
    (pos 2 *ℤ difference (a Q) (a T) down.1 i) (pos 3 *ℤ pos (a T)))
    ∙ any_triangle F w h D p q t o d in_net lies down

-- ---- an expansion has one first and one second coefficient

-- a + b·d + c·d², where variables 0, 1 and 2 are a, b and c
abbrev polynomial : ℤ → Expr
polynomial d = var 0 ⊗ lit (pos 1 *ℤ pos 1) ⊕ var 1 ⊗ lit (pos 1 *ℤ d) ⊕ var 2 ⊗ lit (d *ℤ d)

-- a is the value at d = 0, and b half the difference of those at 1 and -1
pub expansion_once : ExpansionOnce
expansion_once F t o v k a b a' b' e f =
    let ρ = a ∷ b ∷ e.second ∷ [] in
    let ρ' = a' ∷ b' ∷ f.second ∷ [] in
    let same : (d : ℤ) → value ρ (polynomial d) ≡ value ρ' (polynomial d) =
    λ d. sym (e.expanded (pos 1) d) ∙ f.expanded (pos 1) d in (
      omega (integers, same (pos 0), expression_parts ρ (polynomial (pos 0)), expression_parts ρ' (polynomial (pos 0))),
      omega (
        integers,
        same (pos 1),
        same (negsuc 0),
        expression_parts ρ (polynomial (pos 1)),
        expression_parts ρ' (polynomial (pos 1)),
        expression_parts ρ (polynomial (negsuc 0)),
        expression_parts ρ' (polynomial (negsuc 0)),
      ),
    )

pub derivative_once : DerivativeOnce
derivative_once F t o v k s s' e f =
    let once = expansion_once F t o v k e.value (pos 36 *ℤ s) f.value (pos 36 *ℤ s') e.expansion f.expansion in
    omega (integers, once.1, product_parts (pos 36) s, product_parts (pos 36) s')

-- ---- the expansion at a vertex, in corner form: once for Q the next corner after P, once for the previous one

-- the quadratic of the six points, at the shares x, y and z of P, Q and T
abbrev in_shares : Ordinates → ℤ → ℤ → ℤ → ℤ
in_shares b x y z =
    (let A = x -ℤ y in
    let B = pos 2 *ℤ (y -ℤ z) in
    let G = pos 3 *ℤ z in
    A *ℤ A *ℤ b.b200
    +ℤ pos 2 *ℤ (A *ℤ B) *ℤ b.b110
    +ℤ pos 2 *ℤ (A *ℤ G) *ℤ b.b101
    +ℤ B *ℤ B *ℤ b.b020
    +ℤ pos 2 *ℤ (B *ℤ G) *ℤ b.b011
    +ℤ G *ℤ G *ℤ b.b002)

piece_form : (down : Bool) (c : Controls) (o : Order) (x y z : ℤ) →
    signed_quadratic down c (corner_p o) (corner_q o) (x -ℤ y) (pos 2 *ℤ (y -ℤ z)) (pos 3 *ℤ z)
    ≡ in_shares (ordinates_in down c o) x y z
piece_form down c o x y z =
    (let A = x -ℤ y in
    let B = pos 2 *ℤ (y -ℤ z) in
    let G = pos 3 *ℤ z in
    λ t. let six = sym (six_are_points down c o) t in
    A *ℤ A *ℤ get_or six 0 (pos 0)
    +ℤ pos 2 *ℤ (A *ℤ B) *ℤ get_or six 1 (pos 0)
    +ℤ pos 2 *ℤ (A *ℤ G) *ℤ get_or six 2 (pos 0)
    +ℤ B *ℤ B *ℤ get_or six 3 (pos 0)
    +ℤ pos 2 *ℤ (B *ℤ G) *ℤ get_or six 4 (pos 0)
    +ℤ G *ℤ G *ℤ get_or six 5 (pos 0))

-- variables 0 to 3 are D, d and the growths x and y of the shares of the next and the previous corner, 4 to 12 the
-- controls ck, cn, cm of P, Q and T
abbrev six_of : Bool → List Expr
six_of ahead = six_e ahead (var 4) (var 5) (var 6) (var 7) (var 8) (var 9) (var 10) (var 11)

abbrev in_shares_e : Bool → Expr → Expr → Expr → Expr
in_shares_e ahead x y z =
    (let A = x ⊖ y in
    let B = lit (pos 2) ⊗ (y ⊖ z) in
    let G = lit (pos 3) ⊗ z in
    let at : ℕ → Expr = λ n. get_or (six_of ahead) n (lit (pos 0)) in
    A ⊗ A ⊗ at 0 ⊕ lit (pos 2) ⊗ (A ⊗ B) ⊗ at 1 ⊕ lit (pos 2) ⊗ (A ⊗ G) ⊗ at 2 ⊕ B ⊗ B ⊗ at 3
    ⊕ lit (pos 2) ⊗ (B ⊗ G) ⊗ at 4 ⊕ G ⊗ G ⊗ at 5)

abbrev along_e : Bool → Expr
along_e ahead =
    in_shares_e ahead (var 0 ⊖ var 2 ⊗ var 1 ⊖ var 3 ⊗ var 1) (cond ahead (var 2) (var 3) ⊗ var 1)
    (cond ahead (var 3) (var 2) ⊗ var 1)

abbrev second_e : Bool → Expr
second_e ahead =
    in_shares_e ahead (lit (pos 0) ⊖ var 2 ⊖ var 3) (cond ahead (var 2) (var 3)) (cond ahead (var 3) (var 2))

abbrev expanded_e : Bool → Expr
expanded_e ahead =
    (let sum = var 4 ⊕ var 5 ⊕ var 6 in
    lit (pos 12) ⊗ sum ⊗ (var 0 ⊗ var 0)
    ⊕ lit (pos 24) ⊗ ((lit (pos 3) ⊗ var 4 ⊖ sum) ⊗ var 2 ⊖ (lit (pos 3) ⊗ var 6 ⊖ sum) ⊗ var 3) ⊗ (var 0 ⊗ var 1)
    ⊕ second_e ahead ⊗ (var 1 ⊗ var 1))

abbrev values : ℤ → ℤ → ℤ → ℤ → (p q t : Corner) → List ℤ
values D d x y p q t =
    D ∷ d ∷ x ∷ y ∷ p.k ∷ p.n ∷ p.m ∷ q.k ∷ q.n ∷ q.m ∷ t.k ∷ t.n ∷ t.m ∷ []

-- the coefficient of d², from the growths of the shares
abbrev second_of : Bool → (p q t : Corner) → ℤ → ℤ → ℤ
second_of ahead p q t x y =
    in_shares (ordinates ahead p q t) (pos 0 -ℤ x -ℤ y) (cond ahead x y) (cond ahead y x)

corner_expansion : (ahead : Bool) (p q t : Corner) (D d x y : ℤ) →
    (let sum = p.k +ℤ p.n +ℤ p.m in
    in_shares (ordinates ahead p q t) (D -ℤ x *ℤ d -ℤ y *ℤ d) (cond ahead (x *ℤ d) (y *ℤ d)) (cond ahead (y *ℤ d) (x *ℤ d))
    ≡ pos 12 *ℤ sum *ℤ (D *ℤ D)
    +ℤ pos 24 *ℤ ((pos 3 *ℤ p.k -ℤ sum) *ℤ x -ℤ (pos 3 *ℤ p.m -ℤ sum) *ℤ y) *ℤ (D *ℤ d)
    +ℤ second_of ahead p q t x y *ℤ (d *ℤ d))
corner_expansion true p q t D d x y = identity (along_e true) (expanded_e true) (values D d x y p q t) refl
corner_expansion false p q t D d x y = identity (along_e false) (expanded_e false) (values D d x y p q t) refl

-- ---- the expansion at a vertex

-- at the corner P of a triangle
at_corner_P : (F : Field) (t : Triangle) (o : Order) (k : Index) →
    (let v = corner t (corner_p o) in
    Expansion F t o v k (pos 12 *ℤ control_sum F v) (pos 24 *ℤ (pos 3 *ℤ F v k -ℤ control_sum F v)))
unfolding piece
at_corner_P F t o k =
    let down = t.down in
    let c = controls_of F t in
    let P = corner_p o in
    let Q = corner_q o in
    let T = corner_t o in
    let x = to_next down P k in
    let y = to_previous down P k in
    let second = second_of (ahead_of o) (corner_in down c P) (corner_in down c Q) (corner_in down c T) x y in
    record {
      second = second;
      expanded = λ D d.
          let e = along_step t.column t.row down P k D d (c P) in
          let others = in_order_lem o (shares t P k D d) (λ i. get_or (e i) 1 (pos 0)) (λ i. get_or (e i) 2 (pos 0)) in
          (λ i. signed_quadratic down c P Q (get_or (e i) 0 (pos 0) -ℤ others.0 i) (pos 2 *ℤ (others.0 i -ℤ others.1 i))
          (pos 3 *ℤ others.1 i))
          ∙ piece_form down c o (D -ℤ x *ℤ d -ℤ y *ℤ d) (cond (ahead_of o) (x *ℤ d) (y *ℤ d))
          (cond (ahead_of o) (y *ℤ d) (x *ℤ d))
          ∙ corner_expansion (ahead_of o) (corner_in down c P) (corner_in down c Q) (corner_in down c T) D d x y
          ∙ (λ i. pos 12 *ℤ get_or (sym e i) 3 (pos 0) *ℤ (D *ℤ D) +ℤ pos 24 *ℤ get_or (sym e i) 4 (pos 0) *ℤ (D *ℤ d)
          +ℤ second *ℤ (d *ℤ d));
    }
  where
    -- the shares of the triangle's corners, d along ek from its corner P
    shares : Triangle → Index → Index → ℤ → ℤ → Index → ℤ
    shares t P k D d =
        signed_shares t D (D *ℤ pos (corner t P).column +ℤ d *ℤ step_column k) (D *ℤ pos (corner t P).row +ℤ d *ℤ step_row k)

pub vertex_expansion : VertexExpansion
vertex_expansion F v t o k e =
    subst (λ (u : Vertex). Expansion F t o u k (pos 12 *ℤ control_sum F u) (pos 24 *ℤ (pos 3 *ℤ F u k -ℤ control_sum F u)))
    e (at_corner_P F t o k)

-- ---- each vertex is met by a piece: in an up triangle, and the last one of the last row in a down triangle

pub vertex_met : VertexMet
vertex_met w h i j wide high a b = go (dec_lt (i + 1) w) (dec_lt (j + 1) h)
  where
    go : Dec (i + 1 < w) → Dec (j + 1 < h) → (t : Triangle) × (o : Order) × Meets w h (vertex_at i j) t o
    go (yes c) (yes d) =
        (triangle_at i j false, o123, record { in_net = (omega (arith, c), omega (arith, d)); at_p = refl })
    go (no c) (yes d) =
        let e : i - 1 + 1 ≡ i = omega (arith, c, wide) in
        (triangle_at (i - 1) j false, o213, record { in_net = (omega (arith, a, c, wide), omega (arith, d)); at_p = λ u. vertex_at (e u) j })
    go (yes c) (no d) =
        let f : j - 1 + 1 ≡ j = omega (arith, d, high) in
        (triangle_at i (j - 1) false, o312, record { in_net = (omega (arith, c), omega (arith, b, d, high)); at_p = λ u. vertex_at i (f u) })
    go (no c) (no d) =
        let e : i - 1 + 1 ≡ i = omega (arith, c, wide) in
        let f : j - 1 + 1 ≡ j = omega (arith, d, high) in
        (triangle_at (i - 1) (j - 1) true, o312, record { in_net = (omega (arith, a, c, wide), omega (arith, b, d, high)); at_p = λ u. vertex_at (e u) (f u) })

-- ---- the exact spline at a vertex: the vertex has the whole share in each triangle

whole_share : (down : Bool) (c : Controls) (P Q : Index) (D : ℕ) →
    quadratic down c P Q D 0 0 ≡ pos (12 * (D * D)) *ℤ (c P one +ℤ c P two +ℤ c P three)
whole_share down c P Q D =
    identity
    (var 0 ⊗ var 0 ⊗ (lit (pos 12) ⊗ (var 1 ⊕ var 2 ⊕ var 3)) ⊕ lit (pos 2) ⊗ (var 0 ⊗ lit (pos 0)) ⊗ var 4
    ⊕ lit (pos 2) ⊗ (var 0 ⊗ lit (pos 0)) ⊗ var 5 ⊕ lit (pos 0) ⊗ var 6 ⊕ lit (pos 0) ⊗ var 7 ⊕ lit (pos 0) ⊗ var 8)
    (lit (pos 12) ⊗ (var 0 ⊗ var 0) ⊗ (var 1 ⊕ var 2 ⊕ var 3))
    (pos D ∷ c P one ∷ c P two ∷ c P three ∷ point_u down c P Q ∷ point_v down c P ∷ point_r down c P Q
    ∷ point_m down c P Q ∷ point_z down c ∷ []) refl

either : (b : Bool) (n : ℕ) → cond b n n ≡ n
either true n = refl
either false n = refl

spline_at_corner : (F : Field) (w h D : ℕ) (t : Triangle) (o : Order) → 0 < D → (t.column + 2 ≤ w) × (t.row + 2 ≤ h) →
    (let v = corner t (corner_p o) in spline F w h D (D * v.column) (D * v.row) ≡ pos (12 * (D * D)) *ℤ control_sum F v)
spline_at_corner F w h D t o d in_net =
    let v = corner t (corner_p o) in
    let c = controls_of F t in
    let a = shares_in D (D * v.column) (D * v.row) t in
    let here = at_corner D t.column t.row t.down (corner_p o) in
    let others = in_order_lem o a here.2 here.3 in
    let second : a (corner_q o) ≡ 0 = others.0 ∙ either (ahead_of o) 0 in
    let last : a (corner_t o) ≡ 0 = others.1 ∙ either (ahead_of o) 0 in
    let A : gap_a o a ≡ D = omega (arith, here.1, second) in
    let B : gap_b o a ≡ 0 = omega (arith, second, last) in
    let G : gap_g o a ≡ 0 = omega (arith, last) in
    sym (any_triangle F w h D (D * v.column) (D * v.row) t o d in_net here.0 (omega (arith, second), omega (arith, last)))
    ∙ (λ i. quadratic t.down c (corner_p o) (corner_q o) (A i) (B i) (G i))
    ∙ whole_share t.down c (corner_p o) (corner_q o) D

pub spline_at_vertex : SplineAtVertex
spline_at_vertex F w h D i j d wide high a b =
    let met = vertex_met w h i j wide high a b in
    let m = met.2 in
    subst (λ (v : Vertex). spline F w h D (D * v.column) (D * v.row) ≡ pos (12 * (D * D)) *ℤ control_sum F v) m.at_p
    (spline_at_corner F w h D met.0 met.1 d m.in_net)

-- In every triangle that a place lies in, and in every order of its shares that goes down, document 01's formula gives
-- the same value: 12 times a sum over the vertices and edges of the whole grid, in which each vertex counts by its
-- share at the place.
use mathlib.Core.Path.{◌≡◌, refl, sym, ap, ◌∙◌}
use mathlib.Core.Bool.{Bool, true, false, cond}
use mathlib.Core.List.{List, [], ◌∷◌}
use mathlib.Core.Logic.{inl, inr}
use Prim.Native.Nat.{ℕ, ◌+◌, ◌-◌, ◌/◌, ◌≤◌, ◌<◌}
use native.Mathlib.Nat.{le_refl, mul-le-mul, mul-add, min-le_right}
use native.Mathlib.Omega.{arith}
use lib.IntN.{ℤ, pos, ◌+ℤ◌, ◌-ℤ◌, ◌*ℤ◌, +ℤ_idr, zero-*ℤ}
use Rattle.exact.specs.WeightedSum.{weighted_sum}
use Rattle.exact.proofs.Expressions.{Expr, var, lit, ◌⊕◌, ◌⊖◌, ◌⊗◌, identity}
use Rattle.net.specs.Net.{Index, one, two, three, next, vertex_at, Triangle, triangle_at, OfNet, Field}
use Rattle.places.specs.Places.{o123, OnGrid, rest, is_down, up_share, down_share, chosen, share, order_of}
use Rattle.places.proofs.Orders.{Sorted, in_order_lem}
use Rattle.places.proofs.Cells.{chosen_lies}
use Rattle.triangles.specs.BezierPoints.{Controls, controls_of, control_list, index_k}
use Rattle.triangles.proofs.CornerForm.{in_form, summed}
use Rattle.spline.specs.Spline.{spline}
use Rattle.spline.specs.Shares.{shares_by, shares_in, vertex_share, square, control_weights}
use Rattle.spline.specs.Promises.{AnyTriangle, SplineByWeights, WeightsTotal}
use Rattle.spline.proofs.ControlWeights.{nine, square_e, by_shares, by_shares_e, other_way, by_shares_lem, shares_total, value_by_weights}
use Rattle.spline.proofs.GridSums.{grid_sum, sum_cell}
use Rattle.spline.proofs.Located.{Located, located, in_cell_lem, corner_share, fourth_share, no_share}

-- ---- the terms of vertices and edges

-- a vertex of share a and controls x
abbrev vertex_term : ℕ → (Index → ℤ) → ℤ
vertex_term a x = square a *ℤ (x one +ℤ x two +ℤ x three)

-- an edge along ek, from a vertex of share a and controls x to one of share b and controls y
abbrev end_part : Index → (Index → ℤ) → ℤ
end_part k y = pos 2 *ℤ (y one +ℤ y two +ℤ y three) -ℤ pos 3 *ℤ y k

abbrev edge_term : Index → ℕ → ℕ → (Index → ℤ) → (Index → ℤ) → ℤ
edge_term k a b x y = (square a -ℤ square (a - b)) *ℤ (pos 3 *ℤ x k) +ℤ (square b -ℤ square (b - a)) *ℤ end_part k y

-- the corners of a triangle, and its edges from each corner to the next
abbrev corner_term : Bool → (Index → ℕ) → Controls → Index → ℤ
corner_term down s c P = vertex_term (s P) (c P) +ℤ edge_term (index_k down P) (s P) (s (next P)) (c P) (c (next P))

abbrev pub triangle_term : Bool → (Index → ℕ) → Controls → ℤ
triangle_term down s c = corner_term down s c one +ℤ corner_term down s c two +ℤ corner_term down s c three

-- the same with two of the squares of differences handed in
abbrev corner_with : Bool → (Index → ℕ) → Controls → Index → ℤ → ℤ → ℤ
corner_with down s c P ab ba =
    vertex_term (s P) (c P)
    +ℤ ((square (s P) -ℤ ab) *ℤ (pos 3 *ℤ c P (index_k down P)) +ℤ (square (s (next P)) -ℤ ba) *ℤ end_part (index_k down P)
    (c (next P)))

other_squares : (down : Bool) (s : Index → ℕ) (c : Controls) →
    triangle_term down s c
    ≡ corner_with down s c one (square (s one - s two))
    ((pos (s one) -ℤ pos (s two)) *ℤ (pos (s one) -ℤ pos (s two)) -ℤ square (s one - s two))
    +ℤ corner_with down s c two (square (s two - s three))
    ((pos (s two) -ℤ pos (s three)) *ℤ (pos (s two) -ℤ pos (s three)) -ℤ square (s two - s three))
    +ℤ corner_with down s c three
    ((pos (s one) -ℤ pos (s three)) *ℤ (pos (s one) -ℤ pos (s three)) -ℤ square (s one - s three))
    (square (s one - s three))
other_squares down s c = λ t.
    corner_with down s c one (square (s one - s two)) (other_way (s one) (s two) t)
    +ℤ corner_with down s c two (square (s two - s three)) (other_way (s two) (s three) t)
    +ℤ corner_with down s c three (other_way (s one) (s three) t) (square (s one - s three))

-- variables 0, 1 and 2 are the shares, 3, 4 and 5 the squares of differences, and 6 to 14 the control values
abbrev edge_e : Bool → Index → Expr → Expr → Expr → Expr → Index → Expr
edge_e down P a b ab ba Q =
    (square_e a ⊖ ab) ⊗ (lit (pos 3) ⊗ nine 6 P (index_k down P))
    ⊕ (square_e b ⊖ ba) ⊗ (lit (pos 2) ⊗ (nine 6 Q one ⊕ nine 6 Q two ⊕ nine 6 Q three) ⊖ lit (pos 3) ⊗ nine 6 Q
    (index_k down P))

abbrev vertex_e : Index → Expr → Expr
vertex_e P a = square_e a ⊗ (nine 6 P one ⊕ nine 6 P two ⊕ nine 6 P three)

abbrev terms_e : Bool → Expr
terms_e down =
    (vertex_e one (var 0) ⊕ edge_e down one (var 0) (var 1) (var 3) (square_e (var 0 ⊖ var 1) ⊖ var 3) two)
    ⊕ (vertex_e two (var 1) ⊕ edge_e down two (var 1) (var 2) (var 5) (square_e (var 1 ⊖ var 2) ⊖ var 5) three)
    ⊕ (vertex_e three (var 2) ⊕ edge_e down three (var 2) (var 0) (square_e (var 0 ⊖ var 2) ⊖ var 4) (var 4) one)

abbrev weighted_e : Bool → Expr
weighted_e down = summed (by_shares_e (var 0) (var 1) (var 2) (var 3) (var 4) (var 5)) (in_form down (nine 6) o123)

abbrev pub environment : (Index → ℕ) → Controls → List ℤ
environment s c =
    pos (s one) ∷ pos (s two) ∷ pos (s three) ∷ square (s one - s two) ∷ square (s one - s three)
    ∷ square (s two - s three) ∷ control_list c

by_terms : (down : Bool) (s : Index → ℕ) (c : Controls) →
    weighted_sum (control_weights down s) (control_list c) ≡ pos 12 *ℤ triangle_term down s c
unfolding weighted_sum
by_terms down s c = by_shares_lem down s c ∙ by down
  where
    by : (down : Bool) →
        weighted_sum
        (by_shares (s one) (s two) (s three) (square (s one - s two)) (square (s one - s three))
        (square (s two - s three)))
        (in_form down c o123)
        ≡ pos 12 *ℤ triangle_term down s c
    by false =
        identity (weighted_e false) (lit (pos 12) ⊗ terms_e false) (environment s c) refl
        ∙ ap (λ (z : ℤ). pos 12 *ℤ z) (sym (other_squares false s c))
    by true =
        identity (weighted_e true) (lit (pos 12) ⊗ terms_e true) (environment s c) refl
        ∙ ap (λ (z : ℤ). pos 12 *ℤ z) (sym (other_squares true s c))

-- ---- an end without share takes an edge out

lost : (a : ℕ) → square a -ℤ square (a - 0) ≡ pos 0
lost a = (λ t. square a -ℤ square (whole t)) ∙ identity (var 0 ⊖ var 0) (lit (pos 0)) (square a ∷ []) refl
  where
    whole : a - 0 ≡ a
    whole = omega arith

nothing : (a : ℕ) → square 0 -ℤ square (0 - a) ≡ pos 0
nothing a = λ t. square 0 -ℤ square (none t)
  where
    none : 0 - a ≡ 0
    none = omega arith

no_terms : (x y : ℤ) → pos 0 *ℤ x +ℤ pos 0 *ℤ y ≡ pos 0
no_terms x y = identity (lit (pos 0) ⊗ var 0 ⊕ lit (pos 0) ⊗ var 1) (lit (pos 0)) (x ∷ y ∷ []) refl

no_end : (k : Index) (a : ℕ) (x y : Index → ℤ) → edge_term k a 0 x y ≡ pos 0
no_end k a x y = (λ t. lost a t *ℤ (pos 3 *ℤ x k) +ℤ nothing a t *ℤ end_part k y) ∙ no_terms (pos 3 *ℤ x k) (end_part k y)

no_begin : (k : Index) (b : ℕ) (x y : Index → ℤ) → edge_term k 0 b x y ≡ pos 0
no_begin k b x y =
    (λ t. nothing b t *ℤ (pos 3 *ℤ x k) +ℤ lost b t *ℤ end_part k y) ∙ no_terms (pos 3 *ℤ x k) (end_part k y)

-- ---- the terms of a cell: its vertex (i, j), and its edges along e1, e2, e3 between (i, j), (i + 1, j) and (i, j + 1)

abbrev cell_term : (a b d : ℕ) (x y z : Index → ℤ) → ℤ
cell_term a b d x y z = vertex_term a x +ℤ edge_term one a b x y +ℤ edge_term two b d y z +ℤ edge_term three d a z x

no_vertex_lem : (x : Index → ℤ) → vertex_term 0 x ≡ pos 0
no_vertex_lem x = zero-*ℤ (x one +ℤ x two +ℤ x three)

without_first : (b d : ℕ) (x y z : Index → ℤ) → cell_term 0 b d x y z ≡ edge_term two b d y z
without_first b d x y z =
    (λ t. no_vertex_lem x t +ℤ no_begin one b x y t +ℤ edge_term two b d y z +ℤ no_end three d z x t)
    ∙ identity (lit (pos 0) ⊕ var 0 ⊕ lit (pos 0)) (var 0) (edge_term two b d y z ∷ []) refl

without_second : (a d : ℕ) (x y z : Index → ℤ) → cell_term a 0 d x y z ≡ vertex_term a x +ℤ edge_term three d a z x
without_second a d x y z =
    (λ t. vertex_term a x +ℤ no_end one a x y t +ℤ no_begin two d y z t +ℤ edge_term three d a z x)
    ∙ identity (var 0 ⊕ lit (pos 0) ⊕ lit (pos 0) ⊕ var 1) (var 0 ⊕ var 1)
    (vertex_term a x ∷ edge_term three d a z x ∷ []) refl

without_third : (a b : ℕ) (x y z : Index → ℤ) → cell_term a b 0 x y z ≡ vertex_term a x +ℤ edge_term one a b x y
without_third a b x y z =
    (λ t. vertex_term a x +ℤ edge_term one a b x y +ℤ no_end two b y z t +ℤ no_begin three a z x t)
    ∙ identity (var 0 ⊕ var 1 ⊕ lit (pos 0) ⊕ lit (pos 0)) (var 0 ⊕ var 1)
    (vertex_term a x ∷ edge_term one a b x y ∷ []) refl

first_alone : (a : ℕ) (x y z : Index → ℤ) → cell_term a 0 0 x y z ≡ vertex_term a x
first_alone a x y z = without_third a 0 x y z ∙ (λ t. vertex_term a x +ℤ no_end one a x y t) ∙ +ℤ_idr (vertex_term a x)

second_alone : (b : ℕ) (x y z : Index → ℤ) → cell_term 0 b 0 x y z ≡ pos 0
second_alone b x y z = without_first b 0 x y z ∙ no_end two b y z

third_alone : (d : ℕ) (x y z : Index → ℤ) → cell_term 0 0 d x y z ≡ pos 0
third_alone d x y z = without_first 0 d x y z ∙ no_begin two d y z

-- ---- over the whole grid

abbrev grid_term : Field → ℕ → ℕ → ℕ → ℕ → ℕ → ℤ
grid_term F D p q i j =
    cell_term (vertex_share D p q (vertex_at i j)) (vertex_share D p q (vertex_at (i + 1) j))
    (vertex_share D p q (vertex_at i (j + 1)))
    (F (vertex_at i j)) (F (vertex_at (i + 1) j)) (F (vertex_at i (j + 1)))

module _ (F : Field) (D p q : ℕ) where
  abbrev share_at : ℕ → ℕ → ℕ
  share_at u v = vertex_share D p q (vertex_at u v)

  abbrev controls : ℕ → ℕ → Index → ℤ
  controls u v = F (vertex_at u v)

  -- the term of a cell whose three shares are known, by the laws above
  module _ (u v : ℕ) where
    abbrev term : ℕ → ℕ → ℕ → ℤ
    term a b d = cell_term a b d (controls u v) (controls (u + 1) v) (controls u (v + 1))

    known : {a b d : ℕ} → share_at u v ≡ a → share_at (u + 1) v ≡ b → share_at u (v + 1) ≡ d →
        grid_term F D p q u v ≡ term a b d
    known e f g = λ t. term (e t) (f t) (g t)

    of_first : {a : ℕ} → share_at u v ≡ a → share_at (u + 1) v ≡ 0 → share_at u (v + 1) ≡ 0 →
        grid_term F D p q u v ≡ vertex_term a (controls u v)
    of_first {a} e f g = known e f g ∙ first_alone a (controls u v) (controls (u + 1) v) (controls u (v + 1))

    of_second : share_at u v ≡ 0 → share_at u (v + 1) ≡ 0 → grid_term F D p q u v ≡ pos 0
    of_second e g =
        known e refl g ∙ second_alone (share_at (u + 1) v) (controls u v) (controls (u + 1) v) (controls u (v + 1))

    of_third : share_at u v ≡ 0 → share_at (u + 1) v ≡ 0 → grid_term F D p q u v ≡ pos 0
    of_third e f =
        known e f refl ∙ third_alone (share_at u (v + 1)) (controls u v) (controls (u + 1) v) (controls u (v + 1))

    but_first : {b d : ℕ} → share_at u v ≡ 0 → share_at (u + 1) v ≡ b → share_at u (v + 1) ≡ d →
        grid_term F D p q u v ≡ edge_term two b d (controls (u + 1) v) (controls u (v + 1))
    but_first {b} {d} e f g = known e f g ∙ without_first b d (controls u v) (controls (u + 1) v) (controls u (v + 1))

    but_second : {a d : ℕ} → share_at u v ≡ a → share_at (u + 1) v ≡ 0 → share_at u (v + 1) ≡ d →
        grid_term F D p q u v ≡ vertex_term a (controls u v) +ℤ edge_term three d a (controls u (v + 1)) (controls u v)
    but_second {a} {d} e f g = known e f g ∙ without_second a d (controls u v) (controls (u + 1) v) (controls u (v + 1))

    but_third : {a b : ℕ} → share_at u v ≡ a → share_at (u + 1) v ≡ b → share_at u (v + 1) ≡ 0 →
        grid_term F D p q u v ≡ vertex_term a (controls u v) +ℤ edge_term one a b (controls u v) (controls (u + 1) v)
    but_third {a} {b} e f g = known e f g ∙ without_third a b (controls u v) (controls (u + 1) v) (controls u (v + 1))

  -- the four cells that count, for a place in the up triangle and in the down triangle of cell (i, j)
  abbrev four_cells : ℕ → ℕ → ℤ
  four_cells i j =
      (grid_term F D p q i j +ℤ grid_term F D p q (i + 1) j) +ℤ
      (grid_term F D p q i (j + 1) +ℤ grid_term F D p q (i + 1) (j + 1))

  -- vertices and edges from corner to next corner, as variables 0 to 5
  abbrev term_list : Bool → (Index → ℕ) → Controls → List ℤ
  term_list down s c =
      vertex_term (s one) (c one) ∷ vertex_term (s two) (c two) ∷ vertex_term (s three) (c three)
      ∷ edge_term (index_k down one) (s one) (s two) (c one) (c two)
      ∷ edge_term (index_k down two) (s two) (s three) (c two) (c three)
      ∷ edge_term (index_k down three) (s three) (s one) (c three) (c one) ∷ []

  abbrev corner_terms_e : Expr
  corner_terms_e = var 0 ⊕ var 3 ⊕ (var 1 ⊕ var 4) ⊕ (var 2 ⊕ var 5)

  four_cells_lem : (i j : ℕ) (down : Bool) (s : Index → ℕ) → Located D p q (triangle_at i j down) s →
      four_cells i j ≡ triangle_term down s (controls_of F (triangle_at i j down))
  four_cells_lem i j down s l = by down l
    where
      right : (v : ℕ) → share_at (i + 1 + 1) v ≡ 0
      right v = no_share l (i + 1 + 1) v (inl (inr (omega arith)))

      above : (u : ℕ) → share_at u (j + 1 + 1) ≡ 0
      above u = no_share l u (j + 1 + 1) (inr (inr (omega arith)))

      by : (down : Bool) → Located D p q (triangle_at i j down) s →
          four_cells i j ≡ triangle_term down s (controls_of F (triangle_at i j down))
      by false l =
          let σ = corner_share false l in
          let none = fourth_share false l in
          (λ t.
          (known i j (σ one) (σ two) (σ three) t +ℤ of_first (i + 1) j (σ two) (right j) none t)
          +ℤ (of_first i (j + 1) (σ three) none (above i) t +ℤ of_second (i + 1) (j + 1) none (above (i + 1)) t))
          ∙ identity (var 0 ⊕ var 3 ⊕ var 4 ⊕ var 5 ⊕ var 1 ⊕ (var 2 ⊕ lit (pos 0))) corner_terms_e
          (term_list false s (controls_of F (triangle_at i j false))) refl
      by true l =
          let σ = corner_share true l in
          let none = fourth_share true l in
          (λ t.
          (but_first i j none (σ one) (σ two) t +ℤ but_second (i + 1) j (σ one) (right j) (σ three) t)
          +ℤ (but_third i (j + 1) (σ two) (σ three) (above i) t +ℤ of_first (i + 1) (j + 1) (σ three) (right (j + 1))
          (above (i + 1)) t))
          ∙ identity (var 3 ⊕ (var 0 ⊕ var 5) ⊕ (var 1 ⊕ var 4 ⊕ var 2)) corner_terms_e
          (term_list true s (controls_of F (triangle_at i j true))) refl

-- in every triangle of the net that has the place, the same sum
grid_value : (F : Field) (w h D p q : ℕ) (t : Triangle) (s : Index → ℕ) → OfNet w h t → Located D p q t s →
    grid_sum w h (grid_term F D p q) ≡ triangle_term t.down s (controls_of F t)
grid_value F w h D p q t s g l =
    sum_cell w h (grid_term F D p q) t.column t.row (omega (arith, g.0)) (omega (arith, g.1))
    (λ u v away. of_second F D p q u v (no_share l u v (inl away)) (no_share l u (v + 1) (inl away)))
    (λ u v away. of_third F D p q u v (no_share l u v (inr away)) (no_share l (u + 1) v (inr away)))
    ∙ four_cells_lem F D p q t.column t.row t.down s l

-- the value by weights, in every triangle of the net that has the place
pub one_value : (F : Field) (w h D p q : ℕ) (t t' : Triangle) (s s' : Index → ℕ) → OfNet w h t → Located D p q t s →
    OfNet w h t' → Located D p q t' s' →
    weighted_sum (control_weights t.down s) (control_list (controls_of F t))
    ≡ weighted_sum (control_weights t'.down s') (control_list (controls_of F t'))
one_value F w h D p q t t' s s' g l g' l' =
    by_terms t.down s (controls_of F t)
    ∙ ap (λ (z : ℤ). pos 12 *ℤ z) (sym (grid_value F w h D p q t s g l) ∙ grid_value F w h D p q t' s' g' l')
    ∙ sym (by_terms t'.down s' (controls_of F t'))

-- ---- the triangle that document 01 chooses

-- its shares
shares_by_lem : (down : Bool) (D f g : ℕ) → cond down (down_share D f g) (up_share D f g) ≡ shares_by down D f g
shares_by_lem false D f g = refl
shares_by_lem true D f g = refl

chosen_shares : (D w h p q : ℕ) → share D w h p q ≡ shares_in D p q (chosen D w h p q)
chosen_shares D w h p q = shares_by_lem (is_down D (rest D w p) (rest D h q)) D (rest D w p) (rest D h q)

pub chosen_of_net : (D w h p q : ℕ) → 2 ≤ w → 2 ≤ h → OfNet w h (chosen D w h p q)
chosen_of_net D w h p q a b =
    (omega (arith, a, min-le_right (p / D) (w - 2)), omega (arith, b, min-le_right (q / D) (h - 2)))

pub chosen_value : (F : Field) (D w h p q : ℕ) →
    spline F w h D p q ≡ weighted_sum (control_weights (chosen D w h p q).down (shares_in D p q (chosen D w h p q)))
    (control_list (controls_of F (chosen D w h p q)))
unfolding spline Sorted
chosen_value F D w h p q =
    let t = chosen D w h p q in
    let a = share D w h p q in
    let sorted = in_order_lem a in
    value_by_weights t.down (controls_of F t) (order_of a) a (sorted.0, sorted.1)
    ∙ ap (λ (s : Index → ℕ). weighted_sum (control_weights t.down s) (control_list (controls_of F t)))
    (chosen_shares D w h p q)

-- a place of a triangle of the net is a place of the grid
place_on_grid : {D w h p q : ℕ} {t : Triangle} {s : Index → ℕ} → OfNet w h t → Located D p q t s → OnGrid D w h p q
place_on_grid {D} {w} {h} {p} {q} {t} g l =
    let c = in_cell_lem l in (
      omega (arith, c.1, mul-le-mul (le_refl D) (side t.column w g.0), mul-add D t.column 1),
      omega (arith, c.3, mul-le-mul (le_refl D) (side t.row h g.1), mul-add D t.row 1),
    )
  where
    side : (i n : ℕ) → i + 2 ≤ n → i + 1 ≤ n - 1
    side i n k = omega (arith, k)

pub spline_by_shares : (F : Field) (w h D p q : ℕ) (t : Triangle) (s : Index → ℕ) → 0 < D → OfNet w h t →
    Located D p q t s →
    spline F w h D p q ≡ weighted_sum (control_weights t.down s) (control_list (controls_of F t))
spline_by_shares F w h D p q t s d g l =
    let c = chosen D w h p q in
    let wide : 2 ≤ w = omega (arith, g.0) in
    let high : 2 ≤ h = omega (arith, g.1) in
    let here = located D p q c (chosen_lies D w h p q d wide high (place_on_grid g l)) in
    chosen_value F D w h p q
    ∙ one_value F w h D p q c t (shares_in D p q c) s (chosen_of_net D w h p q wide high) here g l

-- the spline is the weighted sum in every triangle that the place lies in
pub spline_by_weights : SplineByWeights
spline_by_weights F w h D p q t d g l = spline_by_shares F w h D p q t (shares_in D p q t) d g (located D p q t l)

-- with weights that sum to 36·D²
pub weights_total : WeightsTotal
weights_total D p q t l = shares_total t.down (shares_in D p q t) D (located D p q t l).whole

-- and document 01's formula gives it there, in every order of the shares that goes down
pub any_triangle : AnyTriangle
any_triangle F w h D p q t o d g l k =
    value_by_weights t.down (controls_of F t) o (shares_in D p q t) k ∙ sym (spline_by_weights F w h D p q t d g l)

-- Document 02 c: 'each quadratic piece of the exact spline that meets the vertex', and its derivatives there. A piece
-- is document 01's quadratic in A, B and G in one triangle and one order of the shares. It is a polynomial, so it has
-- values outside its part of the triangle too, also where shares are below 0.
use Rattle.std.specs.Prelude.{◌≡◌, refl, Bool, true, false, ℕ, ℤ, pos, negsuc, ◌+ℤ◌, ◌-ℤ◌, ◌*ℤ◌}
use Rattle.std.proofs.Common.{ap, arith, lit≤}
use Rattle.net.specs.Net.{Index, one, two, three, Vertex, vertex_at, step_column, step_row, Triangle, triangle_at, corner, OfNet, Field, control_point, control_triangle, field, squares}
use Rattle.places.specs.Places.{Order, o123, o213, o321, corner_p, corner_q, corner_t}
use Rattle.triangles.specs.BezierPoints.{Controls, controls_of, point_s, point_u, point_v, point_r, point_m, point_z}

-- the shares of the corners as document 01 has them, with f = p - Di and g = q - Dj, of numbers of either sign: 'the up
-- triangle with shares 1024-f-g, f, g; otherwise the down triangle with 1024-g, 1024-f, f+g-1024'
abbrev pub signed_share : Bool → ℤ → ℤ → ℤ → Index → ℤ
signed_share false D f g one = D -ℤ f -ℤ g
signed_share false D f g two = f
signed_share false D f g three = g
signed_share true D f g one = D -ℤ g
signed_share true D f g two = D -ℤ f
signed_share true D f g three = f +ℤ g -ℤ D

abbrev pub signed_shares : Triangle → ℤ → ℤ → ℤ → Index → ℤ
signed_shares t D p q = signed_share t.down D (p -ℤ D *ℤ pos t.column) (q -ℤ D *ℤ pos t.row)

-- A²sP + 2AB·u + 2AG·vP + B²r + 2BG·m + G²z, each point times 36, with A, B and G of either sign
abbrev pub signed_quadratic : Bool → Controls → Index → Index → ℤ → ℤ → ℤ → ℤ
signed_quadratic down c P Q A B G =
    A *ℤ A *ℤ point_s c P
    +ℤ pos 2 *ℤ (A *ℤ B) *ℤ point_u down c P Q
    +ℤ pos 2 *ℤ (A *ℤ G) *ℤ point_v down c P
    +ℤ B *ℤ B *ℤ point_r down c P Q
    +ℤ pos 2 *ℤ (B *ℤ G) *ℤ point_m down c P Q
    +ℤ G *ℤ G *ℤ point_z down c

-- the piece in triangle t and order o of the shares, at place (p, q) of edge count D, times 36·D²: with the shares
-- a, b and d of P, Q and T, A = a - b, B = 2(b - d), G = 3d
unfoldable pub piece : Field → Triangle → Order → ℤ → ℤ → ℤ → ℤ
piece F t o D p q =
    (let a = signed_shares t D p q (corner_p o) in
    let b = signed_shares t D p q (corner_q o) in
    let d = signed_shares t D p q (corner_t o) in
    signed_quadratic t.down (controls_of F t) (corner_p o) (corner_q o) (a -ℤ b) (pos 2 *ℤ (b -ℤ d)) (pos 3 *ℤ d))

-- a piece meets vertex V of a net of width w and height h where V is its corner P: two pieces in each triangle of the
-- net that has V for a corner
pub record Meets (w h : ℕ) (v : Vertex) (t : Triangle) (o : Order) : Type 0 where
  pub in_net : OfNet w h t
  pub at_p : corner t (corner_p o) ≡ v

-- the piece at V + (d/D)·ek, times 36·D²; d is of either sign
abbrev pub piece_along : Field → Triangle → Order → Vertex → Index → ℤ → ℤ → ℤ
piece_along F t o v k D d =
    piece F t o D (D *ℤ pos v.column +ℤ d *ℤ step_column k) (D *ℤ pos v.row +ℤ d *ℤ step_row k)

-- 36 times the piece, as a polynomial in the distance d/D from V along ek, begins with a + b·d/D. The third
-- coefficient is whole and free of d and D. A quadratic has this expansion and no other (`expansion_once`): a is 36
-- times its value at V, and b 36 times its derivative there.
pub record Expansion (F : Field) (t : Triangle) (o : Order) (v : Vertex) (k : Index) (a b : ℤ) : Type 0 where
  pub second : ℤ
  pub expanded : (D d : ℤ) → piece_along F t o v k D d ≡ a *ℤ (D *ℤ D) +ℤ b *ℤ (D *ℤ d) +ℤ second *ℤ (d *ℤ d)

-- the piece has the derivative s at V along ek, whatever its value there
pub record HasDerivative (F : Field) (t : Triangle) (o : Order) (v : Vertex) (k : Index) (s : ℤ) : Type 0 where
  pub value : ℤ
  pub expansion : Expansion F t o v k value (pos 36 *ℤ s)

-- ---- worked cases

-- the shares at edge count 10 of place (13, 37) in the up triangle of cell (2, 3), outside which it lies; y of the net
-- of 3 by 2 whose numbers are the squares: the two places of `in_two_triangles` in `Spline`, with its values; at edge
-- count 7, place (-4, 11), which lies in neither triangle, with the shares -4, 11, 0 in the down triangle of cell (0,
-- 0), and z there in the up triangle of cell (1, 0) with 7, -11, 11; and from vertex (1, 1), -3 along e2 and e1
abbrev of_squares : ℕ → Field
of_squares = field (squares 54) 3

signed_shares_lem :
    (signed_shares (triangle_at 2 3 false) (pos 10) (pos 13) (pos 37) one ≡ pos 10)
    × (signed_shares (triangle_at 2 3 false) (pos 10) (pos 13) (pos 37) two ≡ negsuc 6)
    × (signed_shares (triangle_at 2 3 false) (pos 10) (pos 13) (pos 37) three ≡ pos 7)
    × (signed_shares (triangle_at 0 0 true) (pos 7) (negsuc 3) (pos 11) one ≡ negsuc 3)
    × (signed_shares (triangle_at 0 0 true) (pos 7) (negsuc 3) (pos 11) two ≡ pos 11)
    × (signed_shares (triangle_at 0 0 true) (pos 7) (negsuc 3) (pos 11) three ≡ pos 0)
    × (signed_shares (triangle_at 1 0 false) (pos 7) (negsuc 3) (pos 11) one ≡ pos 7)
    × (signed_shares (triangle_at 1 0 false) (pos 7) (negsuc 3) (pos 11) two ≡ negsuc 10)
    × (signed_shares (triangle_at 1 0 false) (pos 7) (negsuc 3) (pos 11) three ≡ pos 11)
signed_shares_lem = (refl, refl, refl, refl, refl, refl, refl, refl, refl)

pieces_of_squares :
    (piece (of_squares 1) (triangle_at 1 0 false) o123 (pos 10) (pos 13) (pos 2) ≡ pos 1515600)
    × (piece (of_squares 1) (triangle_at 0 0 true) o321 (pos 10) (pos 7) (pos 8) ≡ pos 4814352)
    × (piece (of_squares 1) (triangle_at 0 0 true) o213 (pos 7) (negsuc 3) (pos 11) ≡ pos 767484)
    × (piece (of_squares 2) (triangle_at 1 0 false) o213 (pos 7) (negsuc 3) (pos 11) ≡ pos 14384016)
unfolding piece control_triangle control_point
pieces_of_squares = (refl, refl, refl, refl)

along_steps :
    (piece_along (of_squares 1) (triangle_at 0 0 true) o321 (vertex_at 1 1) two (pos 7) (negsuc 2) ≡ pos 1409328)
    × (piece_along (of_squares 1) (triangle_at 0 0 true) o321 (vertex_at 1 1) one (pos 7) (negsuc 2) ≡ pos 2487600)
unfolding piece control_triangle control_point
along_steps = (refl, refl)

-- of a net of 3 by 2, vertex (1, 1) is P of a piece of the down triangle of cell (0, 0) where its order begins with
-- corner 3, and not where it begins with corner 1; and there is no cell (1, 1)
met : Meets 3 2 (vertex_at 1 1) (triangle_at 0 0 true) o321
met = record { in_net = (lit≤ tt, lit≤ tt); at_p = refl }

not_met :
    (Meets 3 2 (vertex_at 1 1) (triangle_at 0 0 true) o123 → ⊥) × (Meets 3 2 (vertex_at 1 1) (triangle_at 1 1 false) o123 → ⊥)
not_met = ((λ m. omega (arith, ap (λ (v : Vertex). v.row) m.at_p)), (λ m. omega (arith, m.in_net.1)))

-- The pieces of the exact spline at a vertex, of the definitions: the statements, each with the name of its proof.
use Rattle.std.specs.Prelude.{◌≡◌, ℕ, ◌*◌, ◌≤◌, ◌<◌, ℤ, pos, ◌+ℤ◌, ◌-ℤ◌, ◌*ℤ◌}
use Rattle.net.specs.Net.{Index, one, two, three, Vertex, vertex_at, Triangle, corner, OfNet, Field}
use Rattle.places.specs.Places.{Order, corner_p, LiesIn}
use Rattle.spline.specs.Spline.{spline}
use Rattle.spline.specs.Shares.{shares_in, Descending}
use Rattle.derivatives.specs.Pieces.{piece, Meets, Expansion, HasDerivative}

-- the pieces are those of the exact spline: at every place of a triangle of the net whose shares are in its order, a
-- piece is the exact value (`piece_of_spline`)
abbrev pub PieceOfSpline : Type 0
PieceOfSpline =
    (F : Field) (w h D p q : ℕ) (t : Triangle) (o : Order) → 0 < D → OfNet w h t → LiesIn D p q t →
    Descending (shares_in D p q t) o →
    piece F t o (pos D) (pos p) (pos q) ≡ spline F w h D p q

-- a piece has one value and one derivative at a vertex (`expansion_once`, `derivative_once`)
abbrev pub ExpansionOnce : Type 0
ExpansionOnce =
    (F : Field) (t : Triangle) (o : Order) (v : Vertex) (k : Index) (a b a' b' : ℤ) →
    Expansion F t o v k a b → Expansion F t o v k a' b' → (a ≡ a') × (b ≡ b')

abbrev pub DerivativeOnce : Type 0
DerivativeOnce =
    (F : Field) (t : Triangle) (o : Order) (v : Vertex) (k : Index) (s s' : ℤ) →
    HasDerivative F t o v k s → HasDerivative F t o v k s' → s ≡ s'

-- 3s of a vertex: the sum of its three controls
abbrev pub control_sum : Field → Vertex → ℤ
control_sum F v = F v one +ℤ F v two +ℤ F v three

-- every piece whose P is V has the value s there, and along ek the derivative 2(ck - s): times 36, 12 times the
-- sum of the three controls, and 24 times 3ck less that sum (`vertex_expansion`)
abbrev pub VertexExpansion : Type 0
VertexExpansion =
    (F : Field) (v : Vertex) (t : Triangle) (o : Order) (k : Index) → corner t (corner_p o) ≡ v →
    Expansion F t o v k (pos 12 *ℤ control_sum F v) (pos 24 *ℤ (pos 3 *ℤ F v k -ℤ control_sum F v))

-- every vertex of a net is met by a piece (`vertex_met`)
abbrev pub VertexMet : Type 0
VertexMet =
    (w h i j : ℕ) → 2 ≤ w → 2 ≤ h → i < w → j < h → (t : Triangle) × (o : Order) × Meets w h (vertex_at i j) t o

-- the exact spline at a vertex is s, times 36·D² (`spline_at_vertex`)
abbrev pub SplineAtVertex : Type 0
SplineAtVertex =
    (F : Field) (w h D i j : ℕ) → 0 < D → 2 ≤ w → 2 ≤ h → i < w → j < h →
    spline F w h D (D * i) (D * j) ≡ pos (12 * (D * D)) *ℤ control_sum F (vertex_at i j)

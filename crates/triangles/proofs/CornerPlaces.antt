-- Corners by numbers: what a number below three chooses among three, and where the control points of that corner stand
-- in storage.
use mathlib.Core.Path.{◌≡◌, refl, ap, sym, ◌∙◌}
use mathlib.Core.Bool.{Bool, true, false}
use mathlib.Core.List.{List, [], ◌∷◌}
use Prim.Native.Nat.{ℕ, zero, suc, ◌+◌, ◌*◌, ◌<◌}
use native.Mathlib.Omega.{arith}
use lib.IntN.{ℤ}
use lib.ListN.{get_or}
use Rattle.net.specs.Net.{Index, one, two, three, rank, Vertex, vertex_at, Triangle, triangle_at, corner, start, control_point, control_triangle, stride, point_stride}
use Rattle.triangles.specs.BezierPoints.{index_k, index_m, index_n}
use Rattle.triangles.specs.Corners.{corner_controls, reordered_corner, reordered_controls}

-- a number below three is the rank of an index
pub index_of : (n : ℕ) → n < 3 → (P : Index) × (n ≡ rank P)
index_of zero h = (one, refl)
index_of (suc zero) h = (two, refl)
index_of (suc (suc zero)) h = (three, refl)
index_of (suc (suc (suc n))) h = absurd (omega (arith, h))

-- of three numbers, one an index, the one at the rank of P
pub at_rank : (f : Index → ℕ) (P : Index) {p : ℕ} → p ≡ rank P → get_or (f one ∷ f two ∷ f three ∷ []) p 0 ≡ f P
at_rank f P e = ap (λ (n : ℕ). get_or (f one ∷ f two ∷ f three ∷ []) n 0) e ∙ at P
  where
    at : (P : Index) → get_or (f one ∷ f two ∷ f three ∷ []) (rank P) 0 ≡ f P
    at one = refl
    at two = refl
    at three = refl

-- where the corners of a cell's triangles begin, where its first vertex begins at a and a row has w vertices
abbrev pub start_from : ℕ → ℕ → Bool → Index → ℕ
start_from a w false one = a
start_from a w false two = a + stride
start_from a w false three = a + stride * w
start_from a w true one = a + stride
start_from a w true two = a + stride * w
start_from a w true three = a + stride * w + stride

pub start_from_lem : (w i j : ℕ) (down : Bool) (P : Index) →
    start_from (start w (vertex_at i j)) w down P ≡ start w (corner (triangle_at i j down) P)
start_from_lem w i j false one = refl
start_from_lem w i j false two = omega arith
start_from_lem w i j false three = omega arith
start_from_lem w i j true one = omega arith
start_from_lem w i j true two = omega arith
start_from_lem w i j true three = omega arith

-- a control point of a vertex
control_at : (net : List ℤ) (w : ℕ) (v : Vertex) (k : Index) →
    control_point net (start w v + point_stride * rank k) ≡ get_or (control_triangle net w v) (rank k) []
unfolding control_triangle
control_at net w v one = ap (control_point net) (omega arith)
control_at net w v two = refl
control_at net w v three = refl

-- and so the control triangle of corner P in the order ck, cn, cm, by numbers: p and the places k, n, m are those of P,
-- whose numbers begin at a
pub corner_controls_lem : (net : List ℤ) (w : ℕ) (t : Triangle) (P : Index) {p a k n m : ℕ} → p ≡ rank P →
    a ≡ start w (corner t P) → k ≡ rank (index_k t.down P) → n ≡ rank (index_n t.down P) →
    m ≡ rank (index_m t.down P) →
    control_point net (a + point_stride * k) ∷ control_point net (a + point_stride * n)
    ∷ control_point net (a + point_stride * m) ∷ []
    ≡ get_or (reordered_controls t.down (corner_controls net w t)) p []
corner_controls_lem net w t P e f g h l =
    (λ i. point (f i) (g i) ∷ point (f i) (h i) ∷ point (f i) (l i) ∷ [])
    ∙ (λ i. at (index_k t.down P) i ∷ at (index_n t.down P) i ∷ at (index_m t.down P) i ∷ [])
    ∙ in_list P
    ∙ ap (λ (n : ℕ). get_or (reordered_controls t.down (corner_controls net w t)) n []) (sym e)
  where
    point : ℕ → ℕ → List ℤ
    point a k = control_point net (a + point_stride * k)

    at : (k : Index) → point (start w (corner t P)) (rank k) ≡ get_or (control_triangle net w (corner t P)) (rank k) []
    at = control_at net w (corner t P)

    in_list : (P : Index) →
        reordered_corner t.down P (control_triangle net w (corner t P))
        ≡ get_or (reordered_controls t.down (corner_controls net w t)) (rank P) []
    in_list one = refl
    in_list two = refl
    in_list three = refl

-- The control triangles of a triangle's corners as the code holds them. No public contract cites these.
use Rattle.std.specs.Prelude.{Bool, List, [], ◌∷◌, ℕ, ◌+◌, ◌≤◌, ◌<◌, length, get_or, ℤ}
use Rattle.net.specs.Net.{Index, one, two, three, vertex_at, start, Triangle, corner, control_triangle, rank, entry, stride}
use Rattle.triangles.specs.BezierPoints.{control_list, index_k, index_m, index_n}

-- the corners of both triangles of cell (i, j) lie in the net, and their rows and columns are small numbers
pub record InNet (net : List ℤ) (w i j : ℕ) : Type 0 where
  pub width : w ≤ 1025
  pub column : i + 1 < w
  pub row : j + 1 < 1025
  pub ends : start w (vertex_at (i + 1) (j + 1)) + stride ≤ length net

-- the control triangles of a triangle's corners
abbrev pub corner_controls : List ℤ → ℕ → Triangle → List (List (List ℤ))
corner_controls net w t =
    control_triangle net w (corner t one) ∷ control_triangle net w (corner t two) ∷ control_triangle net w (corner t three)
    ∷ []

-- the nine control values in coordinate x of three control triangles
abbrev pub values_in : List (List (List ℤ)) → ℕ → List ℤ
values_in c x = control_list (λ P k. entry (get_or c (rank P) []) k x)

-- the control points of a corner in the order ck, cn, cm, and so for each corner of a triangle
abbrev pub reordered_corner : Bool → Index → List (List ℤ) → List (List ℤ)
reordered_corner down P c =
    get_or c (rank (index_k down P)) [] ∷ get_or c (rank (index_n down P)) [] ∷ get_or c (rank (index_m down P)) [] ∷ []

abbrev pub reordered_controls : Bool → List (List (List ℤ)) → List (List (List ℤ))
reordered_controls down c =
    reordered_corner down one (get_or c 0 []) ∷ reordered_corner down two (get_or c 1 [])
    ∷ reordered_corner down three (get_or c 2 []) ∷ []

-- Corners of triangles: their neighbours by steps, and their places in storage.
use mathlib.Core.Path.{◌≡◌, refl}
use mathlib.Core.Bool.{Bool, true, false, ◌||◌}
use mathlib.Core.List.{List, [], ◌∷◌}
use Prim.Native.Nat.{ℕ, ◌+◌, ◌*◌, ◌≤◌, ◌<◌}
use native.Mathlib.Omega.{arith}
use lib.IntN.{ℤ, pos, negsuc, nat_abs, ◌+ℤ◌, ◌-ℤ◌}
use lib.ListN.{length}
use borrow.Author.Tests.{ltb-false}
use Rattle.exact.proofs.Expressions.{var, lit, ◌⊕◌, identity}
use Rattle.net.specs.Net.{Index, one, two, three, rank, next, previous, vertex_at, Triangle, triangle_at, corner, step_column, step_row, numbers, start, vertex_numbers, field, stride}
use Rattle.net.specs.Refusals.{bad_size, short_net, any_beyond}
use Rattle.net.proofs.Faults.{or_none}
use Rattle.net.proofs.Places.{good_size, vertex_ends, field_size}
use Rattle.places.proofs.Cells.{InGrid}
use Rattle.triangles.specs.BezierPoints.{controls_of, index_k, index_m, index_n}
use Rattle.triangles.specs.Refusals.{triangle_beyond}
use Rattle.triangles.specs.Corners.{InNet}

-- both its triangles lie in the net
pub in_net_lem : (net : List ℤ) {w h i j : ℕ} → bad_size w h ≡ false → short_net net w h ≡ false → InGrid w h i j →
    InNet net w i j
in_net_lem net {w} {h} {i} {j} e₁ e₂ g =
    let s = good_size w h e₁ in
    let l = ltb-false (length net) (numbers w h) e₂ in
    let ends = vertex_ends {w = w} {h = h} {i = i + 1} {j = j + 1} g.column g.row in
    record { width = s.narrow; column = g.column; row = omega (arith, g.row, s.low); ends = omega (arith, ends, l) }

-- no corner of its triangles is stored after (i + 1, j + 1)
pub corner_before : (w i j : ℕ) → i + 1 < w → (down : Bool) (P : Index) →
    start w (corner (triangle_at i j down) P) ≤ start w (vertex_at (i + 1) (j + 1))
corner_before w i j a false one = omega arith
corner_before w i j a false two = omega arith
corner_before w i j a false three = omega arith
corner_before w i j a true one = omega arith
corner_before w i j a true two = omega arith
corner_before w i j a true three = omega arith

pub corner_ends : (net : List ℤ) (w i j : ℕ) → InNet net w i j → (down : Bool) (P : Index) →
    start w (corner (triangle_at i j down) P) + stride ≤ length net
corner_ends net w i j l down P = omega (arith, corner_before w i j l.column down P, l.ends)

-- a triangle in range has each corner in range
abbrev corner_beyond : List ℤ → ℕ → Triangle → Index → Bool
corner_beyond net w t P = any_beyond (vertex_numbers net w (corner t P))

three_none : (a b c : Bool) → (a || (b || c)) ≡ false → (a ≡ false) × (b ≡ false) × (c ≡ false)
three_none a b c e =
    let f = or_none a (b || c) e in
    let g = or_none b c f.1 in
    (f.0, g.0, g.1)

corners_fine : (net : List ℤ) (w : ℕ) (t : Triangle) → triangle_beyond net w t ≡ false → (P : Index) →
    corner_beyond net w t P ≡ false
corners_fine net w t e one =
    (three_none (corner_beyond net w t one) (corner_beyond net w t two) (corner_beyond net w t three) e).0
corners_fine net w t e two =
    (three_none (corner_beyond net w t one) (corner_beyond net w t two) (corner_beyond net w t three) e).1
corners_fine net w t e three =
    (three_none (corner_beyond net w t one) (corner_beyond net w t two) (corner_beyond net w t three) e).2

-- and so each of its nine control values
pub value_size : (net : List ℤ) (w i j : ℕ) (down : Bool) → InNet net w i j →
    triangle_beyond net w (triangle_at i j down) ≡ false →
    (x : ℕ) → x < 3 → (P k : Index) → nat_abs (controls_of (field net w x) (triangle_at i j down) P k) ≤ 16777216
value_size net w i j down l e x h P k =
    let t = triangle_at i j down in
    field_size net w (corner t P) (corners_fine net w t e P) (corner_ends net w i j l down P) k x h

-- 'one neighbour is P + ek, the other P - em; n is the third index': the next corner is P + ek and the previous one P -
-- em, in both triangles
pub back : (n : ℕ) → pos n ≡ pos (n + 1) +ℤ negsuc 0
back n = identity (var 0) (var 0 ⊕ lit (pos 1) ⊕ lit (negsuc 0)) (pos n ∷ []) refl

pub stays : (n : ℕ) → pos n ≡ pos n +ℤ pos 0
stays n = identity (var 0) (var 0 ⊕ lit (pos 0)) (pos n ∷ []) refl

pub steps_agree : (i j : ℕ) (down : Bool) (P : Index) →
    (pos (corner (triangle_at i j down) (next P)).column
    ≡ pos (corner (triangle_at i j down) P).column +ℤ step_column (index_k down P))
    × (pos (corner (triangle_at i j down) (next P)).row
    ≡ pos (corner (triangle_at i j down) P).row +ℤ step_row (index_k down P))
    × (pos (corner (triangle_at i j down) (previous P)).column
    ≡ pos (corner (triangle_at i j down) P).column -ℤ step_column (index_m down P))
    × (pos (corner (triangle_at i j down) (previous P)).row
    ≡ pos (corner (triangle_at i j down) P).row -ℤ step_row (index_m down P))
steps_agree i j false one = (refl, stays j, stays i, refl)
steps_agree i j false two = (back i, refl, back i, stays j)
steps_agree i j false three = (stays i, back j, refl, back j)
steps_agree i j true one = (back i, refl, stays (i + 1), refl)
steps_agree i j true two = (refl, stays (j + 1), refl, back j)
steps_agree i j true three = (stays (i + 1), back j, back i, stays (j + 1))

-- k, m and n are the three indices: their ranks are 0, 1 and 2 in some order, since they add up to 3 and their squares
-- to 5
pub indices_differ : (down : Bool) (P : Index) →
    (let k = rank (index_k down P) in
    let m = rank (index_m down P) in
    let n = rank (index_n down P) in
    (k + m + n ≡ 3) × (k * k + m * m + n * n ≡ 5))
indices_differ false one = (refl, refl)
indices_differ false two = (refl, refl)
indices_differ false three = (refl, refl)
indices_differ true one = (refl, refl)
indices_differ true two = (refl, refl)
indices_differ true three = (refl, refl)

-- Document 01, "Surface point": places at any edge count D, the triangle chosen for a place, the shares of its corners
-- and their order, and in which triangles a place lies.
use Rattle.std.specs.Prelude.{◌≡◌, refl, Bool, true, false, cond, ℕ, ◌+◌, ◌-◌, ◌*◌, ◌/◌, ◌≤◌, min, leb, ltb}
use Rattle.std.proofs.Common.{lit≤}
use Rattle.net.specs.Net.{Index, one, two, three, Triangle, triangle_at}

-- a place (document 01's term: a parameter of the surface, counted in D-ths of an edge) of the grid: 'p up to
-- 1024(w-1), q up to 1024(h-1)'
abbrev pub OnGrid : ℕ → ℕ → ℕ → ℕ → ℕ → Type 0
OnGrid D w h p q = (p ≤ D * (w - 1)) × (q ≤ D * (h - 1))

-- 'Cell: i the smaller of p/1024 rounded down and w-2': of a side of n vertices, at edge count D
abbrev pub cell : ℕ → ℕ → ℕ → ℕ
cell D n p = min (p / D) (n - 2)

-- what is left of p in its cell, document 01's f and g: 'p - 1024i'
abbrev pub rest : ℕ → ℕ → ℕ → ℕ
rest D n p = p - D * cell D n p

-- the shares (document 01's term: barycentric coordinates times D) of the corners of an up triangle and of a down
-- triangle
abbrev pub up_share : ℕ → ℕ → ℕ → Index → ℕ
up_share D f g one = D - f - g
up_share D f g two = f
up_share D f g three = g

abbrev pub down_share : ℕ → ℕ → ℕ → Index → ℕ
down_share D f g one = D - g
down_share D f g two = D - f
down_share D f g three = f + g - D

-- the down triangle is chosen where f + g is above D
abbrev pub is_down : ℕ → ℕ → ℕ → Bool
is_down D f g = ltb D (f + g)

abbrev pub share_in : ℕ → ℕ → ℕ → Index → ℕ
share_in D f g = cond (is_down D f g) (down_share D f g) (up_share D f g)

-- the triangle chosen for place (p, q) of a net of width w and height h, and the shares of its corners
abbrev pub chosen : ℕ → ℕ → ℕ → ℕ → ℕ → Triangle
chosen D w h p q = triangle_at (cell D w p) (cell D h q) (is_down D (rest D w p) (rest D h q))

abbrev pub share : ℕ → ℕ → ℕ → ℕ → ℕ → Index → ℕ
share D w h p q = share_in D (rest D w p) (rest D h q)

-- corners P, Q, T in the order of their shares: o231 has P = 2, Q = 3, T = 1
pub data Order : Type 0 where
  o123 o132 o213 o231 o312 o321 : Order

abbrev pub corner_p : Order → Index
corner_p o123 = one
corner_p o132 = one
corner_p o213 = two
corner_p o231 = two
corner_p o312 = three
corner_p o321 = three

abbrev pub corner_q : Order → Index
corner_q o123 = two
corner_q o132 = three
corner_q o213 = one
corner_q o231 = three
corner_q o312 = one
corner_q o321 = two

abbrev pub corner_t : Order → Index
corner_t o123 = three
corner_t o132 = two
corner_t o213 = three
corner_t o231 = one
corner_t o312 = two
corner_t o321 = one

-- 'Order the shares a ≥ b ≥ d, equals in corner order' (`in_order_lem` in proofs/Orders.antt)
abbrev pub order_of : (Index → ℕ) → Order
order_of a =
    cond (leb (a two) (a one))
    (cond (leb (a three) (a two)) o123 (cond (leb (a three) (a one)) o132 o312))
    (cond (leb (a three) (a one)) o213 (cond (leb (a three) (a two)) o231 o321))

-- A = a - b, B = 2(b - d), G = 3d
abbrev pub gap_a : Order → (Index → ℕ) → ℕ
gap_a o a = a (corner_p o) - a (corner_q o)

abbrev pub gap_b : Order → (Index → ℕ) → ℕ
gap_b o a = 2 * (a (corner_q o) - a (corner_t o))

abbrev pub gap_g : Order → (Index → ℕ) → ℕ
gap_g o a = 3 * a (corner_t o)

-- 'At edge count D a place lies in the up triangle of cell (i, j) exactly when p - Di and q - Dj are both at least 0
-- and their sum is at most D; in the down triangle exactly when both are at most D and their sum is at least D.' Said
-- without a difference.
abbrev pub LiesUp : ℕ → ℕ → ℕ → ℕ → ℕ → Type 0
LiesUp D p q i j = (D * i ≤ p) × (D * j ≤ q) × (p + q ≤ D * i + D * j + D)

abbrev pub LiesDown : ℕ → ℕ → ℕ → ℕ → ℕ → Type 0
LiesDown D p q i j = (p ≤ D * i + D) × (q ≤ D * j + D) × (D * i + D * j + D ≤ p + q)

abbrev pub LiesBy : Bool → ℕ → ℕ → ℕ → ℕ → ℕ → Type 0
LiesBy false = LiesUp
LiesBy true = LiesDown

abbrev pub LiesIn : ℕ → ℕ → ℕ → Triangle → Type 0
LiesIn D p q t = LiesBy t.down D p q t.column t.row

-- worked cases: the last place of a side of two lies in cell 0, and the last place of 2 by 3 is of the grid; place
-- (1100, 700) of a net of 3 by 2 lies in the up triangle of cell (1, 0), place (700, 600) of a net of 2 by 2 in the
-- down triangle, and with f + g = 1024 the up triangle is chosen; A, B and G of two orders; equal shares stay in corner
-- order; place (1024, 0) lies in the up and in the down triangle of cell (0, 0), whose corner it is, and place (1024,
-- 1024) in six triangles
last_cell : (cell 1024 2 1024 ≡ 0) × (rest 1024 2 1024 ≡ 1024) × (cell 1024 3 1024 ≡ 1)
last_cell = (refl, refl, refl)

last_place : OnGrid 1024 2 3 1024 2048
last_place = (lit≤ tt, lit≤ tt)

in_up :
    (chosen 1024 3 2 1100 700 ≡ triangle_at 1 0 false)
    × (share 1024 3 2 1100 700 one ≡ 248)
    × (share 1024 3 2 1100 700 two ≡ 76)
    × (share 1024 3 2 1100 700 three ≡ 700)
in_up = (refl, refl, refl, refl)

on_the_diagonal : chosen 1024 2 2 512 512 ≡ triangle_at 0 0 false
on_the_diagonal = refl

in_down :
    (chosen 1024 2 2 700 600 ≡ triangle_at 0 0 true)
    × (share 1024 2 2 700 600 one ≡ 424)
    × (share 1024 2 2 700 600 two ≡ 324)
    × (share 1024 2 2 700 600 three ≡ 276)
in_down = (refl, refl, refl, refl)

equal_shares : (order_of (λ k. 3) ≡ o123) × (order_of (up_share 10 4 4) ≡ o231) × (order_of (up_share 10 2 4) ≡ o132)
equal_shares = (refl, refl, refl)

gaps_in_down :
    (order_of (share 1024 2 2 700 600) ≡ o123)
    × (gap_a o123 (share 1024 2 2 700 600) ≡ 100)
    × (gap_b o123 (share 1024 2 2 700 600) ≡ 96)
    × (gap_g o123 (share 1024 2 2 700 600) ≡ 828)
gaps_in_down = (refl, refl, refl, refl)

gaps_in_up :
    (order_of (share 1024 3 2 1100 700) ≡ o312)
    × (gap_a o312 (share 1024 3 2 1100 700) ≡ 452)
    × (gap_b o312 (share 1024 3 2 1100 700) ≡ 344)
    × (gap_g o312 (share 1024 3 2 1100 700) ≡ 228)
gaps_in_up = (refl, refl, refl, refl)

two_triangles : LiesIn 1024 1024 0 (triangle_at 0 0 false) × LiesIn 1024 1024 0 (triangle_at 0 0 true)
two_triangles = ((lit≤ tt, lit≤ tt, lit≤ tt), (lit≤ tt, lit≤ tt, lit≤ tt))

six_triangles :
    LiesIn 1024 1024 1024 (triangle_at 1 1 false)
    × LiesIn 1024 1024 1024 (triangle_at 0 1 false)
    × LiesIn 1024 1024 1024 (triangle_at 1 0 false)
    × LiesIn 1024 1024 1024 (triangle_at 0 0 true)
    × LiesIn 1024 1024 1024 (triangle_at 0 1 true)
    × LiesIn 1024 1024 1024 (triangle_at 1 0 true)
six_triangles = (
  (lit≤ tt, lit≤ tt, lit≤ tt),
  (lit≤ tt, lit≤ tt, lit≤ tt),
  (lit≤ tt, lit≤ tt, lit≤ tt),
  (lit≤ tt, lit≤ tt, lit≤ tt),
  (lit≤ tt, lit≤ tt, lit≤ tt),
  (lit≤ tt, lit≤ tt, lit≤ tt),
)

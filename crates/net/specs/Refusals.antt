-- Document 01, "Turned away": the rows that every call on nets shares, and the first fault of a list.
use Rattle.std.specs.Prelude.{◌≡◌, refl, Bool, true, false, ◌||◌, cond, List, [], ◌∷◌, ◌++◌, ℕ, ◌-◌, ◌≤◌, ◌<◌, leb, ltb, eqb, length, replicate, get_or, set, take, ℤ, pos, negsuc, nat_abs}
use Rattle.exact.specs.Filling.{over}
use Rattle.net.specs.Net.{Index, vertex_at, numbers, number, entry, vertex_numbers, squares}

-- a fault: whether it is there, and its number
abbrev pub Fault : Type 0
Fault = Bool × ℕ

-- the number of the first fault that is there, or 0
abbrev pub first_fault : List Fault → ℕ
first_fault [] = 0
first_fault ((there, n) ∷ faults) = cond there n (first_fault faults)

-- a refusal answers its number; 0 is accepted
abbrev pub accepted : ℕ → Bool
accepted n = eqb n 0

-- what a call answers that gives nothing but its outputs: the number of its refusal, and whether it was carried out
abbrev pub answer_by : ℕ → ℕ × Bool
answer_by refusal = (refusal, accepted refusal)

module _ {ℓ} {A : Type ℓ} where
  -- 'A refusal answers its number and changes no lent memory': the result over the front of a lent output where nothing
  -- is refused; else the output as it was
  abbrev pub output_after : ℕ → List A → List A → List A
  output_after refusal result out = cond (accepted refusal) (over result out) out

-- 1: a side outside 2 to 1,025
abbrev pub bad_side : ℕ → Bool
bad_side n = ltb n 2 || ltb 1025 n

abbrev pub bad_size : ℕ → ℕ → Bool
bad_size w h = bad_side w || bad_side h

-- 6: no such vertex
abbrev pub no_vertex : ℕ → ℕ → ℕ → ℕ → Bool
no_vertex w h i j = leb w i || leb h j

-- 2: a net shorter than its vertices' numbers
abbrev pub short_net : List ℤ → ℕ → ℕ → Bool
short_net net w h = ltb (length net) (numbers w h)

-- 5: a net of width w and height h does not fit an output of so many numbers; a bad size is refused before that counts
abbrev pub too_short_for : ℕ → ℕ → ℕ → Bool
too_short_for w h room = cond (bad_size w h) false (ltb room (numbers w h))

-- 3: a number beyond its range, from -limit to limit, and whether one of several is
abbrev pub outside : ℕ → ℤ → Bool
outside limit z = ltb limit (nat_abs z)

abbrev pub any_outside : ℕ → List ℤ → Bool
any_outside limit [] = false
any_outside limit (z ∷ zs) = outside limit z || any_outside limit zs

-- the net range, -16,777,216 to 16,777,216
abbrev pub net_limit : ℕ
net_limit = 16777216

abbrev pub beyond : ℤ → Bool
beyond = outside net_limit

abbrev pub any_beyond : List ℤ → Bool
any_beyond = any_outside net_limit

-- of a control triangle
abbrev pub controls_beyond : List (List ℤ) → Bool
controls_beyond c = any_beyond (get_or c 0 [] ++ get_or c 1 [] ++ get_or c 2 [])

-- the other way round: the numbers of a control point, and of a control triangle, are at most n in size
abbrev pub PointWithin : ℕ → List ℤ → Type 0
PointWithin n p = (x : ℕ) → x < 3 → nat_abs (number p x) ≤ n

abbrev pub ControlsWithin : ℕ → List (List ℤ) → Type 0
ControlsWithin n c = (k : Index) (x : ℕ) → x < 3 → nat_abs (entry c k x) ≤ n

-- of a whole net: one of its first numbers, those of its vertices
unfoldable pub net_beyond : List ℤ → ℕ → ℕ → Bool
net_beyond net w h = any_beyond (take (numbers w h) net)

-- an accepted net: rows 1, 2 and 3 of document 01's table do not refuse it
pub record AcceptedNet (net : List ℤ) (w h : ℕ) : Type 0 where
  pub size : bad_size w h ≡ false
  pub long : short_net net w h ≡ false
  pub in_range : net_beyond net w h ≡ false

-- the companion of the vertex part: 1, 6, 2 or none
abbrev pub vertex_refusal : List ℤ → ℕ → ℕ → ℕ → ℕ → ℕ
vertex_refusal net w h i j =
    first_fault ((bad_size w h, 1) ∷ (no_vertex w h i j, 6) ∷ (short_net net w h, 2) ∷ [])

-- the numbers of a vertex as that part of the net; a refused part is empty
unfoldable pub vertex_part : List ℤ → ℕ → ℕ → ℕ → ℕ → List ℤ
vertex_part net w h i j =
    cond (accepted (vertex_refusal net w h i j)) (vertex_numbers net w (vertex_at i j)) []

-- ---- worked cases

-- nets of 2 by 2 for worked cases here and in the crates above: of zeros; of zeros but for one number, which is beyond
-- the range; and one with a number too few, each beyond the range
abbrev pub zeros : List ℤ
zeros = replicate (numbers 2 2) (pos 0)

abbrev pub too_large : ℕ → List ℤ
too_large n = set zeros n (pos 16777217)

abbrev pub too_few : List ℤ
too_few = replicate (numbers 2 2 - 1) (pos 16777217)

-- document 01's examples of 1, 2 and 3, the limits that are accepted, each side too small and too large, a missing
-- vertex of a short net, the last vertex of 3 by 2 and a row that it does not have, an output that is refused and one
-- that is written, control triangles, and a part
examples :
    (vertex_refusal [] 1 2 1 0 ≡ 1)
    × (vertex_refusal (replicate 35 (pos 0)) 2 2 1 1 ≡ 2)
    × (vertex_refusal (replicate 35 (pos 0)) 2 2 2 1 ≡ 6)
    × (vertex_refusal zeros 2 2 1 1 ≡ 0)
    × (vertex_refusal (replicate (numbers 3 2) (pos 0)) 3 2 2 1 ≡ 0)
    × (vertex_refusal (replicate (numbers 3 2) (pos 0)) 3 2 1 2 ≡ 6)
examples = (refl, refl, refl, refl, refl, refl)

sizes : (bad_size 1025 1025 ≡ false) × (bad_size 1026 2 ≡ true) × (bad_size 2 1026 ≡ true) × (bad_size 1 2 ≡ true)
    × (bad_size 2 1 ≡ true)
sizes = (refl, refl, refl, refl, refl)

rooms : (too_short_for 3 2 54 ≡ false) × (too_short_for 3 2 53 ≡ true) × (too_short_for 1 2 0 ≡ false)
rooms = (refl, refl, refl)

outputs : (◌≡◌ {A = List ℕ} (output_after 5 (7 ∷ []) (1 ∷ 2 ∷ [])) (1 ∷ 2 ∷ []))
    × (◌≡◌ {A = List ℕ} (output_after 0 (7 ∷ []) (1 ∷ 2 ∷ [])) (7 ∷ 2 ∷ []))
unfolding over
outputs = (refl, refl)

answers : (answer_by 0 ≡ (0, true)) × (answer_by 5 ≡ (5, false))
answers = (refl, refl)

limits :
    (beyond (pos 16777217) ≡ true) × (beyond (pos 16777216) ≡ false) × (beyond (negsuc 16777215) ≡ false)
    × (beyond (negsuc 16777216) ≡ true)
limits = (refl, refl, refl, refl)

controls :
    (controls_beyond ((pos 1 ∷ pos 2 ∷ pos 3 ∷ []) ∷ (pos 4 ∷ pos 5 ∷ pos 6 ∷ []) ∷ (pos 7 ∷ pos 8 ∷ pos 9 ∷ []) ∷ [])
    ≡ false)
    × (controls_beyond ((pos 16777217 ∷ []) ∷ [] ∷ [] ∷ []) ≡ true)
    × (controls_beyond ([] ∷ (pos 16777217 ∷ []) ∷ [] ∷ []) ≡ true)
    × (controls_beyond ([] ∷ [] ∷ (pos 16777217 ∷ []) ∷ []) ≡ true)
controls = (refl, refl, refl, refl)

part_of_a_vertex :
    vertex_part (squares (numbers 3 2)) 3 2 1 1
    ≡ pos 1296 ∷ pos 1369 ∷ pos 1444 ∷ pos 1521 ∷ pos 1600 ∷ pos 1681 ∷ pos 1764 ∷ pos 1849 ∷ pos 1936 ∷ []
unfolding vertex_part
part_of_a_vertex = refl

no_part : vertex_part (replicate (numbers 2 2) (pos 7)) 2 2 1 2 ≡ []
unfolding vertex_part
no_part = refl

-- a net of 2 by 2 at the limit of the range is accepted; one number beyond it counts, and one after the net does not
taken : AcceptedNet (replicate (numbers 2 2) (pos 16777216)) 2 2
unfolding net_beyond
taken = record { size = refl; long = refl; in_range = refl }

whole_nets :
    (net_beyond (replicate (numbers 2 2) (pos 0) ++ pos 16777217 ∷ []) 2 2 ≡ false)
    × (net_beyond (replicate (numbers 2 2 - 1) (pos 0) ++ pos 16777217 ∷ []) 2 2 ≡ true)
unfolding net_beyond
whole_nets = (refl, refl)

-- The preconditions of the steps, which callers establish by their refusals, and how a control triangle is stored.
use Rattle.std.specs.Prelude.{◌≡◌, refl, cond, List, [], ◌∷◌, ◌++◌, map, ℕ, ◌*◌, ◌+◌, ◌≤◌, ◌<◌, ℤ, pos, length, get_or, replicate, ltb}
use Rattle.std.proofs.Common.{lit≤}
use Rattle.std.proofs.lemmas.List.Edits.{sets}
use Rattle.net.specs.Net.{rank, vertex_at, stride, point_stride}
use Rattle.net.specs.Refusals.{AcceptedNet}
use Rattle.subdivision.specs.Refinement.{refined_side, side_after}
use Rattle.steps.specs.RefinedNet.{Fields, vertex_run, numbers_after}

-- a size and a number of steps that 1 and 4 do not refuse
pub record Depth (w h k : ℕ) : Type 0 where
  pub few : k ≤ 6
  pub wide : 2 ≤ w
  pub narrow : side_after k w ≤ 1025
  pub high : 2 ≤ h
  pub low : side_after k h ≤ 1025

-- one step: such a size, a net that is accepted, and room for the refined net
abbrev pub StepReady : List ℤ → ℕ → ℕ → List ℤ → Type 0
StepReady net w h out = Depth w h 1 × AcceptedNet net w h × (numbers_after 1 w h ≤ length out)

-- row j of the refined net, of such a net, with room for it from a place on
pub record RowReady (net : List ℤ) (w h j at room : ℕ) : Type 0 where
  pub depth : Depth w h 1
  pub given : AcceptedNet net w h
  pub row : j < refined_side h
  pub roomy : at + stride * refined_side w ≤ room

-- vertices 2m and 2m + 1 of row j of a net's refined grid, as they are stored; the last column has the first alone
abbrev pub pair_run : Fields → ℕ → ℕ → ℕ → List ℤ
pair_run F w j m =
    cond (ltb (m + 1) w) (vertex_run F (vertex_at (2 * m) j) ++ vertex_run F (vertex_at (2 * m + 1) j))
    (vertex_run F (vertex_at (2 * m) j))

-- such a pair, from columns m and m + 1 and from row n, of a net that is accepted, with room for it
pub record PairReady (net : List ℤ) (w h m n at room : ℕ) : Type 0 where
  pub given : AcceptedNet net w h
  pub column : m < w
  pub row : n < h
  pub one : at + stride ≤ room
  pub both : m + 1 < w → at + stride + stride ≤ room

-- the control points of a control triangle, one stored after the other
abbrev pub three_points : List ℤ → ℕ → List (List ℤ) → List ℤ
three_points l at c =
    sets (sets (sets l at (get_or c 0 [])) (at + point_stride) (get_or c 1 [])) (at + 2 * point_stride) (get_or c 2 [])

-- worked cases: 17 by 17 by six steps; a control triangle over the front of ten numbers
six_steps : Depth 17 17 6
six_steps = record { few = lit≤ tt; wide = lit≤ tt; narrow = lit≤ tt; high = lit≤ tt; low = lit≤ tt }

nine_of_ten :
    three_points (replicate 10 (pos 0)) 0
    ((pos 1 ∷ pos 2 ∷ pos 3 ∷ []) ∷ (pos 4 ∷ pos 5 ∷ pos 6 ∷ []) ∷ (pos 7 ∷ pos 8 ∷ pos 9 ∷ []) ∷ [])
    ≡ pos 1 ∷ pos 2 ∷ pos 3 ∷ pos 4 ∷ pos 5 ∷ pos 6 ∷ pos 7 ∷ pos 8 ∷ pos 9 ∷ pos 0 ∷ []
nine_of_ten = refl

-- fields that are 100·column + 10·row + 3·control + coordinate: of a net of 2 columns, the first pair of row 1 of its
-- refined grid has columns 0 and 1, and the second column 2 alone
abbrev counted : Fields
counted x v l = pos (100 * v.column + 10 * v.row + 3 * rank l + x)

pairs :
    (pair_run counted 2 1 0
    ≡ map pos (10 ∷ 11 ∷ 12 ∷ 13 ∷ 14 ∷ 15 ∷ 16 ∷ 17 ∷ 18 ∷ 110 ∷ 111 ∷ 112 ∷ 113 ∷ 114 ∷ 115 ∷ 116 ∷ 117 ∷ 118 ∷ []))
    × (pair_run counted 2 1 1 ≡ map pos (210 ∷ 211 ∷ 212 ∷ 213 ∷ 214 ∷ 215 ∷ 216 ∷ 217 ∷ 218 ∷ []))
pairs = (refl, refl)

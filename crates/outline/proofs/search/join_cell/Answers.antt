-- `outline::search::join_cell` meets its contract: each of its three joins is one edge, where there is such an edge.
use mathlib.Core.Bool.{true, false}
use mathlib.Core.List.{List}
use Prim.Native.Nat.{ℕ, ◌+◌, ◌-◌, ◌*◌, ◌≤◌}
use Rattle.net.specs.Net.{triangle_at}
use Rattle.net.proofs.Places.{good_size}
use Rattle.outline.specs.Outline.{triangles}
use Rattle.outline.specs.Search.{Searched}
use Rattle.outline.proofs.Numbers.{few_triangles, CellBytes, cell_bytes}
use Rattle.outline.proofs.SearchLaws.{JoinsEdge, can_join, searched_on, own_joined, beside_joined, above_joined, cell_joined}
use Rattle.outline.proofs.search.join_cell.Goals as goal
use Rattle.outline.proofs.search.join_cell.Goals.{After-join_present, After-join_present-2, Start}

-- the bytes of the cell and of the two beside it lie in the outline
module _ (s : Start) where
  abbrev outline : List ℕ
  outline = s.args.outline.now

  abbrev w : ℕ
  w = s.args.w

  abbrev h : ℕ
  h = s.args.h

  abbrev i : ℕ
  i = s.args.i

  abbrev j : ℕ
  j = s.args.j

  bytes : CellBytes w h i j (2 * (j * (w - 1) + i))
  bytes = cell_bytes w h i j s.requires.1 s.requires.2

  few : triangles w h ≤ 2097152
  few = few_triangles w h s.requires.0.size

  narrow : w ≤ 1025
  narrow = (good_size w h s.requires.0.size).narrow

-- what each join has done, and what is known after it
module _ (c : After-join_present) where
  abbrev s₁ : Start
  s₁ = (goal.at.After-join_present c).Start

  own : JoinsEdge (outline s₁) (w s₁) (h s₁) (triangle_at (i s₁) (j s₁) false) (triangle_at (i s₁) (j s₁) true)
      s₁.args.links.now c.join_present.new.links
  own =
      own_joined (outline s₁) (w s₁) (h s₁) (i s₁) (j s₁) s₁.requires.1 s₁.requires.2 s₁.requires.0
      c.join_present.ensures

  after_own : Searched (outline s₁) (w s₁) (h s₁) c.join_present.new.links
  after_own = searched_on (outline s₁) (w s₁) (h s₁) s₁.requires.0 own.0

module _ (c : After-join_present-2) where
  abbrev before_beside : After-join_present
  before_beside = (goal.at.After-join_present-2 c).After-join_present

  abbrev s₂ : Start
  s₂ = s₁ before_beside

  beside : JoinsEdge (outline s₂) (w s₂) (h s₂) (triangle_at (i s₂) (j s₂) true) (triangle_at (i s₂ + 1) (j s₂) false)
      before_beside.join_present.new.links c.join_present-2.new.links
  beside =
      beside_joined (outline s₂) (w s₂) (h s₂) (i s₂) (j s₂) s₂.requires.1 s₂.requires.2 (after_own before_beside)
      c.join_present-2.ensures

  after_beside : Searched (outline s₂) (w s₂) (h s₂) c.join_present-2.new.links
  after_beside = searched_on (outline s₂) (w s₂) (h s₂) (after_own before_beside) beside.0

pub join_present-requires-2 : goal.join_present-requires-2
join_present-requires-2 c =
    let joined = (goal.at.join_present-requires-2 c).After-join_present in
    let s = s₁ joined in
    can_join (outline s) (w s) (h s) (after_own joined) (λ e. ((bytes s).own, (bytes s).beside e))

pub join_present-requires-3 : goal.join_present-requires-3
join_present-requires-3 c =
    let joined = (goal.at.join_present-requires-3 c).After-join_present-2 in
    let s = s₂ joined in
    can_join (outline s) (w s) (h s) (after_beside joined) (λ e. ((bytes s).own, (bytes s).above e))

pub returns : goal.returns
returns c =
    let joined = c in
    let beside_done = (goal.at.returns c).After-join_present-2 in
    let own_done = before_beside beside_done in
    let s = s₂ beside_done in
    cell_joined (outline s) (w s) (h s) (i s) (j s) s.requires.1 s.requires.2 s.requires.0 (own own_done)
    (beside beside_done)
    (above_joined (outline s) (w s) (h s) (i s) (j s) s.requires.1 s.requires.2 (after_beside beside_done)
    joined.join_present-3.ensures)

-- An outline whose triangles are all present: no triangle of the net is missing, from each one a walk leads to the up
-- triangle of cell (0, 0), along its row and then down the rows, and no byte is above 1.
use mathlib.Core.Path.{◌≡◌, ap, subst, ◌∙◌}
use mathlib.Core.Bool.{Bool, true, false, ◌||◌, not, or-false}
use mathlib.Core.List.{List}
use mathlib.Core.Logic.{inr}
use Prim.Native.Nat.{ℕ, zero, suc, ◌+◌, ◌≤◌, ◌<◌}
use native.Mathlib.Numerals.{add-one}
use native.Mathlib.Omega.{arith}
use lib.ListN.{length, get_or, take}
use lib.Seq.{get_or-take, length-take-le}
use borrow.Author.Tests.{eq-eqb, ltb-false}
use Rattle.net.specs.Net.{Triangle, triangle_at, OfNet}
use Rattle.graphs.specs.Walks.{Walk, start, step}
use Rattle.graphs.proofs.WalkLaws.{walk_on, walk_back, judged_yes}
use Rattle.outline.specs.Outline.{triangles, byte_of, present, Present}
use Rattle.outline.specs.Connected.{Adjacent, along_e1, along_e2, along_e3, Shared, Connected, connected}
use Rattle.outline.specs.Refusals.{short_outline, bad_byte, disconnected}
use Rattle.outline.specs.Promises.{Full, FullConnected}
use Rattle.outline.proofs.ByteLaws.{above_none}
use Rattle.outline.proofs.Numbers.{byte_below}
use Rattle.outline.proofs.Connected.{connected_judged}

-- what follows from the bytes alone
module _ (outline : List ℕ) (w h : ℕ) (ones : (n : ℕ) → n < triangles w h → get_or outline n 0 ≡ 1) where
  pub ones_present : (t : Triangle) → OfNet w h t → present outline w t ≡ true
  ones_present t o = eq-eqb (get_or outline (byte_of w t) 0) 1 (ones (byte_of w t) (byte_below w h t o))

  -- ---- walks

  abbrev Has : Triangle → Type 0
  Has = Present outline w h

  abbrev up : ℕ → ℕ → Triangle
  up i j = triangle_at i j false

  abbrev down : ℕ → ℕ → Triangle
  down i j = triangle_at i j true

  has : (t : Triangle) → OfNet w h t → Has t
  has t o = (o, ones_present t o)

  -- back over one edge
  over_edge : (t u : Triangle) → Adjacent t u → OfNet w h t → OfNet w h u → Walk (Shared Has) u t
  over_edge t u e o p = step u t start (inr (e, has t o, has u p))

  -- from the down triangle of a cell to its up triangle
  to_up : (i j : ℕ) → i + 2 ≤ w → j + 2 ≤ h → Walk (Shared Has) (down i j) (up i j)
  to_up i j a b = over_edge (up i j) (down i j) (along_e2 i j) (a, b) (a, b)

  along_row : (i j : ℕ) → i + 2 ≤ w → j + 2 ≤ h → Walk (Shared Has) (up i j) (up 0 j)
  along_row zero j a b = start
  along_row (suc i) j a b =
      let c : i + 2 ≤ w = omega (arith, a) in
      let d : i + 1 + 2 ≤ w = omega (arith, a) in
      subst (λ (n : ℕ). Walk (Shared Has) (up n j) (up 0 j)) (add-one i)
      (walk_on (over_edge (down i j) (up (i + 1) j) (along_e3 i j) (c, b) (d, b))
      (walk_on (to_up i j c b) (along_row i j c b)))

  down_rows : (j : ℕ) → 2 ≤ w → j + 2 ≤ h → Walk (Shared Has) (up 0 j) (up 0 0)
  down_rows zero a b = start
  down_rows (suc j) a b =
      let c : j + 2 ≤ h = omega (arith, b) in
      let d : j + 1 + 2 ≤ h = omega (arith, b) in
      subst (λ (n : ℕ). Walk (Shared Has) (up 0 n) (up 0 0)) (add-one j)
      (walk_on (over_edge (down 0 j) (up 0 (j + 1)) (along_e1 0 j) (a, c) (a, d))
      (walk_on (to_up 0 j a c) (down_rows j a c)))

  module _ (wide : 2 ≤ w) (high : 2 ≤ h) where
    to_first : (t : Triangle) → OfNet w h t → Walk (Shared Has) t (up 0 0)
    to_first t o = by t.down
      where
        from_up : Walk (Shared Has) (up t.column t.row) (up 0 0)
        from_up = walk_on (along_row t.column t.row o.0 o.1) (down_rows t.row wide o.1)

        by : (d : Bool) → Walk (Shared Has) (triangle_at t.column t.row d) (up 0 0)
        by false = from_up
        by true = walk_on (to_up t.column t.row o.0 o.1) from_up

    all_connected : Connected outline w h
    all_connected = (
      (up 0 0, has (up 0 0) (wide, high)),
      λ t u a b. walk_on (to_first t a.0) (walk_back (to_first u b.0)),
    )

pub full_connected : FullConnected
full_connected outline w h wide high ones = all_connected outline w h ones wide high

module _ (outline : List ℕ) (w h : ℕ) (full : Full outline w h) where
  -- row 2 is the net's, and 13 does not refuse
  pub full_two : (short : Bool) → (short || short_outline outline w h) ≡ short
  full_two short = ap (λ (b : Bool). short || b) full.long ∙ or-false short

  pub full_bytes : bad_byte outline w h ≡ false
  unfolding bad_byte
  full_bytes =
      let count = length-take-le (triangles w h) outline (ltb-false (length outline) (triangles w h) full.long) in
      above_none (take (triangles w h) outline)
      (λ n k.
      let l : n < triangles w h = omega (arith, k, count) in
      omega (arith, get_or-take (triangles w h) outline n 0 l, full.ones n l))

  pub full_present : (t : Triangle) → OfNet w h t → present outline w t ≡ true
  full_present = ones_present outline w h full.ones

  -- 14 does not refuse
  pub full_connected_yes : 2 ≤ w → 2 ≤ h → connected outline w h ≡ true
  full_connected_yes wide high =
      judged_yes (connected_judged outline w h) (full_connected outline w h wide high full.ones)

  pub full_not_disconnected : 2 ≤ w → 2 ≤ h → disconnected outline w h ≡ false
  full_not_disconnected wide high = ap not (full_connected_yes wide high)

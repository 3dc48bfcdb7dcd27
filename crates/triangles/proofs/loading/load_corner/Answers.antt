-- `triangles::loading::load_corner` meets its contract.
use mathlib.Core.List.{List}
use mathlib.Core.Path.{◌≡◌, sym, subst, ◌∙◌}
use Prim.Native.Nat.{ℕ, ◌+◌, ◌≤◌}
use lib.IntN.{ℤ}
use lib.ListN.{length}
use Rattle.net.specs.Net.{Index, rank, Triangle, triangle_at, corner, start, stride}
use Rattle.net.proofs.Places.{below_three}
use Rattle.triangles.specs.BezierPoints.{index_k, index_m, index_n}
use Rattle.triangles.proofs.Corners.{corner_ends}
use Rattle.triangles.proofs.CornerPlaces.{index_of, corner_controls_lem}
use Rattle.triangles.proofs.loading.load_corner.Goals as goal
use Rattle.triangles.proofs.loading.load_corner.Goals.{After-place_m-m, Start}

-- the corner as an index, where it begins, and where ck, cn and cm stand
module _ (c : After-place_m-m) where
  abbrev begin : Start
  begin = c.before.before.before.before

  abbrev net : List ℤ
  net = begin.args.net.now

  abbrev w : ℕ
  w = begin.args.w

  abbrev t : Triangle
  t = triangle_at begin.args.i begin.args.j begin.args.down

  found : (P : Index) × (begin.args.corner ≡ rank P)
  found = index_of begin.args.corner begin.requires.1

  abbrev P : Index
  P = found.0

  at_start : c.corner_start-at.result ≡ start w (corner t P)
  at_start = c.corner_start-at.ensures P found.1

  at_k : c.place_k-k.result ≡ rank (index_k t.down P)
  at_k = c.place_k-k.ensures P found.1

  at_n : c.place_n-n.result ≡ rank (index_n t.down P)
  at_n = c.place_n-n.ensures P found.1

  at_m : c.place_m-m.result ≡ rank (index_m t.down P)
  at_m = c.place_m-m.ensures P found.1

pub load_picked-requires : goal.load_picked-requires
load_picked-requires c =
    let a = (begin c).args in (
      subst (λ (n : ℕ). n + stride ≤ length (net c)) (sym (at_start c))
          (corner_ends (net c) (w c) a.i a.j (begin c).requires.0 a.down (P c)),
      below_three (index_k a.down (P c)) (at_k c),
      below_three (index_n a.down (P c)) (at_n c),
      below_three (index_m a.down (P c)) (at_m c),
    )

pub returns : goal.returns
returns c =
    let p = c.before in
    c.load_picked.ensures
    ∙ corner_controls_lem (net p) (w p) (t p) (P p) (found p).1 (at_start p) (at_k p) (at_n p) (at_m p)

-- `graphs::links::join` meets its contract: the greater of the two roots links to the smaller.
use mathlib.Core.Path.{◌≡◌}
use mathlib.Core.List.{List}
use Prim.Native.Nat.{ℕ, ◌≤◌, ◌<◌, min, max}
use native.Mathlib.Omega.{arith}
use lib.ListN.{length, set}
use Rattle.graphs.specs.Links.{JoinedAt}
use Rattle.graphs.proofs.LinkLaws.{root_below}
use Rattle.graphs.proofs.links.join.Goals as goal
use Rattle.graphs.proofs.links.join.Goals.{After-root_of-s}

module _ (c : After-root_of-s) where
  abbrev links : List ℕ
  links = c.args.links.now

  abbrev r : ℕ
  r = c.root_of-r.result

  abbrev s : ℕ
  s = c.root_of-s.result

  -- both roots have a link, and fit it
  small : (r < length links) × (s < length links) × (length links ≤ 2097152)
  small =
      let start = c in (
        omega (arith, start.requires.0, root_below c.root_of-r.ensures),
        omega (arith, start.requires.1, root_below c.root_of-s.ensures),
        start.requires.2,
      )

  joined : {hi lo : ℕ} → hi ≡ max r s → lo ≡ min r s →
      JoinedAt links (set links hi lo) c.args.a
      c.args.b
  joined high low =
      record {
        first = r;
        second = s;
        first_root = c.root_of-r.ensures;
        second_root = c.root_of-s.ensures;
        stored = λ k. set links (high k) (low k);
      }

pub overflow_cast-links : goal.overflow_cast-links
overflow_cast-links c = omega (arith, small c.before)

pub offset_bounds-links-s : goal.offset_bounds-links-s
offset_bounds-links-s c = omega (arith, small c.before)

pub bounds-links-s : goal.bounds-links-s
bounds-links-s c = omega (arith, small c.before)

pub overflow_cast-links-else-r-s : goal.overflow_cast-links-else-r-s
overflow_cast-links-else-r-s c = omega (arith, small c.before)

pub offset_bounds-links-r : goal.offset_bounds-links-r
offset_bounds-links-r c = omega (arith, small c.before)

pub bounds-links-r : goal.bounds-links-r
bounds-links-r c = omega (arith, small c.before)

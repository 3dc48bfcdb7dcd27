-- `surface::points::coordinate_at` meets its contract.
use mathlib.Core.Bool.{Bool}
use mathlib.Core.List.{[]}
use mathlib.Core.Path.{◌≡◌, sym, subst, ◌∙◌}
use Prim.Native.Nat.{ℕ, ◌*◌, ◌≤◌}
use lib.IntN.{ℤ, nat_abs}
use lib.ListN.{get_or}
use mir.Syntax.{w64}
use mir.Val.{to_z, of_z}
use Rattle.exact.proofs.SignedCode.{reads_as}
use Rattle.de_casteljau.specs.declared.points.Corner.{Corner}
use Rattle.de_casteljau.specs.Ordinates.{ordinates}
use Rattle.de_casteljau.specs.Averages.{last_average}
use Rattle.surface.specs.Evaluation.{corner_values}
use Rattle.surface.proofs.Evaluation.{corners_within, last_small}
use Rattle.surface.proofs.points.coordinate_at.Goals as goal
use Rattle.surface.proofs.points.coordinate_at.Goals.{After-last_average-last, Start}

-- the corners, and the last average of them
module _ (c : After-last_average-last) where
  abbrev start : Start
  start = (goal.at.After-last_average-last c).Start

  abbrev corner : ℕ → Corner
  corner n = corner_values (get_or start.args.c n []) start.args.x

  abbrev a : ℕ
  a = start.args.a

  abbrev b : ℕ
  b = start.args.b

  abbrev g : ℕ
  g = start.args.g

  abbrev ahead : Bool
  ahead = start.args.ahead

  last : to_z w64 (of_z w64 c.last_average-last.result) ≡ last_average a b g (ordinates ahead (corner 0) (corner 1) (corner 2))
  last =
      let p = c.corner_in-p.ensures in
      let q = c.corner_in-q.ensures in
      let t = c.corner_in-t.ensures in
      reads_as w64 c.last_average-last.result c.last_average-last.type_inv
      (c.last_average-last.ensures ∙ (λ k. last_average a b g (ordinates ahead (p k) (q k) (t k))))

pub round_point-requires : goal.round_point-requires
round_point-requires c =
    let s = start c in
    let h = corners_within 16777216 s.args.c s.args.x (s.requires.0.within s.args.x s.requires.1) in
    subst (λ (z : ℤ). nat_abs z ≤ 37748736 * 16777216) (sym (last c))
    (last_small (ahead c) (a c) (b c) (g c) (corner c 0) (corner c 1) (corner c 2) s.requires.0.gaps h.0 h.1 h.2)

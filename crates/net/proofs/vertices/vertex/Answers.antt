-- `net::vertices::vertex` meets its contract: an accepted vertex lies in the net.
use mathlib.Core.Path.{◌≡◌, sym, ap, ◌∙◌}
use mathlib.Core.List.{List}
use Prim.Native.Nat.{ℕ, ◌+◌, ◌-◌, ◌*◌, ◌≤◌}
use native.Mathlib.Omega.{arith}
use lib.IntN.{ℤ}
use lib.ListN.{length, take, drop}
use borrow.Author.Rules.{rules}
use Rattle.net.specs.Net.{vertex_at, start, stride}
use Rattle.net.specs.Refusals.{vertex_refusal}
use Rattle.net.proofs.Results.{refusal_there}
use Rattle.net.proofs.Places.{good_vertex, vertex_lies, accepted_part, refused_part}
use Rattle.net.proofs.vertices.vertex.Goals as goal
use Rattle.net.proofs.vertices.vertex.Goals.{In-Ok}

module _ (c : In-Ok) where
  abbrev net : List ℤ
  net = c.args.net.now

  abbrev w : ℕ
  w = c.args.w

  abbrev h : ℕ
  h = c.args.h

  abbrev i : ℕ
  i = c.args.i

  abbrev j : ℕ
  j = c.args.j

  none : vertex_refusal net w h i j ≡ 0
  none = sym c.in-Ok.ensures

  lies : (start w (vertex_at i j) + stride ≤ length net) × (start w (vertex_at i j) + stride ≤ stride * 1050625)
  lies = vertex_lies net w h i j (good_vertex net w h i j none)

pub returns-in-Ok : goal.returns-in-Ok
returns-in-Ok c =
    let t = (goal.at.returns-in-Ok c).In-Ok in
    let at = start (w t) (vertex_at (i t) (j t)) in
    let all : at + stride - at ≡ stride = omega arith in
    ap (λ (n : ℕ). take n (drop at (net t))) all ∙ accepted_part (net t) (w t) (h t) (i t) (j t) (none t)

pub returns-in-Err : goal.returns-in-Err
returns-in-Err c = refused_part _ _ _ _ _ (λ e. refusal_there _ (c.in-Err.ensures ∙ e))

pub slice_bounds-result-end : goal.slice_bounds-result-end
slice_bounds-result-end c = let l = lies c in search (rules, l)

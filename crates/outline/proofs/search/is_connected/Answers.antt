-- `outline::search::is_connected` meets its contract.
use mathlib.Core.Path.{◌≡◌, ap, ◌∙◌}
use mathlib.Core.List.{List}
use Prim.Native.Nat.{ℕ}
use native.Mathlib.Omega.{arith}
use lib.ListN.{length, take, drop}
use lib.Seq.{length-take-le, length_front, drop_at}
use borrow.Author.Rules.{rules}
use Rattle.graphs.proofs.WalkLaws.{judged_once}
use Rattle.outline.specs.Outline.{triangles}
use Rattle.outline.proofs.Connected.{connected_judged}
use Rattle.outline.proofs.search.is_connected.Goals as goal
use Rattle.outline.proofs.search.is_connected.Goals.{After-count_triangles-n, Start}

-- the part of the search that is lent has one number a triangle
module _ (c : After-count_triangles-n) where
  abbrev begun : Start
  begun = (goal.at.After-count_triangles-n c).Start

  abbrev n : ℕ
  n = c.count_triangles-n.result

  abbrev old : List ℕ
  old = begun.args.search.now

  room : length (take n old) ≡ n
  room = length-take-le n old (omega (arith, c.count_triangles-n.ensures, begun.requires.1))

pub returns : goal.returns
returns c =
    let call = c in
    let k = (goal.at.returns c).After-count_triangles-n in
    let s = begun k in
    let e = k.count_triangles-n.ensures in
    let links = call.connected_over.new.links in
    let long : length links ≡ length (take (n k) (old k)) = search rules in record {
      value = judged_once call.connected_over.ensures
          (connected_judged s.args.outline.now s.args.size.w s.args.size.h);
      unchanged_from = (
        length_front (old k) links (n k) long,
        drop_at links (drop (n k) (old k)) (triangles s.args.size.w s.args.size.h) (long ∙ room k ∙ e)
            ∙ ap (λ (m : ℕ). drop m (old k)) e,
      );
    }

-- `outline::search::join_row` meets its contract: the loop has joined the cells of the row before i.
use Rattle.outline.specs.Search.{Joined, InRowBefore}
use Rattle.outline.proofs.search.join_row.Given as goal

abbrev pub invariant-loop-i : goal.invariant-loop-i
invariant-loop-i l = Joined (InRowBefore l.i l.j) l.outline l.w l.h l.initial.links l.links

-- `outline::search::join_cells` meets its contract: the loop has joined the rows before j.
use Rattle.outline.specs.Search.{Joined, InRowsBefore}
use Rattle.outline.proofs.search.join_cells.Given as goal

abbrev pub invariant-loop-j : goal.invariant-loop-j
invariant-loop-j l = Joined (InRowsBefore l.j) l.outline l.w l.h l.initial.links l.links

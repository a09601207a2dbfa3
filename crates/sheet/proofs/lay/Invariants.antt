-- `sheet::lay` meets its contract. The loop's invariant: the lines of the pages passed stand behind
-- the id. Assumes nothing.
use Rattle.sheet.proofs.Sheets.{Stacked}
use Rattle.sheet.proofs.lay.Given as goal

abbrev pub invariant-loop-k : goal.invariant-loop-k
invariant-loop-k g l = Stacked g.L.Lines.of l.c l.size l.n l.initial.out l.at l.k l.out

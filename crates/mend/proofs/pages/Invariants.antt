-- `mend::pages` meets its contract. The loop's invariant: the page blocks passed are mended and
-- counted. Assumes nothing.
use Rattle.mend.proofs.Mending.{Mending}
use Rattle.mend.proofs.pages.Given as goal

abbrev pub invariant-loop-k : goal.invariant-loop-k
invariant-loop-k l = Mending l.initial.c l.k l.count l.c

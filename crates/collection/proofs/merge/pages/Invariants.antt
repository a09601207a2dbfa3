-- `merge::pages` meets its contract. The loop's invariant: the first k pages are joined, and the
-- rest is as it was. Assumes nothing.
use Rattle.collection.proofs.Loops.{Joining}
use Rattle.collection.proofs.merge.pages.Given as goal

abbrev pub invariant-loop-k : goal.invariant-loop-k
invariant-loop-k l = Joining l.id l.o l.initial.c l.k l.c

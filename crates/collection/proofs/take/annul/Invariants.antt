-- `take::annul` meets its contract. The loop's invariant: the first k pages are absent, and the
-- rest is as it was. Assumes nothing.
use Rattle.collection.proofs.Loops.{Clearing}
use Rattle.collection.proofs.take.annul.Given as goal

abbrev pub invariant-loop-k : goal.invariant-loop-k
invariant-loop-k l = Clearing l.id l.initial.c l.k l.c

-- `notes::feed` meets its contract. The loop's invariant: what is left of the part is left to do
-- and to note. Assumes nothing.
use Rattle.notes.proofs.Steps.{Noting}
use Rattle.notes.proofs.feed.Given as goal

abbrev pub invariant-loop-b : goal.invariant-loop-b
invariant-loop-b l = Noting l.part l.initial.line l.initial.c l.initial.notes l.initial.now l.line l.c l.notes l.now l.b-index

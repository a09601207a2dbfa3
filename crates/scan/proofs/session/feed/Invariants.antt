-- `feed` meets its contract. The loop's invariant: what is left of the part is left to do.
-- Assumes nothing.
use Rattle.scan.proofs.Sessions.{Feeding}
use Rattle.scan.proofs.session.feed.Given as goal

abbrev pub invariant-loop-b : goal.invariant-loop-b
invariant-loop-b l = Feeding l.part l.initial.line l.initial.c l.initial.now l.line l.c l.now l.b-index

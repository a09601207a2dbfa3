-- `book::tally::lowest` meets its contract. The loop's invariant: no page passed is in the state.
-- Assumes nothing.
use Rattle.book.proofs.Turns.{Passed}
use Rattle.book.proofs.tally.lowest.Given as goal

abbrev pub invariant-loop-k : goal.invariant-loop-k
invariant-loop-k l = Passed l.c l.total l.state l.k

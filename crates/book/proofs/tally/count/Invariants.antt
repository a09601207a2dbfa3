-- `book::tally::count` meets its contract. The loop's invariant: so many of the pages passed are in
-- the state. Assumes nothing.
use Rattle.book.proofs.Turns.{Counted}
use Rattle.book.proofs.tally.count.Given as goal

abbrev pub invariant-loop-i : goal.invariant-loop-i
invariant-loop-i l = Counted l.c l.total l.state l.i l.n

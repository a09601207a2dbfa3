-- `book::judge` meets its contract. The loop's invariant: the blocks passed are well formed, and
-- the rest decides. Assumes nothing.
use Rattle.book.proofs.Judging.{Passed}
use Rattle.book.proofs.judge.Given as goal

abbrev pub invariant-loop-k : goal.invariant-loop-k
invariant-loop-k l = Passed l.c l.k

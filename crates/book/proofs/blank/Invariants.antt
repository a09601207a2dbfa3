-- `book::blank` meets its contract. The loop's invariant: the pages passed are absent, and nothing
-- else has changed. Assumes nothing.
use Rattle.book.proofs.Pages.{Blanked}
use Rattle.book.proofs.blank.Given as goal

abbrev pub invariant-loop-i : goal.invariant-loop-i
invariant-loop-i l = Blanked l.id l.initial.c l.i l.c

-- `finish::Pages::size` meets its contract. The loop's invariant: the bytes of the pages passed are
-- counted. Assumes nothing.
use Rattle.finish.proofs.Gathering.{Sized}
use Rattle.finish.proofs.Pages.size.Given as goal

abbrev pub invariant-loop-page : goal.invariant-loop-page
invariant-loop-page l = Sized l.self.c.now l.self.total l.page l.len

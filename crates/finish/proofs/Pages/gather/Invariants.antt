-- `finish::Pages::gather` meets its contract. The loop's invariant: the data of the pages passed
-- stand in front. Assumes nothing.
use Rattle.finish.proofs.Gathering.{Gathering}
use Rattle.finish.proofs.Pages.gather.Given as goal

abbrev pub invariant-loop-page : goal.invariant-loop-page
invariant-loop-page l = Gathering l.self.c.now l.self.total l.initial.out l.page l.len l.out

-- `finish::Pages::pull` meets its contract. The loop's invariant: what was pulled so far, and what
-- stands behind the cursor, are what stood behind it at first. Assumes nothing.
use Rattle.finish.proofs.Pulling.{Pulling}
use Rattle.finish.proofs.Pages.pull.Given as goal

abbrev pub invariant-loop-page : goal.invariant-loop-page
invariant-loop-page l = Pulling l.self.c.now l.self.total l.first l.initial.at l.initial.b l.b l.page l.at l.n

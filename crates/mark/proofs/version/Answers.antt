-- `mark::version` meets its contract: what the varint reader answered picks its case.
-- Assumes nothing.
use Rattle.mark.specs.Mark.{version_at}
use Rattle.wire.proofs.Answers.{reads, off}
use Rattle.mark.proofs.version.Goals as goal

pub returns-in_default : goal.returns-in_default
unfolding version_at
returns-in_default c = off _ _ _ _ (rw c.unwrap_err.ensures at c.read-r.ensures)

pub returns-then-n-ne1 : goal.returns-then-n-ne1
unfolding version_at
returns-then-n-ne1 c = search (reads, c.in-Ok.ensures)

pub returns : goal.returns
unfolding version_at
returns c = search (reads, c.in-Ok.ensures)

-- `status::status` meets its contract, for each state of the head. Assumes nothing.
use Rattle.status.proofs.Lines.{written_as, line_refused, line_empty, line_disagree, line_pages}
use Rattle.status.proofs.status.Goals as goal

pub returns-in-Err : goal.returns-in-Err
returns-in-Err c = search (written_as, line_refused, c.in-Err.ensures)

pub returns-in-0 : goal.returns-in-0
returns-in-0 c = search (written_as, line_empty, c.in_default.ensures)

pub returns-in-1 : goal.returns-in-1
returns-in-1 c = search (written_as, line_pages, c.in_default.ensures)

pub returns-in_default-state : goal.returns-in_default-state
returns-in_default-state c = search (written_as, line_disagree, c.in_default.ensures)

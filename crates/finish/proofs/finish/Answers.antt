-- `finish::finish` meets its contract, for each state of the head. Assumes nothing.
use Rattle.finish.proofs.Finishing.{bad_collection, none_yet, totals_disagree, most_total, has_pages}
use Rattle.finish.proofs.finish.Goals as goal

pub returns-in_err-judge : goal.returns-in_err-judge
returns-in_err-judge c = bad_collection _ _ _ _ c.in_err-judge.ensures c.from_residual.ensures

pub returns-in-0 : goal.returns-in-0
returns-in-0 c = search (none_yet, c.in_ok-judge.ensures)

pub invariant_of-pages : goal.invariant_of-pages
invariant_of-pages c = record { most = search (most_total, c.in_ok-judge.ensures) }

pub returns-in-1 : goal.returns-in-1
returns-in-1 c = search (has_pages, c.in_ok-judge.ensures)

pub returns-in_default : goal.returns-in_default
returns-in_default c = search (totals_disagree, c.in_ok-judge.ensures)

-- `typing::faults::close` meets its contract. Assumes nothing.
use Rattle.typing.proofs.Counting.{close_wrong, close_surplus, close_on}
use Rattle.typing.proofs.faults.close.Goals as goal

pub returns-then-not-fits : goal.returns-then-not-fits
returns-then-not-fits c = search close_wrong

pub returns-then-a-eq-MOST_LINES : goal.returns-then-a-eq-MOST_LINES
returns-then-a-eq-MOST_LINES c = search close_surplus

pub returns : goal.returns
returns c = search close_on

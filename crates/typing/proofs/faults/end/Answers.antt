-- `typing::faults::end` meets its contract. Assumes nothing.
use Rattle.typing.proofs.Counting.{ended_right, ended_wrong}
use Rattle.typing.proofs.faults.end.Goals as goal

pub returns-then-fits : goal.returns-then-fits
returns-then-fits c = rw c.from.ensures (ended_right _ _ c.fits.ensures c.if-fits.true)

pub returns : goal.returns
returns c = search ended_wrong

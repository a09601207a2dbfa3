-- `typing::faults::fits` meets its contract. Assumes nothing.
use Rattle.typing.proofs.Counting.{last_few, last_fits, full_fits}
use Rattle.typing.proofs.faults.fits.Goals as goal

pub returns-then-count-ge3 : goal.returns-then-count-ge3
returns-then-count-ge3 c = search last_fits

pub returns-else-count-ge3 : goal.returns-else-count-ge3
returns-else-count-ge3 c = search last_few

pub returns-else-last : goal.returns-else-last
returns-else-last c = search full_fits

-- `typing::lay::scan` meets its contract. Assumes nothing.
use Rattle.typing.proofs.Laying.{scan_laid}
use Rattle.typing.proofs.lay.scan.Goals as goal

pub returns : goal.returns
returns c = search scan_laid

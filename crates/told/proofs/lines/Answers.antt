-- `told::lines` meets its contract. Assumes nothing.
use Rattle.told.proofs.Counts.{counts_laid}
use Rattle.told.proofs.lines.Goals as goal

pub returns : goal.returns
returns c = search counts_laid

-- `told::named` meets its contract. Assumes nothing.
use Rattle.told.proofs.Counts.{name_laid}
use Rattle.told.proofs.named.Goals as goal

pub returns : goal.returns
returns c = search name_laid

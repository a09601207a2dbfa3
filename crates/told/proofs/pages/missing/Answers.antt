-- `told::pages::missing` meets its contract. Assumes nothing.
use Rattle.told.proofs.Speech.{written_as}
use Rattle.told.proofs.Lists.{missing_as}
use Rattle.told.proofs.pages.missing.Goals as goal

pub returns : goal.returns
returns c = search (written_as, missing_as)

-- `told::pages::disputed` meets its contract. Assumes nothing.
use Rattle.told.proofs.Speech.{written_as}
use Rattle.told.proofs.Lists.{disputed_as}
use Rattle.told.proofs.pages.disputed.Goals as goal

pub returns : goal.returns
returns c = search (written_as, disputed_as)

-- `told::pages::below` meets its contract. Assumes nothing.
use Rattle.told.proofs.Lists.{below_none, below_some}
use Rattle.told.proofs.pages.below.Goals as goal

pub returns-then-count-eq0 : goal.returns-then-count-eq0
returns-then-count-eq0 c = search below_none

pub returns : goal.returns
returns c = search below_some

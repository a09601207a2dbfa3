-- `told::pages::list` meets its contract. Assumes nothing.
use Rattle.told.proofs.Speech.{written_as}
use Rattle.told.proofs.Lists.{list_refused, list_pageless, list_most, list_pages}
use borrow.Author.Rules.{rules}
use Rattle.told.proofs.pages.list.Goals as goal

pub returns-in_default : goal.returns-in_default
returns-in_default c = search (written_as, list_refused)

pub returns-then-state-ne-COLLECTING : goal.returns-then-state-ne-COLLECTING
returns-then-state-ne-COLLECTING c = search (written_as, list_pageless)

pub below-requires : goal.below-requires
below-requires c = (search list_most, search rules)

pub returns : goal.returns
returns c = search (written_as, list_pages)

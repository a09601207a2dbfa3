-- `finish::Pages::judged` meets its contract: 15, then 16, then the data. Assumes nothing.
use Rattle.finish.proofs.Finishing.{page_disputed, page_missing, all_there}
use Rattle.finish.proofs.Pages.judged.Goals as goal

pub returns-then-disputed-self : goal.returns-then-disputed-self
returns-then-disputed-self c = search page_disputed

pub returns-then-missing-self : goal.returns-then-missing-self
returns-then-missing-self c = search page_missing

pub returns : goal.returns
returns c = search all_there

-- `finish::Pages::contents` meets its contract. Assumes nothing.
use Rattle.finish.proofs.Gathering.{page_said}
use Rattle.finish.proofs.Pages.contents.Goals as goal

pub returns : goal.returns
returns c = search page_said

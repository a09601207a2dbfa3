-- `frame::form::start` meets its contract: writes in a row are one. Assumes nothing.
use Rattle.frame.proofs.Laying.{start_laid}
use Rattle.frame.proofs.form.start.Goals as goal

pub returns : goal.returns
returns c = search start_laid

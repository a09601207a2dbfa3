-- `mark::lay` meets its contract: two writes in a row are one. Assumes nothing.
use Rattle.mark.proofs.Marks.{lay_short, lay_done}
use Rattle.mark.proofs.lay.Goals as goal

pub returns-then-out-n : goal.returns-then-out-n
returns-then-out-n c = search lay_short

pub returns : goal.returns
returns c = search lay_done

-- `slips::places::line_end` meets its contract. Assumes nothing.
use Rattle.slips.proofs.Lines.{reached_feed, reached_end}
use Rattle.slips.proofs.places.line_end.Goals as goal

pub returns-then-s-at : goal.returns-then-s-at
returns-then-s-at c = search reached_end

pub returns : goal.returns
returns c = search reached_feed

use Rattle.book.proofs.Turns.{passed_found, passed_on, passed_end}
use Rattle.book.proofs.tally.lowest.Goals as goal

pub returns-then-from-state : goal.returns-then-from-state
returns-then-from-state c = search passed_found

pub loop-k-preserved : goal.loop-k-preserved
loop-k-preserved c = search passed_on

pub returns : goal.returns
returns c = search passed_end

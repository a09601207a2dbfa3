-- `status::first` meets its contract. Assumes nothing.
use Rattle.status.proofs.Lines.{first_put, none_put}
use Rattle.status.proofs.first.Goals as goal

pub returns-then-lowest-total : goal.returns-then-lowest-total
returns-then-lowest-total c = first_put _ _ _ _ _ _ c.if-lowest-total.true c.named.ensures

pub returns : goal.returns
returns c = none_put _ _ _ _ _ c.if-lowest-total.false c.copy.ensures

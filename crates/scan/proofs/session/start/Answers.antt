-- `start` meets its contract. Assumes nothing.
use Rattle.scan.proofs.Sessions.{start_refused, start_open}
use Rattle.scan.proofs.session.start.Goals as goal

pub returns-in_default : goal.returns-in_default
returns-in_default c = search start_refused

pub returns : goal.returns
returns c = search start_open

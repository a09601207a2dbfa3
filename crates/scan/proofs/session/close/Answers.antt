-- `close` meets its contract. Assumes nothing.
use Rattle.scan.proofs.Sessions.{close_none, close_line}
use Rattle.scan.proofs.session.close.Goals as goal

pub returns-then-s-eq0 : goal.returns-then-s-eq0
returns-then-s-eq0 c = search close_none

pub returns : goal.returns
returns c = search close_line

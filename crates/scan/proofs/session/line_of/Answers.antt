-- `line_of` meets its contract. Assumes nothing.
use Rattle.scan.proofs.Sessions.{line_there, line_none}
use Rattle.scan.proofs.session.line_of.Goals as goal

pub returns-then-len-line : goal.returns-then-len-line
returns-then-len-line c = search line_there

pub returns : goal.returns
returns c = search line_none

-- `byte` meets its contract. Assumes nothing.
use Rattle.scan.proofs.Sessions.{byte_end, byte_push}
use Rattle.scan.proofs.session.byte.Goals as goal

pub returns-then-b-eq10 : goal.returns-then-b-eq10
returns-then-b-eq10 c = search byte_end

pub returns : goal.returns
returns c = search byte_push

-- `push` meets its contract. Assumes nothing.
use Rattle.scan.proofs.Sessions.{push_more, push_full}
use Rattle.scan.proofs.session.push.Goals as goal

pub returns-then-len-le-LINE_MOST : goal.returns-then-len-le-LINE_MOST
returns-then-len-le-LINE_MOST c = search push_more

pub returns : goal.returns
returns c = search push_full

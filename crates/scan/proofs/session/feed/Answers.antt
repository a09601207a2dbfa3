use Rattle.scan.proofs.Sessions.{feed_none, feed_on, feed_end}
use Rattle.scan.proofs.session.feed.Goals as goal

pub loop-b-init : goal.loop-b-init
loop-b-init c = search feed_none

pub loop-b-preserved : goal.loop-b-preserved
loop-b-preserved c = search feed_on

pub returns : goal.returns
returns c = search feed_end

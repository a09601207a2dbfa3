-- `typing::faults::feed` meets its contract. Assumes nothing.
use Rattle.typing.proofs.Counting.{feed_closed, feed_skipped, feed_counted}
use Rattle.typing.proofs.faults.feed.Goals as goal

pub returns-then-c-eq-FEED : goal.returns-then-c-eq-FEED
returns-then-c-eq-FEED c = search feed_closed

pub returns-then-skipped : goal.returns-then-skipped
returns-then-skipped c = search feed_skipped

pub returns : goal.returns
returns c = search feed_counted

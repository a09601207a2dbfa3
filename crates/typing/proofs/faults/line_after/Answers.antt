-- `typing::faults::line_after` meets its contract. Assumes nothing.
use Rattle.typing.proofs.Searching.{after_feed, after_other}
use Rattle.typing.proofs.faults.line_after.Goals as goal

pub returns-then-c-eq-FEED : goal.returns-then-c-eq-FEED
returns-then-c-eq-FEED c = search after_feed

pub returns : goal.returns
returns c = search after_other

-- `slips::feeds` meets its contract: the line feeds are counted. Assumes nothing.
use borrow.Author.Rules.{rules}
use Rattle.slips.proofs.Lines.{feeds_counted}
use Rattle.slips.proofs.feeds.Goals as goal

pub returns : goal.returns
returns c = rw (feeds_counted c.args.s.now) (search rules)

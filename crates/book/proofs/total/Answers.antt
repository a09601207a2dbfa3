-- `book::total` meets its contract. Assumes nothing.
use Rattle.std.proofs.Common.{rules}
use Rattle.book.specs.Head.{read_head}
use Rattle.book.proofs.total.Goals as goal

pub returns : goal.returns
unfolding read_head
returns c = search rules

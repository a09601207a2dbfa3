-- `book::head_body` meets its contract: five writes in a row. Assumes nothing.
use Rattle.book.proofs.Heads.{head_laid}
use Rattle.book.proofs.head_body.Goals as goal

pub returns : goal.returns
returns c = search head_laid

-- `block::body` meets its contract: five writes in a row. Assumes nothing.
use Rattle.block.proofs.Writing.{body_laid}
use Rattle.block.proofs.body.Goals as goal

pub returns : goal.returns
returns c = search body_laid

-- `block::front` meets its contract: four writes in a row. Assumes nothing.
use Rattle.block.proofs.Writing.{front_laid}
use Rattle.block.proofs.front.Goals as goal

pub returns : goal.returns
returns c = search front_laid

-- `block::hold` meets its contract: the block of state 1 with this data. Assumes nothing.
use Rattle.model.specs.Book.{data_of}
use Rattle.block.specs.Block.{state_of, page_block, has_block, with_page}
use Rattle.block.proofs.hold.Goals as goal

pub returns : goal.returns
unfolding with_page has_block page_block state_of data_of
returns c = c.write.ensures

-- `block::dispute` meets its contract: the block of state 2 with no data. Assumes nothing.
use Rattle.model.specs.Book.{data_of}
use Rattle.block.specs.Block.{state_of, page_block, has_block, with_page}
use Rattle.block.proofs.dispute.Goals as goal

pub returns : goal.returns
unfolding with_page has_block page_block state_of data_of
returns c = c.write.ensures

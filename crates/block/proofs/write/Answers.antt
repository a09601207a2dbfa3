-- `block::write` meets its contract: all before the sum, then the sum; nothing where there is no
-- such block or no room. Assumes nothing.
use Rattle.block.proofs.Writing.{write_short, write_far, write_done}
use Rattle.block.proofs.write.Goals as goal

pub returns-then-out-lt-BLOCK_SIZE : goal.returns-then-out-lt-BLOCK_SIZE
returns-then-out-lt-BLOCK_SIZE c = search write_short

pub returns-then-out-at : goal.returns-then-out-at
returns-then-out-at c = search write_far

pub returns : goal.returns
returns c = search write_done

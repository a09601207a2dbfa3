-- `block::seal` meets its contract: the sum of what stands there is put behind it; without room for
-- the block nothing changes. Assumes nothing.
use native.Mathlib.Omega.{arith}
use Rattle.block.proofs.Writing.{sum_out, sum_laid}
use Rattle.block.proofs.seal.Goals as goal

pub returns-then-out-lt-BLOCK_SIZE : goal.returns-then-out-lt-BLOCK_SIZE
returns-then-out-lt-BLOCK_SIZE c = sum_out _ _ (omega arith)

pub returns-then-out-at : goal.returns-then-out-at
returns-then-out-at c = sum_out _ _ (omega arith)

pub returns : goal.returns
returns c = search sum_laid

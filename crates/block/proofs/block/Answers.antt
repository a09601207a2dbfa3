-- `block::block` meets its contract: 512 bytes, or none. Assumes nothing.
use native.Mathlib.Omega.{arith}
use Rattle.block.proofs.Reading.{block_none, block_part}
use Rattle.block.proofs.block.Goals as goal

pub returns-then-c-lt-BLOCK_SIZE : goal.returns-then-c-lt-BLOCK_SIZE
returns-then-c-lt-BLOCK_SIZE c = block_none _ _ (omega arith)

pub returns-then-c-at : goal.returns-then-c-at
returns-then-c-at c = block_none _ _ (omega arith)

pub returns : goal.returns
returns c = block_part _ _ (omega arith)

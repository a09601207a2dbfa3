-- `block::state` meets its contract, by the state byte. Assumes nothing.
use Rattle.block.proofs.Reading.{state_none, state_zero, state_one, state_other}
use Rattle.block.proofs.state.Goals as goal

pub returns-then-b-lt-BLOCK_SIZE : goal.returns-then-b-lt-BLOCK_SIZE
returns-then-b-lt-BLOCK_SIZE c = search state_none

pub returns-in-0 : goal.returns-in-0
returns-in-0 c = state_zero _ _ c.block-b.ensures c.in-0.is

pub returns-in-1 : goal.returns-in-1
returns-in-1 c = state_one _ _ c.block-b.ensures c.in-1.is

pub returns-in_default : goal.returns-in_default
returns-in_default c = search state_other

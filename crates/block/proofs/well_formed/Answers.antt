-- `block::well_formed` meets its contract: the block is written anew from what it says, and
-- compared. Assumes nothing.
use Rattle.block.proofs.Reading.{ok_id, ok_again}
use Rattle.block.proofs.well_formed.Goals as goal

pub returns-then-id-ne-ID_SIZE : goal.returns-then-id-ne-ID_SIZE
returns-then-id-ne-ID_SIZE c = search ok_id

pub returns : goal.returns
returns c = search ok_again

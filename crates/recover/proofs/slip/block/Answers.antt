-- `recover::slip::block` meets its contract. Assumes nothing.
use Rattle.recover.proofs.Payloads.{block_said}
use Rattle.recover.proofs.slip.block.Goals as goal

pub returns : goal.returns
returns c = search block_said

-- `split::Dealing::block` meets its contract. Assumes nothing.
use Rattle.split.proofs.Turns.{block_made}
use Rattle.split.proofs.Dealing.block.Goals as goal

pub returns : goal.returns
returns c = search block_made

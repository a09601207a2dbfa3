-- `blake2b::add` meets its contract. Both sums wrap as the standard library's do. Assumes nothing.
use Rattle.bits.specs.Word.{plus}
use Rattle.blake2b.specs.Blake2b.{add}
use Rattle.blake2b.proofs.add.Goals as goal

pub returns : goal.returns
unfolding add plus
returns c = cc

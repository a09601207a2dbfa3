-- `blake2b::start` meets its contract. The store is that of the definition. Assumes nothing.
use Rattle.std.proofs.Common.{refl}
use Rattle.blake2b.specs.Blake2b.{iv, start}
use Rattle.blake2b.proofs.start.Goals as goal

pub returns : goal.returns
unfolding iv start
returns c = refl

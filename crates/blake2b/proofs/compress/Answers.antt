-- `blake2b::compress` meets its contract. The code's table is the table of the definition.
-- Assumes nothing.
use Rattle.std.proofs.Common.{refl}
use Rattle.blake2b.specs.Blake2b.{sigma, F}
use Rattle.blake2b.proofs.compress.Goals as goal

pub rounds-requires : goal.rounds-requires
unfolding sigma
rounds-requires c = refl

pub returns : goal.returns
unfolding F
returns c = cc

-- `sha256::round` meets its contract: from the functions that it calls.
use Rattle.bits.specs.Word.{plus}
use Rattle.sha256.specs.Sha.{round, T1, T2}
use Rattle.sha256.proofs.round.Goals as goal

pub returns : goal.returns
unfolding round T1 T2 plus
returns c = cc

-- `sha256::sum` meets its contract: word by word.
use Rattle.bits.specs.Word.{plus}
use Rattle.sha256.specs.Sha.{sum}
use Rattle.sha256.proofs.sum.Goals as goal

pub returns : goal.returns
unfolding sum plus
returns c = cc

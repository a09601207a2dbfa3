-- `sha256::next` meets its contract: from the functions that it calls, at words below t.
use Rattle.bits.specs.Word.{plus}
use Rattle.sha256.specs.Sha.{next}
use Rattle.sha256.proofs.next.Goals as goal

pub returns : goal.returns
unfolding next plus
returns c = cc

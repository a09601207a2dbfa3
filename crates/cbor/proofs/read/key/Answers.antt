-- `cbor::read::key` meets its contract: a byte, and the contents after it. Assumes nothing.
use Rattle.cbor.specs.Item.{key_at}
use Rattle.wire.proofs.Answers.{reads, handed_step}
use Rattle.cbor.proofs.read.key.Goals as goal

pub returns-then-len-ge24 : goal.returns-then-len-ge24
unfolding key_at
returns-then-len-ge24 c = search reads depth 12

pub returns-in_err-next : goal.returns-in_err-next
unfolding key_at
returns-in_err-next c = search (reads, handed_step _ _ c.from_residual.ensures, c.in_err-next.ensures) depth 12

pub returns : goal.returns
unfolding key_at
returns c = search (reads, c.in_ok-next.ensures) depth 12

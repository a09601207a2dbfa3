-- `cbor::read::any_field` meets its contract: a key, then a look at one byte. Assumes nothing.
use Rattle.cbor.specs.Item.{any_field_at}
use Rattle.wire.proofs.Answers.{reads, handed}
use Rattle.cbor.proofs.read.any_field.Goals as goal

pub returns-in_err-next : goal.returns-in_err-next
unfolding any_field_at
returns-in_err-next c = search (reads, handed _ _ c.from_residual.ensures, c.in_err-next.ensures) depth 24

pub returns-in_err-n : goal.returns-in_err-n
unfolding any_field_at
returns-in_err-n c = search (reads, handed _ _ c.from_residual-in_err-n.ensures, c.in_ok-next.ensures, c.in_err-n.ensures) depth 24

pub returns : goal.returns
unfolding any_field_at
returns c = search (reads, c.in_ok-next.ensures, c.in_ok-n.ensures) depth 24

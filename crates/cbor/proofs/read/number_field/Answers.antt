-- `cbor::read::number_field` meets its contract: a key, and a number after it. Assumes nothing.
use Rattle.cbor.specs.Item.{number_field_at}
use Rattle.wire.proofs.Answers.{handed}
use Rattle.cbor.proofs.Answers.{chain}
use Rattle.cbor.proofs.read.number_field.Goals as goal

pub returns-in_err-next : goal.returns-in_err-next
unfolding number_field_at
returns-in_err-next c = search (chain, handed _ _ c.from_residual.ensures, c.in_err-next.ensures) depth 24

pub returns : goal.returns
unfolding number_field_at
returns c = search (chain, c.in_ok-next.ensures) depth 24

-- `cbor::read::string_field` meets its contract: a key, and a string after it. Assumes nothing.
use Rattle.cbor.specs.Item.{string_field_at}
use Rattle.wire.proofs.Answers.{reads, off}
use Rattle.cbor.proofs.Answers.{handed_fault}
use Rattle.cbor.proofs.read.string_field.Goals as goal

pub returns-in_err-next : goal.returns-in_err-next
unfolding string_field_at
returns-in_err-next g c = handed_fault _ _ g.met.E.Fault.laws.0 _ _ c.from_residual.ensures _ (off _ _ _ _ c.in_err-next.ensures)

pub returns : goal.returns
unfolding string_field_at
returns g c = search (reads, c.in_ok-next.ensures) depth 24

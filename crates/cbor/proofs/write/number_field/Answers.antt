-- `cbor::write::number_field` meets its contract: a key, and a number after it. Assumes nothing.
use Rattle.cbor.proofs.Writers.{number_field_none, number_field_none_later, number_field_done}
use Rattle.cbor.proofs.write.number_field.Goals as goal

pub returns-then-left-a : goal.returns-then-left-a
returns-then-left-a c = search number_field_none

pub returns-then-left-a-2 : goal.returns-then-left-a-2
returns-then-left-a-2 c = search number_field_none_later

pub returns : goal.returns
returns c = search number_field_done

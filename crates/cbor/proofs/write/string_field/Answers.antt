-- `cbor::write::string_field` meets its contract: a key, and a string after it. Assumes nothing.
use Rattle.cbor.proofs.Writers.{string_field_none, string_field_none_later, string_field_done}
use Rattle.cbor.proofs.write.string_field.Goals as goal

pub returns-then-left-a : goal.returns-then-left-a
returns-then-left-a c = search string_field_none

pub returns-then-left-a-2 : goal.returns-then-left-a-2
returns-then-left-a-2 c = search string_field_none_later

pub returns : goal.returns
returns c = search string_field_done

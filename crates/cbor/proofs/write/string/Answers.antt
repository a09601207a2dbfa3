-- `cbor::write::string` meets its contract: a head, and the contents after it. Assumes nothing.
use Rattle.cbor.proofs.Writers.{string_none, string_done, string_next}
use Rattle.cbor.proofs.write.string.Goals as goal

pub returns-then-saturating_sub-string_size : goal.returns-then-saturating_sub-string_size
returns-then-saturating_sub-string_size c = search string_none

pub overflow_add-result : goal.overflow_add-result
overflow_add-result c = search string_next

pub returns : goal.returns
returns c = search string_done

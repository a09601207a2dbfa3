-- `cbor::write::first_and_number` meets its contract: a byte, and the number's bytes after it.
-- Assumes nothing.
use Rattle.cbor.proofs.Writers.{number_none, number_done}
use Rattle.cbor.proofs.write.first_and_number.Goals as goal

pub returns-then-saturating_sub-k : goal.returns-then-saturating_sub-k
returns-then-saturating_sub-k c = search number_none

pub returns : goal.returns
returns c = search number_done

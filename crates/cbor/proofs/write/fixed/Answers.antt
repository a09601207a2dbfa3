-- `cbor::write::fixed` meets its contract: what does not fit changes nothing. Assumes nothing.
use Rattle.cbor.proofs.Writers.{fixed_none, fixed_done}
use Rattle.cbor.proofs.write.fixed.Goals as goal

pub returns-then-saturating_sub-item : goal.returns-then-saturating_sub-item
returns-then-saturating_sub-item c = search fixed_none

pub returns : goal.returns
returns c = search fixed_done

-- `cbor::write::head` meets its contract. Assumes nothing.
use Rattle.cbor.proofs.Writers.{head_done}
use Rattle.cbor.proofs.write.head.Goals as goal

pub returns : goal.returns
returns c = search head_done

-- `cbor::write::float` meets its contract. Assumes nothing.
use Rattle.cbor.proofs.Writers.{float_done}
use Rattle.cbor.proofs.write.float.Goals as goal

pub returns : goal.returns
returns c = search float_done

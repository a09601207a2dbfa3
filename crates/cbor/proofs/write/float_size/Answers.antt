-- `cbor::write::float_size` meets its contract. Assumes nothing.
use Rattle.cbor.proofs.Writers.{float_long}
use Rattle.cbor.proofs.write.float_size.Goals as goal

pub returns : goal.returns
returns c = search float_long

-- `cbor::write::float_alone` meets its contract. Assumes nothing.
use Rattle.cbor.proofs.Writers.{alone_infinite, alone_short, alone_done}
use Rattle.cbor.proofs.write.float_alone.Goals as goal

pub returns-then-not-finite : goal.returns-then-not-finite
returns-then-not-finite c = search alone_infinite

pub returns-then-out-len : goal.returns-then-out-len
returns-then-out-len c = search alone_short

pub returns : goal.returns
returns c = search alone_done

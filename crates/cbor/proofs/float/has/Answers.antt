-- `cbor::float::has` meets its contract. Assumes nothing.
use Rattle.cbor.proofs.Computed.{has_none, narrowed_ready, has_told}
use Rattle.cbor.proofs.float.has.Goals as goal

pub returns-then-a-n : goal.returns-then-a-n
returns-then-a-n c = search has_none

pub widen-requires : goal.widen-requires
widen-requires c = search narrowed_ready

pub returns : goal.returns
returns c = search has_told

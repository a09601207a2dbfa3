-- `cbor::read::byte` meets its contract, case by case of its test. Assumes nothing.
use Rattle.wire.proofs.Branch.{branch}
use Rattle.cbor.proofs.read.byte.Goals as goal

pub returns-then-at-s : goal.returns-then-at-s
returns-then-at-s c = search branch depth 12

pub returns : goal.returns
returns c = search branch depth 12

-- `cbor::read::one_byte` meets its contract, case by case of its tests. Assumes nothing.
use Rattle.wire.proofs.Branch.{branch}
use Rattle.cbor.specs.Item.{one_at}
use Rattle.cbor.proofs.read.one_byte.Goals as goal

pub returns-then-s-at : goal.returns-then-s-at
unfolding one_at
returns-then-s-at c = search branch depth 12

pub returns-then-s-at-2 : goal.returns-then-s-at-2
unfolding one_at
returns-then-s-at-2 c = search branch depth 12

pub returns : goal.returns
unfolding one_at
returns c = search branch depth 12

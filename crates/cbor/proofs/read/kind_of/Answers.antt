-- `cbor::read::kind_of` meets its contract, case by case of its test. Assumes nothing.
use Rattle.wire.proofs.Branch.{branch}
use Rattle.cbor.specs.Item.{kind_of}
use Rattle.cbor.proofs.read.kind_of.Goals as goal

pub returns-then-major-eq1 : goal.returns-then-major-eq1
unfolding kind_of
returns-then-major-eq1 c = search branch depth 12

pub returns : goal.returns
unfolding kind_of
returns c = search branch depth 12

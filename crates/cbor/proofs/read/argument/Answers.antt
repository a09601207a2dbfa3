-- `cbor::read::argument` meets its contract, case by case of its test. Assumes nothing.
use Rattle.cbor.specs.Item.{argument_at}
use Rattle.wire.proofs.Branch.{branch}
use Rattle.cbor.proofs.read.argument.Goals as goal

pub returns-then-info-lt24 : goal.returns-then-info-lt24
unfolding argument_at
returns-then-info-lt24 c = search branch depth 12

pub returns : goal.returns
unfolding argument_at
returns c = rw (← c.width.ensures.0) (search branch depth 12)

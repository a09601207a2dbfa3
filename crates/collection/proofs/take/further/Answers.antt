-- `take::further` meets its contract: another total, or the same. Assumes nothing.
use Rattle.collection.proofs.Taking.{taken_other, next_block, taken_next}
use Rattle.collection.proofs.take.further.Goals as goal

pub returns-then-total : goal.returns-then-total
returns-then-total c = search taken_other

pub slot-requires-clause-block_of : goal.slot-requires-clause-block_of
slot-requires-clause-block_of c = search next_block

pub returns : goal.returns
returns c = search taken_next

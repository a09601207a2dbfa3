-- `take::slot` meets its contract, for each state of the block. Assumes nothing.
use Rattle.collection.proofs.Blocks.{offered_first, offered_more, offered_same, offered_other}
use Rattle.collection.proofs.take.slot.Goals as goal

pub returns-in-Absent : goal.returns-in-Absent
returns-in-Absent c = search (offered_first, c.in-Absent.ensures)

pub returns-then-holds : goal.returns-then-holds
returns-then-holds c = search offered_same

pub returns-else-holds : goal.returns-else-holds
returns-else-holds c = search (offered_other, c.in-Held.ensures)

pub returns-in-Disputed : goal.returns-in-Disputed
returns-in-Disputed c = search (offered_more, c.in-Disputed.ensures)

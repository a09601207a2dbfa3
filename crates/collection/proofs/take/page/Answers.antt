-- `take::page` meets its contract, for each state of the head. Assumes nothing.
use borrow.Author.Rules.{rules}
use Rattle.collection.proofs.Taking.{of_state, taken_disagree, first_block, taken_first}
use Rattle.collection.proofs.take.page.Goals as goal

pub returns-then-state-eq-DISAGREE : goal.returns-then-state-eq-DISAGREE
returns-then-state-eq-DISAGREE c = search taken_disagree

pub slot-requires-clause-block_of : goal.slot-requires-clause-block_of
slot-requires-clause-block_of c = search first_block

pub returns-then-state-eq-EMPTY : goal.returns-then-state-eq-EMPTY
returns-then-state-eq-EMPTY c = search taken_first

pub further-requires-clause-of : goal.further-requires-clause-of
further-requires-clause-of c = (search rules, search of_state)

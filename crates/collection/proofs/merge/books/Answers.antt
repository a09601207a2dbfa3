-- `merge::books` meets its contract, for the states of the head that is read. Assumes nothing.
use borrow.Author.Rules.{rules}
use Rattle.collection.proofs.Merging.{theirs_empty, theirs_disagree}
use Rattle.collection.proofs.Taking.{of_state}
use Rattle.collection.proofs.merge.books.Goals as goal

pub returns-then-theirs-eq-EMPTY : goal.returns-then-theirs-eq-EMPTY
returns-then-theirs-eq-EMPTY c = search theirs_empty

pub returns-then-theirs-eq-DISAGREE : goal.returns-then-theirs-eq-DISAGREE
returns-then-theirs-eq-DISAGREE c = search theirs_disagree

pub collecting-requires-clause-of_2 : goal.collecting-requires-clause-of_2
collecting-requires-clause-of_2 c = (search rules, search of_state)

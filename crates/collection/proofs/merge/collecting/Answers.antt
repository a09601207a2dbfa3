-- `merge::collecting` meets its contract, for the states of the head that is written.
-- Assumes nothing.
use borrow.Author.Rules.{rules}
use Rattle.collection.proofs.Merging.{ours_disagree, totalled_of, totalled_one, totalled_merged, both_two}
use Rattle.collection.proofs.Taking.{of_state}
use Rattle.collection.proofs.merge.collecting.Goals as goal

pub returns-then-ours-eq-DISAGREE : goal.returns-then-ours-eq-DISAGREE
returns-then-ours-eq-DISAGREE c = search ours_disagree

pub pages-requires-clause-of : goal.pages-requires-clause-of
pages-requires-clause-of c = search totalled_of

pub pages-requires-clause-one_total : goal.pages-requires-clause-one_total
pages-requires-clause-one_total c = search totalled_one

pub returns-then-ours-eq-EMPTY : goal.returns-then-ours-eq-EMPTY
returns-then-ours-eq-EMPTY c = search totalled_merged

pub returns-then-total : goal.returns-then-total
returns-then-total c = search both_two

pub pages-requires-2-clause-one_total : goal.pages-requires-2-clause-one_total
pages-requires-2-clause-one_total c =
    (of_state _ _ c.requires.of _ c.state-ours.ensures c.if-ours-eq-EMPTY.false c.if-ours-eq-DISAGREE.false, search rules, cc)

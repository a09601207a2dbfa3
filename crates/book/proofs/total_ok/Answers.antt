-- `book::total_ok` meets its contract, by the state. Assumes nothing.
use Rattle.book.proofs.Heads.{total_zero, total_one, total_other, total_none}
use Rattle.book.proofs.total_ok.Goals as goal

pub returns-then-total-eq0 : goal.returns-then-total-eq0
returns-then-total-eq0 c = search total_zero

pub returns-then-state-eq-COLLECTING : goal.returns-then-state-eq-COLLECTING
returns-then-state-eq-COLLECTING c = search total_one

pub returns-then-state-le-DISAGREE : goal.returns-then-state-le-DISAGREE
returns-then-state-le-DISAGREE c = search total_other

pub returns : goal.returns
returns c = search total_none

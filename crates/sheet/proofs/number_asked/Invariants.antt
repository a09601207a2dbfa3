-- `sheet::number_asked` meets its contract. The loop's invariant: the whole answer is what the rest
-- of the word says from here. Assumes nothing.
use Rattle.sheet.proofs.Words.{Saying}
use Rattle.sheet.proofs.number_asked.Given as goal

abbrev pub invariant-loop-b : goal.invariant-loop-b
invariant-loop-b l = Saying l.most l.word l.n l.b-index

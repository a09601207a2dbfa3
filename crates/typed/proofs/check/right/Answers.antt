-- `typed::check::right` meets its contract. Assumes nothing.
use Rattle.typed.proofs.Weighing.{right_not, right_last}
use Rattle.typed.proofs.check.right.Goals as goal

pub returns-then-line-end : goal.returns-then-line-end
returns-then-line-end c = right_last _ _ _ c.requires.0 c.letters-check.ensures c.if-line-end.true

pub returns-else-line-end : goal.returns-else-line-end
returns-else-line-end c = right_not _ _ _ c.requires.0 c.letters-check.ensures c.if-line-end.false

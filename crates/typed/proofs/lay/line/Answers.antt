-- `typed::lay::line` meets its contract. Assumes nothing.
use Rattle.typed.proofs.Laying.{line_laid}
use Rattle.typed.proofs.lay.line.Goals as goal

pub returns : goal.returns
returns c = search line_laid

-- `typing::lay::of_line` meets its contract. Assumes nothing.
use Rattle.typing.proofs.Laying.{line_laid}
use Rattle.typing.proofs.lay.of_line.Goals as goal

pub returns : goal.returns
returns c = search line_laid

-- `typing::lay::count` meets its contract. Assumes nothing.
use Rattle.typing.proofs.Laying.{count_laid}
use Rattle.typing.proofs.lay.count.Goals as goal

pub returns : goal.returns
returns c = search count_laid

-- `typing::lay::whole` meets its contract. Assumes nothing.
use Rattle.typing.proofs.Laying.{whole_laid}
use Rattle.typing.proofs.lay.whole.Goals as goal

pub returns : goal.returns
returns c = search whole_laid

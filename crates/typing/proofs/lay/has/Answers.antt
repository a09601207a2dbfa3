-- `typing::lay::has` meets its contract. Assumes nothing.
use Rattle.typing.proofs.Laying.{few_laid, many_laid}
use Rattle.typing.proofs.lay.has.Goals as goal

pub returns-then-count-lt-FULL_LINE : goal.returns-then-count-lt-FULL_LINE
returns-then-count-lt-FULL_LINE c = search few_laid

pub returns : goal.returns
returns c = search many_laid

-- `typing::lay::encode` meets its contract. Assumes nothing.
use Rattle.typing.proofs.Laying.{text_never, text_laid}
use Rattle.typing.proofs.lay.encode.Goals as goal

pub returns-in_default : goal.returns-in_default
returns-in_default c = search text_never

pub returns : goal.returns
returns c = search text_laid

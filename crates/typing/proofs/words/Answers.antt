-- `typing::words` meets its contract. Assumes nothing.
use Rattle.typing.proofs.Laying.{words_given}
use Rattle.typing.proofs.words.Goals as goal

pub returns : goal.returns
returns c = search words_given

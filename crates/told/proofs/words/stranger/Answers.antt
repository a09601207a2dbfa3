-- `told::words::stranger` meets its contract. Assumes nothing.
use Rattle.told.proofs.Speech.{stranger_laid}
use Rattle.told.proofs.words.stranger.Goals as goal

pub returns : goal.returns
returns c = search stranger_laid

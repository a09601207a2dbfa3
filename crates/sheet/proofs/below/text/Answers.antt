-- `sheet::below::text` meets its contract. Assumes nothing.
use Rattle.sheet.proofs.Texts.{lines_laid}
use Rattle.sheet.proofs.below.text.Goals as goal

pub returns : goal.returns
returns c = search lines_laid

-- `sheet::id_line` meets its contract. Assumes nothing.
use Rattle.sheet.proofs.Ids.{id_laid}
use Rattle.sheet.proofs.id_line.Goals as goal

pub returns : goal.returns
returns c = search id_laid

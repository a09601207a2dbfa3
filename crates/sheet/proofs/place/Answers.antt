-- `sheet::place` meets its contract. Assumes nothing.
use Rattle.sheet.proofs.Laying.{place_laid}
use Rattle.sheet.proofs.place.Goals as goal

pub returns : goal.returns
returns c = search place_laid

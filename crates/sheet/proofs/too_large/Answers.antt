-- `sheet::too_large` meets its contract. Assumes nothing.
use Rattle.sheet.proofs.Refusals.{large_laid}
use Rattle.sheet.proofs.too_large.Goals as goal

pub returns : goal.returns
returns c = search large_laid

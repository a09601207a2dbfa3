-- `sheet::refused` meets its contract. Assumes nothing.
use Rattle.sheet.proofs.Refusals.{refusal_laid}
use Rattle.sheet.proofs.refused.Goals as goal

pub returns : goal.returns
returns c = search refusal_laid

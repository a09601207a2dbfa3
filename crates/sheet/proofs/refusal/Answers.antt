-- `sheet::refusal` meets its contract. Assumes nothing.
use Rattle.sheet.proofs.Sheets.{given}
use Rattle.sheet.proofs.refusal.Goals as goal

pub returns : goal.returns
returns c = search given

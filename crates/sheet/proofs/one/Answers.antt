-- `sheet::one` meets its contract. Assumes nothing.
use Rattle.sheet.proofs.Sheets.{one_past, one_there, given}
use Rattle.sheet.proofs.one.Goals as goal

pub returns-then-n-k : goal.returns-then-n-k
returns-then-n-k c = search one_past

pub returns : goal.returns
returns c = search (one_there, given)

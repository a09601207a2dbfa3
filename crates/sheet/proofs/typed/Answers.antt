-- `sheet::typed` meets its contract. Assumes nothing.
use Rattle.sheet.specs.Private.{sheet_of, sheet_verdict}
use Rattle.sheet.specs.Sheet.{typed_verdict, typed_sheet}
use Rattle.sheet.proofs.typed.Goals as goal

pub returns : goal.returns
unfolding typed_verdict typed_sheet sheet_of sheet_verdict
returns c = c.sheet.ensures

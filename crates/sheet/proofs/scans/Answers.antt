-- `sheet::scans` meets its contract. Assumes nothing.
use Rattle.sheet.specs.Private.{sheet_of, sheet_verdict}
use Rattle.sheet.specs.Sheet.{scan_verdict, scan_sheet}
use Rattle.sheet.proofs.scans.Goals as goal

pub returns : goal.returns
unfolding scan_verdict scan_sheet sheet_of sheet_verdict
returns c = c.sheet.ensures

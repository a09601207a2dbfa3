-- `sheet::ScannedLines::lines` meets its contract. Assumes nothing.
use native.Mathlib.Omega.{arith}
use Rattle.sheet.proofs.Sheets.{page_there, scan_laid}
use Rattle.sheet.proofs.ScannedLines.lines.Goals as goal

pub scan_line-requires : goal.scan_line-requires
scan_line-requires c = let r = c.requires in (page_there _ _ _ r.0 _ r.1, omega (arith, r.2))

pub returns : goal.returns
returns c = scan_laid _ _ _ c.requires.0 _ _ _ _ _ c.scan_line.ensures

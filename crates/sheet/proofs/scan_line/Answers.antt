-- `sheet::scan_line` meets its contract. Assumes nothing.
use borrow.Author.Rules.{rules}
use Rattle.sheet.proofs.Texts.{line_laid}
use Rattle.sheet.proofs.scan_line.Goals as goal

pub returns : goal.returns
returns c =
    line_laid _ _ _ _ _ _ _ _ _ (search rules) c.copy.ensures c.square-len.ensures (search rules)

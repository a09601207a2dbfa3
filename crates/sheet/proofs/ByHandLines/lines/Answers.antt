-- `sheet::ByHandLines::lines` meets its contract. Assumes nothing.
use native.Mathlib.Omega.{arith}
use borrow.Author.Rules.{rules}
use Rattle.sheet.proofs.Sheets.{page_there, total_most, typed_laid}
use Rattle.sheet.proofs.ByHandLines.lines.Goals as goal

pub overflow_cast-k : goal.overflow_cast-k
overflow_cast-k c = omega (arith, total_most _ _ _ c.requires.0, c.requires.1)

pub overflow_cast-n : goal.overflow_cast-n
overflow_cast-n c = omega (arith, total_most _ _ _ c.requires.0)

pub place-next-requires : goal.place-next-requires
place-next-requires c =
    let r = c.requires in
    let t = total_most _ _ _ r.0 in
    (omega (arith, r.1), omega arith, omega (arith, r.2))

pub lines-requires : goal.lines-requires
lines-requires c = (page_there _ _ _ c.requires.0 _ c.requires.1, search rules)

pub returns : goal.returns
returns c = typed_laid _ _ _ c.requires.0 _ _ _ _ _ _ _ c.requires.2 c.place-next.ensures c.lines.ensures

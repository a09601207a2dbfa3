-- `sheet::sheet` meets its contract. Assumes nothing.
use Rattle.wire.proofs.Answers.{err_is}
use Rattle.sheet.proofs.Sheets.{given, none_printed, all_printed}
use Rattle.sheet.proofs.sheet.Goals as goal

pub returns-in_err-n : goal.returns-in_err-n
returns-in_err-n g c = rw (err_is _ _ c.from_residual.ensures) (none_printed _ _ _ c.in_err-n.ensures _ _)

pub returns : goal.returns
returns g c = all_printed _ _ _ c.in_ok-n.ensures _ _ _ _ (given _ _ _ _ _ _ _ c.lay-len.ensures c.give.ensures)

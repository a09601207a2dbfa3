-- `sheet::typed_page` meets its contract. Assumes nothing.
use Rattle.wire.proofs.Answers.{err_is}
use Rattle.sheet.proofs.Sheets.{no_one_printed, one_printed}
use Rattle.sheet.proofs.typed_page.Goals as goal

pub returns-in_err-n : goal.returns-in_err-n
returns-in_err-n c = rw (err_is _ _ c.from_residual.ensures) (no_one_printed _ _ _ c.in_err-n.ensures _ _)

pub returns : goal.returns
returns c = one_printed _ _ _ c.in_ok-n.ensures _ _ _ _ c.one.ensures

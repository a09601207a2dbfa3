-- `envelope::write` meets its contract: the judge, then the cover's writer. Assumes nothing.
use Rattle.envelope.proofs.Answers.{write_faulty, write_short, write_fine}
use Rattle.envelope.proofs.write.Goals as goal

pub returns-in_err-parts : goal.returns-in_err-parts
returns-in_err-parts c = write_faulty _ _ _ _ _ c.from_residual.ensures c.in_err-parts.ensures

pub returns-in_err-len : goal.returns-in_err-len
returns-in_err-len c = write_short _ _ _ c.in_ok-parts.ensures _ _ _ c.from_residual-in_err-len.ensures c.in_err-len.ensures

pub returns : goal.returns
returns c = write_fine _ _ _ c.in_ok-parts.ensures _ _ c.in_ok-len.ensures

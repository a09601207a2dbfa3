use Rattle.wire.proofs.Answers.{handed}
use Rattle.manifest.proofs.Lists.{read_no, read_more, read_end}
use Rattle.manifest.proofs.files.run.Goals as goal

pub returns-in_err-file : goal.returns-in_err-file
returns-in_err-file c = search (handed _ _ c.from_residual.ensures, read_no, c.in_err-file.ensures)

pub loop-i-preserved : goal.loop-i-preserved
loop-i-preserved c = search (read_more, c.in_ok-file.ensures)

pub returns : goal.returns
returns c = search read_end
